-- Which rows hold an image of a stride. Assumes nothing.
--   bad_stride s                the number s is no stride: it is refused as one
--   StrideMade s r              r is what making a stride of the number s answers
--   short_rows edges marks s V  the rows have no room for V vertices of the stride s
--   rows_refusal e m s V        the first check that refuses the rows e and m, for V vertices of the stride s
--   RowsChecked e m s V r      r is what checking them answers: the stride, or that refusal
use Rattle.std.specs.Prelude.{◌≡◌, ℕ, ◌*◌, Bool, true, false, cond, ◌||◌, List, length, Some, None, Option, Result, MatchResult, nat_lt}
use Rattle.refusal.specs.declared.Refusal.{Refusal}
use Rattle.refusal.specs.declared.Refusal.TheVariants.{Stride, ImageRows}
use Rattle.image.specs.Image.{edges_each}
use Rattle.reader.specs.declared.stride.Stride as stride

-- strides are 1 to 6
abbrev pub bad_stride : ℕ → Bool
bad_stride s = nat_lt s 1 || nat_lt 6 s

abbrev pub StrideMade : ℕ → Result stride.Stride Refusal → Type 0
StrideMade s r = MatchResult r (λ t. (bad_stride s ≡ false) × (t.bits ≡ s)) (λ e. (bad_stride s ≡ true) × (e ≡ Stride))

abbrev pub short_rows : List ℕ → List ℕ → ℕ → ℕ → Bool
short_rows edges marks s V = nat_lt (length edges) (V * edges_each s) || nat_lt (length marks) V

abbrev pub rows_refusal : List ℕ → List ℕ → ℕ → ℕ → Option Refusal
rows_refusal edges marks s V = cond (bad_stride s) (Some Stride) (cond (short_rows edges marks s V) (Some ImageRows) None)

abbrev pub RowsChecked : List ℕ → List ℕ → ℕ → ℕ → Result stride.Stride Refusal → Type 0
RowsChecked edges marks s V r = MatchResult r (λ t. (rows_refusal edges marks s V ≡ None) × (t.bits ≡ s)) (λ e. rows_refusal edges marks s V ≡ Some e)
