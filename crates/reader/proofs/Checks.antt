-- The checks on rows. Assumes nothing.
use Rattle.std.proofs.Common.{◌≡◌, ℕ, ◌*◌, ◌/◌, ◌^◌, ◌<◌, ◌≤◌, ◌⊎◌, List, length, Some, None, inl, inr, div-lt_iff_lt-mul, le-div_iff_mul-le, arith}
use Rattle.std.proofs.lemmas.Nat.{pow_pos}
use Rattle.std.proofs.lemmas.Bool.Decides.{nat_tests}
use Rattle.refusal.specs.declared.Refusal.TheVariants.{ImageRows}
use Rattle.reader.specs.Rows.{rows_refusal}

module _ (es ms : List ℕ) (s V : ℕ) (least : 1 ≤ s) (most : s ≤ 6) where
  pub refused_short : (length es / 2 ^ s < V) ⊎ ((V ≤ length es / 2 ^ s) × (length ms < V)) → rows_refusal es ms s V ≡ Some ImageRows
  refused_short (inl h) = let less : length es < V * 2 ^ s = (div-lt_iff_lt-mul (pow_pos s)).0 h in grind (arith, nat_tests)
  refused_short (inr h) = let less : length ms < V = h.1 in grind (arith, nat_tests)

  pub long_enough : V ≤ length es / 2 ^ s → V ≤ length ms → rows_refusal es ms s V ≡ None
  long_enough h k = let less : V * 2 ^ s ≤ length es = (le-div_iff_mul-le (pow_pos s)).0 h in grind (arith, nat_tests)
