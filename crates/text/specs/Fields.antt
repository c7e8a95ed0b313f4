-- The fields of a line, as bytes, and what they write. Assumes nothing.
--   first_of m bs      the place of the first byte m, if there is one
--   end_of_line bs k   the end of the line that begins at place k: the next line feed, or the end of the input
--   parted m bs        the parts between the bytes m
--   fields bs          the fields of a line, parted by commas
--   decimal bs         the number of one to five decimal digits without a leading zero, 0 itself excepted
--   hex_digit b        the value of a lower-case hexadecimal digit
--   hex_row bs         the bits of lower-case hexadecimal digits, four for each
--   Holds row h        the two halves h hold the row, which has up to 128 bits, and zeros behind it
use Rattle.std.specs.Prelude.{◌≡◌, ℕ, suc, ◌+◌, ◌-◌, ◌*◌, Bool, cond, not, ◌&&◌, ◌||◌, List, [], ◌∷◌, ◌++◌, length, drop, Some, None, Option, ◌==◌, nat_le, nat_lt, slice_index}
use Rattle.bits.specs.Rows.{Bits, halves, padded, word}
use Rattle.bits.specs.declared.halves.Halves.{Halves}

abbrev pub one_more : Option ℕ → Option ℕ
one_more None = None
one_more (Some i) = Some (suc i)

unfoldable pub first_of : ℕ → List ℕ → Option ℕ
first_of m [] = None
first_of m (b ∷ bs) = cond (b == m) (Some 0) (one_more (first_of m bs))

abbrev pub moved : ℕ → ℕ → Option ℕ → ℕ
moved all k None = all
moved all k (Some i) = k + i

abbrev pub end_of_line : List ℕ → ℕ → ℕ
end_of_line bs k = moved (length bs) k (first_of 10 (drop k bs))

-- b in front of the first part
abbrev pub in_front : ℕ → List (List ℕ) → List (List ℕ)
in_front b [] = (b ∷ []) ∷ []
in_front b (f ∷ fs) = (b ∷ f) ∷ fs

unfoldable pub parted : ℕ → List ℕ → List (List ℕ)
parted m [] = [] ∷ []
parted m (b ∷ bs) = cond (b == m) ([] ∷ parted m bs) (in_front b (parted m bs))

abbrev pub fields : List ℕ → List (List ℕ)
fields bs = parted 44 bs

abbrev pub is_digit : ℕ → Bool
is_digit b = nat_le 48 b && nat_le b 57

-- the number n, with decimal digits behind it
unfoldable pub decimal_from : ℕ → List ℕ → Option ℕ
decimal_from n [] = Some n
decimal_from n (b ∷ bs) = cond (is_digit b) (decimal_from (n * 10 + (b - 48)) bs) None

-- one to five bytes, of which the first is a zero only if it is the only one
abbrev pub well_sized : List ℕ → Bool
well_sized bs = nat_lt 0 (length bs) && nat_le (length bs) 5 && (length bs == 1 || not (slice_index bs 0 == 48))

abbrev pub decimal : List ℕ → Option ℕ
decimal bs = cond (well_sized bs) (decimal_from 0 bs) None

abbrev pub hex_digit : ℕ → Option ℕ
hex_digit b = cond (is_digit b) (Some (b - 48)) (cond (nat_le 97 b && nat_le b 102) (Some (b - 87)) None)

-- the bits of a digit, and a row behind them
abbrev pub joined : Option ℕ → Option Bits → Option Bits
joined (Some d) (Some q) = Some (word 4 d ++ q)
joined (Some d) None = None
joined None (Some q) = None
joined None None = None

unfoldable pub hex_row : List ℕ → Option Bits
hex_row [] = Some []
hex_row (b ∷ bs) = joined (hex_digit b) (hex_row bs)

abbrev pub Holds : Option Bits → Option Halves → Type 0
Holds (Some q) (Some h) = halves h.first h.second ≡ padded 128 q
Holds (Some q) None = ⊥
Holds None (Some h) = ⊥
Holds None None = Unit {0}
