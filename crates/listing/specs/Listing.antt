-- What a line of a listing stands for. Assumes nothing.
--   Reading               a prefix, by the row of its bits, or a refusal
--   address_row f         the bits of an address field: 8 hexadecimal digits are IPv4, 32 are IPv6
--   read_prefix bs        what an address and a length, parted by a comma, stand for
--   Reads                 an answer is what the line stands for
use Rattle.std.specs.Prelude.{◌≡◌, ℕ, ◌+◌, cond, ◌||◌, List, [], ◌∷◌, length, take, Some, None, Option, Result, MatchResult, ◌==◌}
use Rattle.bits.specs.Rows.{Bits}
use Rattle.refusal.specs.declared.Refusal.{Refusal}
use Rattle.refusal.specs.declared.Refusal.TheVariants.{Line, Field}
use Rattle.net.specs.declared.prefix.Prefix.{Prefix}
use Rattle.net.specs.Prefix.{row_of, refusal_of}
use Rattle.text.specs.Fields.{fields, decimal, hex_row}

pub data Reading : Type 0 where
  refused : Refusal → Reading
  prefix : Bits → Reading

abbrev pub address_row : List ℕ → Option Bits
address_row f = cond (length f == 8 || length f == 32) (hex_row f) None

-- the first n bits of an address, unless a check refuses
abbrev pub checked : Option Refusal → Bits → ℕ → Reading
checked (Some e) a n = refused e
checked None a n = prefix (take n a)

-- an address field and a length field, which begins at the given column
abbrev pub read_two : Option Bits → Option ℕ → ℕ → Reading
read_two None None column = refused (Field 1)
read_two None (Some n) column = refused (Field 1)
read_two (Some a) None column = refused (Field column)
read_two (Some a) (Some n) column = checked (refusal_of (length a) a n) a n

abbrev pub read_fields : List (List ℕ) → Reading
read_fields [] = refused Line
read_fields (f ∷ []) = refused Line
read_fields (f ∷ g ∷ []) = read_two (address_row f) (decimal g) (length f + 2)
read_fields (f ∷ g ∷ h ∷ fs) = refused Line

abbrev pub read_prefix : List ℕ → Reading
read_prefix bs = read_fields (fields bs)

abbrev pub Reads : Reading → Result Prefix Refusal → Type 0
Reads x r = MatchResult r (λ p. x ≡ prefix (row_of p)) (λ e. x ≡ refused e)
