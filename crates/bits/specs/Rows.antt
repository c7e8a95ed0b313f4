-- Rows of bits. Assumes nothing.
--   Bits              a row of bits, the first one first
--   same p q          the rows are equal, as a test
--   begins p q        q begins with p
--   any_one p         some bit of the row is 1
--   word w n          the w lowest bits of the number n, the most significant first
--   padded w p        the row p, filled up with 0 bits to w bits
--   halves a b        the 128 bits of two numbers of 64 bits, a's first
use Rattle.std.specs.Prelude.{ℕ, zero, suc, ◌-◌, ◌/◌, ◌%◌, Bool, true, false, ◌&&◌, List, [], ◌∷◌, ◌++◌, length, replicate, ◌==◌}
use Rattle.std.specs.Bool.{beq}
use Rattle.bits.specs.Lists.{any}

abbrev pub Bits : Type 0
Bits = List Bool

abbrev pub same : Bits → Bits → Bool
same [] [] = true
same [] (c ∷ q) = false
same (b ∷ p) [] = false
same (b ∷ p) (c ∷ q) = beq b c && same p q

abbrev pub begins : Bits → Bits → Bool
begins [] q = true
begins (b ∷ p) [] = false
begins (b ∷ p) (c ∷ q) = beq b c && begins p q

abbrev pub any_one : Bits → Bool
any_one p = any (λ b. b) p

unfoldable pub word : ℕ → ℕ → Bits
word zero n = []
word (suc w) n = word w (n / 2) ++ ((n % 2 == 1) ∷ [])

abbrev pub padded : ℕ → Bits → Bits
padded w p = p ++ replicate (w - length p) false

abbrev pub halves : ℕ → ℕ → Bits
halves a b = word 64 a ++ word 64 b
