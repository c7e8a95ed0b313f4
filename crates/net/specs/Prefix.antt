-- What a prefix means. Assumes nothing.
--   row_of p             the row of its bits
--   refusal_of w a n     the first check that refuses a prefix of n bits of the row a, in a family of width w
--   Makes w a n r        r is what making the prefix of the first n bits of the row a answers, in a family of width w
--   PrefixLaws          a prefix is as long as its row, and there is one prefix for a row
use Rattle.std.specs.Prelude.{◌≡◌, ℕ, cond, length, take, drop, Some, None, Option, Result, MatchResult, nat_lt}
use Rattle.bits.specs.Rows.{Bits, any_one, halves}
use Rattle.refusal.specs.declared.Refusal.{Refusal}
use Rattle.refusal.specs.declared.Refusal.TheVariants.{Length, HostBits}
use Rattle.net.specs.declared.prefix.Prefix.{Prefix}

unfoldable pub row_of : Prefix → Bits
row_of p = take p.len (halves p.halves.first p.halves.second)

abbrev pub refusal_of : ℕ → Bits → ℕ → Option Refusal
refusal_of w a n = cond (nat_lt w n) (Some Length) (cond (any_one (drop n a)) (Some HostBits) None)

abbrev pub Makes : ℕ → Bits → ℕ → Result Prefix Refusal → Type 0
Makes w a n r = MatchResult r (λ p. (refusal_of w a n ≡ None) × (row_of p ≡ take n a)) (λ e. refusal_of w a n ≡ Some e)

pub record PrefixLaws : Type 0 where
  pub as_long : (p : Prefix) → length (row_of p) ≡ p.len
  pub one_for_a_row : (p q : Prefix) → row_of p ≡ row_of q → p ≡ q
