-- Which numbers are hops. Assumes nothing.
--   greatest_hop     hops are 1 to 65,535
--   bad_hop h        the number is no hop: it is refused as one
--   Hops n r         r is the number n as a hop, or the refusal of a number that is none
use Rattle.std.specs.Prelude.{◌≡◌, ℕ, Bool, true, false, ◌||◌, Result, MatchResult, ◌==◌, nat_lt}
use Rattle.refusal.specs.declared.Refusal.{Refusal}
use Rattle.refusal.specs.declared.Refusal.TheVariants.{Hop}

abbrev pub greatest_hop : ℕ
greatest_hop = 65535

abbrev pub bad_hop : ℕ → Bool
bad_hop h = h == 0 || nat_lt greatest_hop h

abbrev pub Hops : ℕ → Result ℕ Refusal → Type 0
Hops n r = MatchResult r (λ h. (bad_hop n ≡ false) × (h ≡ n)) (λ why. (bad_hop n ≡ true) × (why ≡ Hop))
