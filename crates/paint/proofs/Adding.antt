-- Counting the leaves that have no entry, one after another. Assumes nothing.
use Rattle.std.proofs.Common.{◌≡◌, ℕ, ◌+◌, ◌-◌, ◌^◌, ◌≤◌, min, cond, List, Result, Ok, arith}
use Rattle.bits.specs.Lists.{only, count}
use Rattle.bits.specs.Rows.{Bits}
use Rattle.store.specs.Content.{Map}
use Rattle.paint.specs.Reach.{has, nameable, Visits, visits_none, visits_more}
use Rattle.paint.specs.Paint.{missing}

-- one more, where the row is a leaf's that has no entry
abbrev pub Adds : {E : Type 0} → Map → ℕ → Bits → Result (Unit {0}) E → ℕ → Type 0
Adds leaves n x r m = m ≡ cond (nameable x) (min (n + cond (has leaves x) 0 1) (2 ^ 64 - 1)) n

added : {E : Type 0} (leaves : Map) (xs : List Bits) (n m : ℕ) → n ≤ 2 ^ 64 - 1 → Visits {E = E} (Adds leaves) xs n (Ok tt) m
    → m ≡ min (n + count (missing leaves) (only nameable xs)) (2 ^ 64 - 1)
added leaves xs n m most visits_none = omega arith
added leaves xs n m most (visits_more {x} {xs = rest} {m = next} step h) =
    let most_next : next ≤ 2 ^ 64 - 1 = grind (arith, step, most) in
    let ih = added leaves rest next m most_next h in grind (arith, step, ih)

pub from_none : {E : Type 0} (leaves : Map) (xs : List Bits) (m : ℕ) → Visits {E = E} (Adds leaves) xs 0 (Ok tt) m
    → m ≡ min (count (missing leaves) (only nameable xs)) (2 ^ 64 - 1)
from_none leaves xs m h = omega (arith, added leaves xs 0 m (omega arith) h)
