-- The largest of some numbers, and of one more. Assumes nothing.
use Rattle.std.proofs.Common.{◌≡◌, ℕ, max, List, [], ◌∷◌, ◌++◌, arith}
use Rattle.chooser.specs.Load.{most}

pub most_push : (xs : List ℕ) (n : ℕ) → most (xs ++ (n ∷ [])) ≡ max (most xs) n
most_push [] n = omega arith
most_push (x ∷ xs) n = omega (arith, most_push xs n)
