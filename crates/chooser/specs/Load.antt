-- The largest of some numbers. Assumes nothing.
--   most xs      the largest member of xs, and 0 where there is none
use Rattle.std.specs.Prelude.{ℕ, max, List, [], ◌∷◌}

abbrev pub most : List ℕ → ℕ
most [] = 0
most (x ∷ xs) = max x (most xs)
