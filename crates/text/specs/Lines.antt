-- The lines of an input. Assumes nothing.
--   lines bs      the lines of the bytes bs, in order: each is the bytes before a line feed or before the end of the input.
--                 An empty input has none, and none follows a last line feed
use Rattle.std.specs.Prelude.{ℕ, cond, List, [], ◌∷◌, ◌==◌}
use Rattle.text.specs.Fields.{in_front}

unfoldable pub lines : List ℕ → List (List ℕ)
lines [] = []
lines (b ∷ bs) = cond (b == 10) ([] ∷ lines bs) (in_front b (lines bs))
