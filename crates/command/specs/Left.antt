-- The fields that are left of a line. Assumes nothing.
--   parts_left c o   the parts of the bytes o, if there are any, where the first stands at column c
--   left s           the parts that the fields s still give
--   Done s b         b tells whether no part is left
--   Gives s r t      s gives the first part that is left, and t is left with the others; none comes where none is left
use Rattle.std.specs.Prelude.{◌≡◌, ℕ, Bool, List, [], ◌∷◌, Some, None, MatchBool, Option, MatchOption}
use Rattle.std.specs.Borrow.{Bor}
use Rattle.text.specs.Fields.{fields}
use Rattle.command.specs.Command.{Part, placed, part_of}
use Rattle.command.specs.declared.Field.{Field}
use Rattle.command.specs.declared.fields.Fields.{Fields}

abbrev pub parts_left : ℕ → Option (Bor (List ℕ)) → List Part
parts_left c None = []
parts_left c (Some r) = placed c (fields r.now)

abbrev pub left : Fields → List Part
left s = parts_left s.column s.rest

abbrev pub Done : Fields → Bool → Type 0
Done s b = MatchBool b (left s ≡ []) ((p : Part) × (ps : List Part) × (left s ≡ p ∷ ps))

abbrev pub Gives : Fields → Option Field → Fields → Type 0
Gives s r t = MatchOption r ((left s ≡ []) × (left t ≡ [])) (λ f. left s ≡ part_of f ∷ left t)
