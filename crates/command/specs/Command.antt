-- Commands: which line is one, and where its fields are. Assumes nothing.
--   Part               a field as a part of its line: its bytes, and the column of its first byte (of its place, if it is empty), counted from 1
--   placed c fs        the fields fs as parts of a line, where the first stands at column c
--   Command            announce (address, length, hop), withdraw (address, length), lookup (address), count
--   announced ps, withdrawn ps, looked_up ps, counted ps     the command of that kind with the fields ps, if they are as many as it asks
--   by_letter b ps     the command whose letter is b, with the fields ps
--   commanded ps       the command that the parts of a line make: its letter is known, and it has as many fields as its letter asks
--   most_bytes         a command has at most 80 bytes
--   command_of bs      the command that the line bs is, if it is one
--   part_of f          a field of the reader, as a part of the line
--   spelled c          a command of the reader, by its parts
--   Reads x r          the reader's answer r is the command x, or none
use Rattle.std.specs.Prelude.{◌≡◌, ℕ, ◌+◌, cond, List, [], ◌∷◌, length, Some, None, Option, MatchOption, ◌==◌, nat_lt}
use Rattle.text.specs.Fields.{fields}
use Rattle.command.specs.declared.Field.{Field}
use Rattle.command.specs.declared.Command as code
use Rattle.command.specs.declared.Command.TheVariants as cases

pub record Part : Type 0 where
  pub bytes : List ℕ
  pub column : ℕ

unfoldable pub placed : ℕ → List (List ℕ) → List Part
placed c [] = []
placed c (f ∷ fs) = record { bytes = f; column = c } ∷ placed (c + length f + 1) fs

pub data Command : Type 0 where
  announce : Part → Part → Part → Command
  withdraw : Part → Part → Command
  lookup : Part → Command
  count : Command

abbrev pub announced : List Part → Option Command
announced [] = None
announced (a ∷ []) = None
announced (a ∷ n ∷ []) = None
announced (a ∷ n ∷ h ∷ []) = Some (announce a n h)
announced (a ∷ n ∷ h ∷ x ∷ xs) = None

abbrev pub withdrawn : List Part → Option Command
withdrawn [] = None
withdrawn (a ∷ []) = None
withdrawn (a ∷ n ∷ []) = Some (withdraw a n)
withdrawn (a ∷ n ∷ x ∷ xs) = None

abbrev pub looked_up : List Part → Option Command
looked_up [] = None
looked_up (a ∷ []) = Some (lookup a)
looked_up (a ∷ x ∷ xs) = None

abbrev pub counted : List Part → Option Command
counted [] = Some count
counted (x ∷ xs) = None

-- A is 65, W 87, L 76 and Q 81
abbrev pub by_letter : ℕ → List Part → Option Command
by_letter b ps = cond (b == 65) (announced ps) (cond (b == 87) (withdrawn ps) (cond (b == 76) (looked_up ps) (cond (b == 81) (counted ps) None)))

-- the first field is one letter
abbrev pub by_first : List ℕ → List Part → Option Command
by_first [] ps = None
by_first (b ∷ []) ps = by_letter b ps
by_first (b ∷ c ∷ bs) ps = None

abbrev pub commanded : List Part → Option Command
commanded [] = None
commanded (p ∷ ps) = by_first p.bytes ps

abbrev pub most_bytes : ℕ
most_bytes = 80

abbrev pub command_of : List ℕ → Option Command
command_of bs = cond (nat_lt most_bytes (length bs)) None (commanded (placed 1 (fields bs)))

abbrev pub part_of : Field → Part
part_of f = record { bytes = f.bytes.now; column = f.column }

abbrev pub spelled : code.Command → Command
spelled (cases.Announce a n h) = announce (part_of a) (part_of n) (part_of h)
spelled (cases.Withdraw a n) = withdraw (part_of a) (part_of n)
spelled (cases.Lookup a) = lookup (part_of a)
spelled cases.Count = count

abbrev pub Reads : Option Command → Option code.Command → Type 0
Reads x r = MatchOption r (x ≡ None) (λ c. x ≡ Some (spelled c))
