-- A session: an input that comes in pieces, cut anywhere, and the replies to its lines. Assumes nothing.
--   ended bs            the lines of the input so far that a line feed has ended
--   unended bs          what follows the last line feed
--   Hearing             what a session is to its callers: the state of its engine, and what it kept of the line that has not ended
--   Heard g i o s       the session s was fed the bytes i in all, and has given out the bytes o in all:
--                       o are the replies to the lines that i has ended, and the engine has made their calls
--   Over g i o s        the whole input was i, and all that was given out, o, are the replies to its lines, in order, by the ledger
use Rattle.std.specs.Prelude.{◌≡◌, ℕ, List, [], ◌∷◌, take}
use Rattle.text.specs.Fields.{parted}
use Rattle.text.specs.Lines.{lines}
use Rattle.tree.specs.Ledger.{Given}
use Rattle.engine.specs.State.{State}
use Rattle.line.specs.Reply.{most_held}
use Rattle.line.specs.Told.{replies, Told}

-- all parts but the last, and the last
abbrev pub all_but_last : List (List ℕ) → List (List ℕ)
all_but_last [] = []
all_but_last (p ∷ []) = []
all_but_last (p ∷ q ∷ ps) = p ∷ all_but_last (q ∷ ps)

abbrev pub last_of : List (List ℕ) → List ℕ
last_of [] = []
last_of (p ∷ []) = p
last_of (p ∷ q ∷ ps) = last_of (q ∷ ps)

abbrev pub ended : List ℕ → List (List ℕ)
ended bs = all_but_last (parted 10 bs)

abbrev pub unended : List ℕ → List ℕ
unended bs = last_of (parted 10 bs)

pub record Hearing : Type 0 where
  pub engine : State
  pub line : List ℕ

pub record Heard (g : Given) (input output : List ℕ) (s : Hearing) : Type 0 where
  pub given : output ≡ replies g [] (ended input)
  pub told : Told g (ended input) s.engine
  -- of an unfinished line no more is kept than it takes to tell that it is too long
  pub kept : s.line ≡ take most_held (unended input)

-- the input has come to its end
pub record Over (g : Given) (input output : List ℕ) (s : Hearing) : Type 0 where
  pub given : output ≡ replies g [] (lines input)
  pub told : Told g (lines input) s.engine
  pub kept : s.line ≡ []
