-- How an answer is written. Assumes nothing.
--   column_of r      the column that a refusal names: that of the bad field, and 1 for any other refusal
--   said x           the words and numbers that say the answer x
--   written x        the line that says it, with its line feed
--   Few x            no number in the answer x has more than 20 digits
--   most_held        a buffer holds up to 81 bytes
use Rattle.std.specs.Prelude.{ℕ, ◌≤◌, List, [], ◌∷◌, ◌++◌, length, codes, decimal}
use Rattle.refusal.specs.Numbers.{number_of}
use Rattle.refusal.specs.declared.Refusal.{Refusal}
use Rattle.refusal.specs.declared.Refusal.TheVariants.{Length, HostBits, Hop, Unknown, RoutesFull, LeavesFull, VerticesFull, StoreFull, Stride, ImageRows, ImageBroken, Line, Field, AnswerRow}
use Rattle.tree.specs.Ledger.{Answer, changed, hop, none, counts, refused}

abbrev pub column_of : Refusal → ℕ
column_of Length = 1
column_of HostBits = 1
column_of Hop = 1
column_of Unknown = 1
column_of RoutesFull = 1
column_of LeavesFull = 1
column_of VerticesFull = 1
column_of StoreFull = 1
column_of Stride = 1
column_of ImageRows = 1
column_of ImageBroken = 1
column_of Line = 1
column_of (Field column) = column
column_of AnswerRow = 1

-- a word or a mark, and a number behind it
abbrev pub labelled : List ℕ → ℕ → List ℕ
labelled word n = word ++ decimal n

abbrev pub said : Answer → List ℕ
said (changed n) = labelled (codes "ok,") n
said (hop h) = labelled (codes "hop,") h
said none = codes "none"
said (counts routes leaves vertices) = labelled (codes "count,") routes ++ (labelled (codes ",") leaves ++ labelled (codes ",") vertices)
said (refused r) = labelled (codes "no,") (number_of r) ++ labelled (codes ",") (column_of r)

abbrev pub written : Answer → List ℕ
written x = said x ++ (10 ∷ [])

abbrev pub short_number : ℕ → Type 0
short_number n = length (decimal n) ≤ 20

abbrev pub Few : Answer → Type 0
Few (changed n) = short_number n
Few (hop h) = short_number h
Few none = Unit {0}
Few (counts routes leaves vertices) = short_number routes × short_number leaves × short_number vertices
Few (refused r) = short_number (column_of r)

abbrev pub most_held : ℕ
most_held = 81
