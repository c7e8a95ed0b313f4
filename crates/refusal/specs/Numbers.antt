-- The number and the word of each refusal. Assumes nothing.
--   number_of r    the number that users see
--   word_of r      the word beside it, as bytes
use Rattle.std.specs.Prelude.{ℕ, List, codes}
use Rattle.refusal.specs.declared.Refusal.{Refusal}
use Rattle.refusal.specs.declared.Refusal.TheVariants.{Length, HostBits, Hop, Unknown, RoutesFull, LeavesFull, VerticesFull, StoreFull, Stride, ImageRows, ImageBroken, Line, Field, AnswerRow}

abbrev pub number_of : Refusal → ℕ
number_of Length = 1
number_of HostBits = 2
number_of Hop = 3
number_of Unknown = 4
number_of RoutesFull = 5
number_of LeavesFull = 6
number_of VerticesFull = 7
number_of StoreFull = 8
number_of Stride = 9
number_of ImageRows = 10
number_of ImageBroken = 11
number_of Line = 12
number_of (Field column) = 13
number_of AnswerRow = 14

abbrev pub word_of : Refusal → List ℕ
word_of Length = codes "length"
word_of HostBits = codes "host bits"
word_of Hop = codes "hop"
word_of Unknown = codes "unknown"
word_of RoutesFull = codes "routes full"
word_of LeavesFull = codes "leaves full"
word_of VerticesFull = codes "vertices full"
word_of StoreFull = codes "store full"
word_of Stride = codes "stride"
word_of ImageRows = codes "image rows"
word_of ImageBroken = codes "image broken"
word_of Line = codes "line"
word_of (Field column) = codes "field"
word_of AnswerRow = codes "answer row"
