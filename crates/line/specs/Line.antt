-- What a line means: a call, or a refusal. Assumes nothing.
--   Reading            a call, or a refusal
--   address W bs       the row of W bits that W / 4 lower-case hexadecimal digits write
--   field p read next  what comes next of what the part p writes; where it is ill written, the refusal with its column
--   meant W c          the call that a command is, unless a field is ill written: the leftmost such field is refused
--   read_line W bs     what the line bs means to a family of W bits; where W is no multiple of 4 no line has a meaning
--   ReadsField k o m r   the answer r is what the field at column k writes, by its meaning m; where it writes nothing, its refusal
--   Means row x r      the answer r is the reading x, where row is what an address means
use Rattle.std.specs.Prelude.{◌≡◌, ℕ, ◌*◌, ◌%◌, cond, List, length, Some, None, Option, Result, MatchResult, ◌==◌}
use Rattle.bits.specs.Rows.{Bits}
use Rattle.refusal.specs.declared.Refusal.{Refusal}
use Rattle.refusal.specs.declared.Refusal.TheVariants.{Line, Field}
use Rattle.text.specs.Fields.{decimal, hex_row}
use Rattle.tree.specs.Ledger as l
use Rattle.command.specs.Command.{Part, Command, announce, withdraw, lookup, count, command_of}
use Rattle.engine.specs.Calls.{call_of}
use Rattle.engine.specs.declared.call.Call.{Call}

pub data Reading : Type 0 where
  call : l.Call → Reading
  bad : Refusal → Reading

abbrev pub address : ℕ → List ℕ → Option Bits
address W bs = cond (4 * length bs == W) (hex_row bs) None

-- where the part that begins at the column writes nothing, it is refused
abbrev pub from_field : {A : Type 0} → ℕ → (A → Reading) → Option A → Reading
from_field column next None = bad (Field column)
from_field column next (Some x) = next x

abbrev pub field : {A : Type 0} → Part → (List ℕ → Option A) → (A → Reading) → Reading
field p read next = from_field p.column next (read p.bytes)

abbrev pub meant : ℕ → Command → Reading
meant W (announce a n h) = field a (address W) (λ x. field n decimal (λ len. field h decimal (λ hop. call (l.announce x len hop))))
meant W (withdraw a n) = field a (address W) (λ x. field n decimal (λ len. call (l.withdraw x len)))
meant W (lookup a) = field a (address W) (λ x. call (l.lookup x))
meant W count = call l.count

abbrev pub understood : ℕ → Option Command → Reading
understood W None = bad Line
understood W (Some c) = meant W c

abbrev pub read_line : ℕ → List ℕ → Reading
read_line W bs = cond (W % 4 == 0) (understood W (command_of bs)) (bad Line)

abbrev pub Means : {F : Type 0} → (F → Bits) → Reading → Result (Call F) Refusal → Type 0
Means row x r = MatchResult r (λ c. x ≡ call (call_of row c)) (λ e. x ≡ bad e)

abbrev pub ReadsField : {A B : Type 0} → ℕ → Option A → (B → Option A) → Result B Refusal → Type 0
ReadsField column o mean r = MatchResult r (λ x. o ≡ mean x) (λ e. (o ≡ None) × (e ≡ Field column))
