-- The engine's calls and answers as the ledger's. Assumes nothing.
--   given_by w a b        what the ledger knows: the width, and the limits of the stores of the routes and of the leaves
--   call_of row c         the ledger's call, where row is what an address means
--   answer_of x           the ledger's answer
--   counts_answer t       what a count answers
--   change_answer r       what a change answers
--   Answers g rs c x      the ledger answers the call c by x
--   calls_of row ts       the calls of a list of turns, in their order
--   answers_of ts         their answers
use Rattle.std.specs.Prelude.{◌≡◌, ℕ, List, map, Ok, Err, Result}
use Rattle.bits.specs.Rows.{Bits}
use Rattle.refusal.specs.declared.Refusal.{Refusal}
use Rattle.tree.specs.Tree.{Routes}
use Rattle.tree.specs.Ledger as l
use Rattle.store.specs.Content.{Content}
use Rattle.engine.specs.declared.call.Call.{Call}
use Rattle.engine.specs.declared.call.Call.TheVariants.{Announce, Withdraw, Lookup, Count}
use Rattle.engine.specs.declared.call.Answer.{Answer}
use Rattle.engine.specs.declared.run.Turn.{Turn}
use Rattle.engine.specs.declared.call.Answer.TheVariants.{Changed, Hop, NoRoute, Counts, Refused}

abbrev pub given_by : ℕ → Content → Content → l.Given
given_by w routes leaves = record { width = w; route_limit = routes.limit; leaf_limit = leaves.limit }

abbrev pub call_of : {F : Type 0} → (F → Bits) → Call F → l.Call
call_of row (Announce a n h) = l.announce (row a) n h
call_of row (Withdraw a n) = l.withdraw (row a) n
call_of row (Lookup a) = l.lookup (row a)
call_of row Count = l.count

abbrev pub answer_of : Answer → l.Answer
answer_of (Changed n) = l.changed n
answer_of (Hop h) = l.hop h
answer_of NoRoute = l.none
answer_of (Counts n m k) = l.counts n m k
answer_of (Refused r) = l.refused r

abbrev pub counts_answer : (ℕ × ℕ × ℕ) → l.Answer
counts_answer t = l.counts t.0 t.1 t.2

abbrev pub change_answer : Result ℕ Refusal → l.Answer
change_answer (Ok n) = l.changed n
change_answer (Err r) = l.refused r

abbrev pub Answers : l.Given → Routes → l.Call → l.Answer → Type 0
Answers g rs c x = (l.turn g rs c).1 ≡ x

abbrev pub calls_of : {F : Type 0} → (F → Bits) → List (Turn F) → List l.Call
calls_of row ts = map (λ t. call_of row t.call) ts

abbrev pub answers_of : {F : Type 0} → List (Turn F) → List l.Answer
answers_of ts = map (λ t. answer_of t.answer) ts
