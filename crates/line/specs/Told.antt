-- Lines told to an engine, one after the other. Assumes nothing.
--   calls_in x            the call that a reading is, if it is one
--   line_calls W ls       the calls that the lines ls stand for, in their order
--   line_turn g rs bs     the ledger's list after the line bs, and the answer to it: a line that is refused leaves the list as it was
--   replies g rs ls       what is written to the lines ls, one after the other, where the routes rs stand at first
--   reply_to g ls bs      what is written to the line bs after the lines ls
--   least_row             a row for an answer has at least 40 bytes
--   Told g ls s           an engine in the state s has made the calls of the lines ls from its set-up on: the law over runs holds of them
--   RowKept a b r        a row of under 40 bytes is refused, and stays as it was; of any other the bytes behind those written do. a before, b after
--   Replied bs a b r      the row, a before and b after, begins with the reply bs and is else as it was; r is the number of bytes written
use Rattle.std.specs.Prelude.{◌≡◌, ℕ, ◌<◌, ◌≤◌, List, [], ◌∷◌, ◌++◌, length, drop, Result, MatchResult}
use Rattle.refusal.specs.declared.Refusal.{Refusal}
use Rattle.refusal.specs.declared.Refusal.TheVariants.{AnswerRow}
use Rattle.tree.specs.Tree.{Routes}
use Rattle.tree.specs.Ledger.{Given, Call, Answer, refused, turn, after_calls, answers}
use Rattle.engine.specs.Serves.{Ran}
use Rattle.engine.specs.State.{State}
use Rattle.line.specs.Line.{Reading, call, bad, read_line}
use Rattle.line.specs.Reply.{written}

abbrev pub calls_in : Reading → List Call
calls_in (call c) = c ∷ []
calls_in (bad r) = []

abbrev pub line_calls : ℕ → List (List ℕ) → List Call
line_calls W [] = []
line_calls W (bs ∷ ls) = calls_in (read_line W bs) ++ line_calls W ls

abbrev pub reading_turn : Given → Routes → Reading → Routes × Answer
reading_turn g rs (call c) = turn g rs c
reading_turn g rs (bad r) = (rs, refused r)

abbrev pub line_turn : Given → Routes → List ℕ → Routes × Answer
line_turn g rs bs = reading_turn g rs (read_line g.width bs)

abbrev pub replies : Given → Routes → List (List ℕ) → List ℕ
replies g rs [] = []
replies g rs (bs ∷ ls) = written (line_turn g rs bs).1 ++ replies g (line_turn g rs bs).0 ls

abbrev pub reply_to : Given → List (List ℕ) → List ℕ → List ℕ
reply_to g ls bs = written (line_turn g (after_calls g [] (line_calls g.width ls)) bs).1

abbrev pub least_row : ℕ
least_row = 40

abbrev pub Told : Given → List (List ℕ) → State → Type 0
Told g ls s = Ran g (line_calls g.width ls) (answers g [] (line_calls g.width ls)) s

abbrev pub RowKept : List ℕ → List ℕ → Result ℕ Refusal → Type 0
RowKept before after r = MatchResult r (λ n. (least_row ≤ length before) × (n ≤ length before) × (drop n after ≡ drop n before)) (λ why. (length before < least_row) × (why ≡ AnswerRow) × (after ≡ before))

abbrev pub Replied : List ℕ → List ℕ → List ℕ → Result ℕ Refusal → Type 0
Replied bs before after r = MatchResult r (λ n. (n ≡ length bs) × (after ≡ bs ++ drop n before)) (λ _. ⊥)
