-- One call more keeps the law over runs, and a list of turns is gone through one by one. Assumes nothing.
use Rattle.std.proofs.Common.{◌≡◌, ℕ, zero, suc, ◌+◌, ◌<◌, ◌≤◌, List, [], ◌∷◌, ◌++◌, length, get_or, take, set, sym, refl, ap, ◌∙◌, subst, arith, take_all}
use lib.ListN.{length-map}
use Rattle.bits.specs.Rows.{Bits}
use Rattle.tree.specs.Tree.{Routes}
use Rattle.tree.specs.Graph.{Closed}
use Rattle.tree.specs.Ledger as l
use Rattle.tree.specs.Law as law
use Rattle.tree.specs.Law.{Law}
use Rattle.tree.proofs.Runs.{after_join, law_starts, law_steps}
use Rattle.tree.proofs.Stores.{routes_told, leaves_told, state_holds}
use Rattle.graph.specs.View.{graph_of}
use Rattle.graph.proofs.View.{closed, reads_of_unfolds, one_for_each}
use Rattle.graph.proofs.Unfold.{led_unfolds}
use Rattle.graph.specs.Slots.{Sound}
use Rattle.engine.specs.State.{State}
use Rattle.engine.specs.Calls.{call_of, answer_of, calls_of, answers_of}
use Rattle.engine.specs.Serves.{Serves, Ran}
use Rattle.engine.specs.declared.call.Call.{Call}
use Rattle.engine.specs.declared.call.Answer.{Answer}
use Rattle.engine.specs.declared.run.Turn.{Turn}

module _ (g : l.Given) where
  state_of : (rs : Routes) (s : State) → ∥ Sound s.slots ∥₁ → Serves g rs s → law.State g.width rs (graph_of s.slots s.start) s.routes.map s.leaves.map
  state_of rs s sound serves =
      state_holds g.width rs (graph_of s.slots s.start) s.routes.map s.leaves.map serves.ledger.short
      (subst (λ k. Closed (graph_of s.slots k)) (led_unfolds serves.starts) (closed s.slots s.start sound))
      (reads_of_unfolds serves.starts) (one_for_each rs s.slots s.start sound serves.starts serves.holds)
      ((routes_told rs _ serves.ledger.once).1 serves.stored.route_hops) ((leaves_told rs _).1 serves.stored.leaf_hops)

  pub ran_starts : (s : State) → ∥ Sound s.slots ∥₁ → Serves g [] s → Ran g [] [] s
  ran_starts s sound serves = record { law = law_starts g _ _ _ (state_of [] s sound serves); serves = serves }

  -- the call k, which reads as k', was answered x
  pub ran_steps : {F : Type 0} (row : F → Bits) (calls : List l.Call) (given : List l.Answer) (k k' : Call F) (x : Answer) (s t : State) → k ≡ k' → ∥ Sound t.slots ∥₁ → Ran g calls given s
      → (l.turn g (l.after_calls g [] calls) (call_of row k')).1 ≡ answer_of x → Serves g (l.turn g (l.after_calls g [] calls) (call_of row k')).0 t
      → Ran g (calls ++ (call_of row k ∷ [])) (given ++ (answer_of x ∷ [])) t
  ran_steps row calls given k k' x s t is sound ran answer serves =
      subst (λ j. Ran g (calls ++ (call_of row j ∷ [])) (given ++ (answer_of x ∷ [])) t) (sym is) (record {
        law =
            subst (λ y. Law g (calls ++ (c ∷ [])) (given ++ (y ∷ [])) (graph_of t.slots t.start) t.routes.map t.leaves.map) answer
            (law_steps g calls given _ _ _ c (graph_of t.slots t.start) t.routes.map t.leaves.map ran.law (state_of _ t sound serves));
        serves = subst (λ rs. Serves g rs t) (sym (after_join g [] calls (c ∷ []))) serves;
      })
    where
      c : l.Call
      c = call_of row k'

pub all_calls : {F : Type 0} (row : F → Bits) (ts : List (Turn F)) (i : ℕ) → length ts ≤ i → take i (calls_of row ts) ≡ calls_of row ts
all_calls row ts i past = take_all i (calls_of row ts) (let n = length-map ts (λ t. call_of row t.call) in omega arith)

pub all_answers : {F : Type 0} (ts : List (Turn F)) (i : ℕ) → length ts ≤ i → take i (answers_of ts) ≡ answers_of ts
all_answers ts i past = take_all i (answers_of ts) (let n = length-map ts (λ t. answer_of t.answer) in omega arith)

-- the turns up to one, and that one
module _ {F : Type 0} (row : F → Bits) where
  same_calls : (ts : List (Turn F)) (i : ℕ) (d : Turn F) (x : Answer) → calls_of row (set ts i (record { call = (get_or ts i d).call; answer = x })) ≡ calls_of row ts
  same_calls [] i d x = refl
  same_calls (t ∷ ts) zero d x = refl
  same_calls (t ∷ ts) (suc i) d x = ap (λ cs. call_of row t.call ∷ cs) (same_calls ts i d x)

  next_call : (ts : List (Turn F)) (i : ℕ) (d : Turn F) → i < length ts → take (suc i) (calls_of row ts) ≡ take i (calls_of row ts) ++ (call_of row (get_or ts i d).call ∷ [])
  next_call [] i d less = absurd (omega arith)
  next_call (t ∷ ts) zero d less = refl
  next_call (t ∷ ts) (suc i) d less = ap (λ cs. call_of row t.call ∷ cs) (next_call ts i d (omega arith))

  next_answer : (ts : List (Turn F)) (i : ℕ) (t : Turn F) → i < length ts → take (suc i) (answers_of (set ts i t)) ≡ take i (answers_of ts) ++ (answer_of t.answer ∷ [])
  next_answer [] i t less = absurd (omega arith)
  next_answer (s ∷ ts) zero t less = refl
  next_answer (s ∷ ts) (suc i) t less = ap (λ xs. answer_of s.answer ∷ xs) (next_answer ts i t (omega arith))

  -- the turns ts have the calls of the first ones, and the law holds of those before i: then also with that at i, where it was answered x
  module _ (g : l.Given) (first ts : List (Turn F)) (i : ℕ) (still : calls_of row ts ≡ calls_of row first) where
    pub next_turn : (d : Turn F) (x : Answer) (t : State) → i < length ts → Ran g (take i (calls_of row first) ++ (call_of row (get_or ts i d).call ∷ [])) (take i (answers_of ts) ++ (answer_of x ∷ [])) t
        → (calls_of row (set ts i (record { call = (get_or ts i d).call; answer = x })) ≡ calls_of row first)
        × Ran g (take (i + 1) (calls_of row first)) (take (i + 1) (answers_of (set ts i (record { call = (get_or ts i d).call; answer = x })))) t
    next_turn d x t less ran = (
      same_calls ts i d x ∙ still,
      subst (λ n. Ran g (take n (calls_of row first)) (take n (answers_of after)) t) (sym past)
          (subst (λ cs. Ran g cs (take (suc i) (answers_of after)) t) (sym calls)
          (subst (λ xs. Ran g (take i (calls_of row first) ++ (call_of row (get_or ts i d).call ∷ [])) xs t) (sym (next_answer ts i (record { call = (get_or ts i d).call; answer = x }) less)) ran)),
    )
      where
        after : List (Turn F)
        after = set ts i (record { call = (get_or ts i d).call; answer = x })

        past : i + 1 ≡ suc i
        past = omega arith

        calls : take (suc i) (calls_of row first) ≡ take i (calls_of row first) ++ (call_of row (get_or ts i d).call ∷ [])
        calls = ap (take (suc i)) (sym still) ∙ next_call ts i d less ∙ ap (λ cs. take i cs ++ (call_of row (get_or ts i d).call ∷ [])) still

    pub all_turns : (s : State) → length ts ≤ i → Ran g (take i (calls_of row first)) (take i (answers_of ts)) s → Ran g (calls_of row first) (answers_of ts) s
    all_turns s past ran =
        subst (λ cs. Ran g cs (answers_of ts) s) (ap (take i) (sym still) ∙ all_calls row ts i past ∙ still)
        (subst (λ xs. Ran g (take i (calls_of row first)) xs s) (all_answers ts i past) ran)
