-- The law over runs, from the answers and the state. Assumes nothing.
use Rattle.std.proofs.Common.{◌≡◌, ℕ, zero, suc, ◌<◌, ◌↔◌, List, [], ◌∷◌, ◌++◌, length, get_or, take, sym, refl, ap, ◌∙◌, subst, arith}
use Rattle.refusal.specs.declared.Refusal.TheVariants.{VerticesFull}
use Rattle.tree.specs.Tree.{Routes, matched}
use Rattle.tree.specs.Graph.{Graph}
use Rattle.tree.specs.Ledger.{Given, Call, lookup, count, Answer, none, counts, refused, vertex_slots, together, turn, after_calls, answers}
use Rattle.tree.specs.Law.{Map, Tells, asked, standing, At, State, Law}
use Rattle.tree.proofs.Tells.{tells}
use Rattle.tree.proofs.Sounds.{starts_sound, always_sound, full_exactly}

pub after_join : (g : Given) (rs : Routes) (xs ys : List Call) → after_calls g rs (xs ++ ys) ≡ after_calls g (after_calls g rs xs) ys
after_join g rs [] ys = refl
after_join g rs (c ∷ xs) ys = after_join g (turn g rs c).0 xs ys

pub answers_join : (g : Given) (rs : Routes) (xs ys : List Call) → answers g rs (xs ++ ys) ≡ answers g rs xs ++ answers g (after_calls g rs xs) ys
answers_join g rs [] ys = refl
answers_join g rs (c ∷ xs) ys = ap (λ r. (turn g rs c).1 ∷ r) (answers_join g (turn g rs c).0 xs ys)

-- the answer at a place is that of the call there, by the routes standing at its turn
pub answer_at : (g : Given) (rs : Routes) (calls : List Call) (k : ℕ) → k < length calls → get_or (answers g rs calls) k none ≡ (turn g (after_calls g rs (take k calls)) (get_or calls k count)).1
answer_at g rs [] k h = absurd (omega arith)
answer_at g rs (c ∷ cs) zero h = refl
answer_at g rs (c ∷ cs) (suc k) h = answer_at g (turn g rs c).0 cs k (omega arith)

module _ (g : Given) (calls : List Call) (given : List Answer) (answered : given ≡ answers g [] calls) where
  at_turn : (k : ℕ) (c : Call) (x : Answer) → At calls given k c x → (turn g (standing g calls k) c).1 ≡ x
  at_turn k c x at = ap (λ d. (turn g (standing g calls k) d).1) (sym at.call) ∙ sym (answer_at g [] calls k at.among) ∙ ap (λ xs. get_or xs k none) (sym answered) ∙ at.answer

  pub law_holds : (graph : Graph) (routes leaves : Map) → State g.width (after_calls g [] calls) graph routes leaves → Law g calls given graph routes leaves
  law_holds graph routes leaves state = record {
    answered = answered;
    longest_match = λ k a x at. subst (Tells (standing g calls k) a) (at_turn k (lookup a) x at) (tells (standing g calls k) a);
    vertices_full = λ k c x at ok.
        subst (λ y. (y ≡ refused VerticesFull) ↔ (vertex_slots < together (standing g calls k) (asked (standing g calls k) c))) (at_turn k c x at)
        (full_exactly g (standing g calls k) (always_sound g [] (take k calls) (starts_sound g)) c ok);
    state = state;
    counted = ap (counts (length (after_calls g [] calls)) (length (matched (after_calls g [] calls)))) (sym state.one_for_each.number);
  }

pub law_starts : (g : Given) (graph : Graph) (routes leaves : Map) → State g.width [] graph routes leaves → Law g [] [] graph routes leaves
law_starts g = law_holds g [] [] refl

pub law_steps : (g : Given) (calls : List Call) (given : List Answer) (graph : Graph) (routes leaves : Map) (c : Call) (graph' : Graph) (routes' leaves' : Map)
    → Law g calls given graph routes leaves → State g.width (turn g (after_calls g [] calls) c).0 graph' routes' leaves'
    → Law g (calls ++ (c ∷ [])) (given ++ ((turn g (after_calls g [] calls) c).1 ∷ [])) graph' routes' leaves'
law_steps g calls given graph routes leaves c graph' routes' leaves' law state =
    law_holds g (calls ++ (c ∷ [])) _ (ap (λ xs. xs ++ ((turn g (after_calls g [] calls) c).1 ∷ [])) law.answered ∙ sym (answers_join g [] calls (c ∷ [])))
    graph' routes' leaves' (subst (λ rs. State g.width rs graph' routes' leaves') (sym (after_join g [] calls (c ∷ []))) state)
