-- What holds of an engine's state while routes stand, and what a change leaves. Assumes nothing.
--   Stored g rs s        the stores of s hold the routes rs and their matched leaves, by what the ledger knows
--   Numbered rs s        the numbers of s are those of the routes rs
--   Serves g rs s        the stores, the slots of the vertices and the start are those of the routes rs
--   Settles g x s t r    a change answers r, where the ledger's list and answer are x: the state was s, t serves that list, and is s if it was refused
--   Ran g xs ys s        the law over runs holds of the calls xs, their answers ys and the state s, which serves the routes that stand
use Rattle.std.specs.Prelude.{◌≡◌, ℕ, List, [], length, IfErr, Result}
use Rattle.refusal.specs.declared.Refusal.{Refusal}
use Rattle.bits.specs.Rows.{Bits}
use Rattle.tree.specs.Tree.{Routes, shapes, pushed, matched}
use Rattle.tree.specs.Ledger.{Given, Call, Answer, after_calls}
use Rattle.tree.specs.Law.{Law}
use Rattle.tree.specs.LedgerLaws as ledger
use Rattle.tree.specs.StoreLaws.{hop_at, leaf_entry}
use Rattle.graph.specs.Slots.{Unfolds}
use Rattle.graph.specs.View.{Holds, graph_of}
use Rattle.store.specs.Content.{Sound}
use Rattle.engine.specs.State.{State}
use Rattle.engine.specs.Calls.{change_answer}

pub record Stored (g : Given) (rs : Routes) (s : State) : Type 0 where
  pub width : g.width ≡ s.width
  -- the route store holds exactly the standing routes
  pub routes_sound : Sound s.routes
  pub route_hops : (p : Bits) → s.routes.map p ≡ hop_at rs p
  pub routes_held : s.routes.held ≡ length rs
  pub routes_limit : s.routes.limit ≡ g.route_limit
  -- the leaf store holds exactly the matched leaves
  pub leaves_sound : Sound s.leaves
  pub leaf_hops : (q : Bits) → s.leaves.map q ≡ leaf_entry rs q
  pub leaves_held : s.leaves.held ≡ length (matched rs)
  pub leaves_limit : s.leaves.limit ≡ g.leaf_limit

-- The numbers of the state are those of the routes: all that a count asks for.
pub record Numbered (rs : Routes) (s : State) : Type 0 where
  pub routes : s.routes.held ≡ length rs
  pub leaves : s.leaves.held ≡ length (matched rs)
  pub shapes : Holds s.slots (shapes (pushed rs))

pub record Serves (g : Given) (rs : Routes) (s : State) : Type 0 where
  -- the list of the routes is one that calls lead to
  pub ledger : ledger.Sound g rs
  pub stored : Stored g rs s
  -- the start leads to the pushed tree, and no other vertex is in use
  pub starts : Unfolds s.slots s.start (pushed rs)
  pub holds : Holds s.slots (shapes (pushed rs))

pub record Settles (g : Given) (x : Routes × Answer) (s t : State) (r : Result ℕ Refusal) : Type 0 where
  pub answer : x.1 ≡ change_answer r
  pub serves : Serves g x.0 t
  pub refuses : IfErr r (λ _. t ≡ s)

pub record Ran (g : Given) (calls : List Call) (given : List Answer) (s : State) : Type 0 where
  pub law : Law g calls given (graph_of s.slots s.start) s.routes.map s.leaves.map
  pub serves : Serves g (after_calls g [] calls) s
