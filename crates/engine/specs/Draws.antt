-- What drawing the graph anew leaves, the state s before and t after. Assumes nothing.
--   Drew s t a b d         in t the old start still leads to the tree a, the new one to b, and as many vertices were made as shapes of b were not there
--   Full s t a b w         the shapes of both trees, as one set, are more than the slots, and all is as it was
--   Draws s t a b r        r is one of these
--   Grows s t p r          r is one of these for the tree that the start leads to, grown by the row p
--   Folds s t p r          r is one of these for that tree pruned along p, as if its route were gone
--   Draft xs ys e n a b r  the edge r was made for the tree b in the slots ys, beside the tree a of the edge e, and n slots were in use before, in xs
--   Moves s t e            the start is e, and what it leads to is all that is left
use Rattle.std.specs.Prelude.{◌≡◌, ℕ, ◌+◌, ◌<◌, ◌≤◌, List, ◌++◌, length, Result, MatchResult}
use Rattle.bits.specs.Lists.{different}
use Rattle.bits.specs.Rows.{Bits}
use Rattle.refusal.specs.declared.Refusal.{Refusal}
use Rattle.refusal.specs.declared.Refusal.TheVariants.{VerticesFull}
use Rattle.tree.specs.Tree.{Shape, alike, shapes, grown}
use Rattle.tree.specs.Changes.{pruned}
use Rattle.tree.specs.Ledger.{vertex_slots}
use Rattle.graph.specs.Calls.{Kept}
use Rattle.graph.specs.Grow.{Grown, Overfull}
use Rattle.graph.specs.Slots.{Sound, Unfolds, in_use}
use Rattle.graph.specs.View.{Holds}
use Rattle.graph.specs.declared.edge.Edge.{Edge}
use Rattle.graph.specs.declared.vertex.Vertex.{Vertex}
use Rattle.path.specs.Prune.{others}
use Rattle.engine.specs.State.{State, redrawn}
use Rattle.engine.specs.declared.draw.Drawn.{Drawn}

pub record Drew (s t : State) (a b : Shape) (d : Drawn) : Type 0 where
  pub rest : t ≡ redrawn s t.slots s.start
  pub old : Unfolds t.slots s.start a
  pub new : Unfolds t.slots d.start b
  pub number : different alike (shapes a ++ shapes b) ≡ different alike (shapes a) + d.made
  pub room : different alike (shapes a ++ shapes b) ≤ vertex_slots

pub record Full (s t : State) (a b : Shape) (why : Refusal) : Type 0 where
  pub why_full : why ≡ VerticesFull
  pub many : vertex_slots < different alike (shapes a ++ shapes b)
  pub same : t ≡ s

abbrev pub Draws : State → State → Shape → Shape → Result Drawn Refusal → Type 0
Draws s t a b r = MatchResult r (Drew s t a b) (Full s t a b)

abbrev pub Grows : State → State → Bits → Result Drawn Refusal → Type 0
Grows s t p r = (a : Shape) → Unfolds s.slots s.start a → Holds s.slots (shapes a) → Draws s t a (grown p a) r

abbrev pub Folds : State → State → Bits → Result Drawn Refusal → Type 0
Folds s t p r = (a : Shape) → Unfolds s.slots s.start a → Holds s.slots (shapes a) → Draws s t a (pruned (others s.routes.map p) a p) r

pub record Draft (xs ys : List Vertex) (start : Edge) (before : ℕ) (a b : Shape) (r : Result Edge Refusal) : Type 0 where
  pub sound : ∥ Sound xs ∥₁
  pub old : Unfolds xs start a
  pub held : Holds xs (shapes a)
  pub counted : before ≡ length (in_use xs)
  pub long : length ys ≡ length xs
  pub kept : Kept xs ys
  pub made : MatchResult r (Grown ys (shapes a) b) (Overfull ys (shapes a) b)

pub record Moves (s t : State) (start : Edge) : Type 0 where
  pub rest : t ≡ redrawn s t.slots start
  pub leads : (a : Shape) → Unfolds s.slots start a → Unfolds t.slots start a
  pub holds : (a : Shape) → Unfolds s.slots start a → Holds t.slots (shapes a)
