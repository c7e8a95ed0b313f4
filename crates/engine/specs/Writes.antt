-- What writing a granted change leaves in the two stores, the state s before and t after. Assumes nothing.
--   Writable g rs ss s         the stores of s hold the routes rs, and ss is a list that calls lead to as well
--   PaintsFrom p edge hop s t r
--                              the leaves below the node p, which the edge leads to, that no longer route covers were given the hop, or none, and r was answered
--   SetsAt p edge h s t        the route of p, a node that the edge leads to, is entered
--   SetsBelow q p start h s t  the route of p, below the leaf q, is entered; the start leads to the new tree
--   ClearsAt p edge next s t   the route of p, which stays a node, is struck; next is the hop that is left for it
--   ClearsBelow q p next s t   the route of p is struck, and q above it is a leaf again
--   Clears p start next s t    either of these; the start leads to the new tree
use Rattle.std.specs.Prelude.{◌≡◌, ℕ, true, Option, Result}
use Rattle.bits.specs.Rows.{Bits}
use Rattle.refusal.specs.declared.Refusal.{Refusal}
use Rattle.tree.specs.Tree.{Routes, above, has_node, shape_at, pushed}
use Rattle.tree.specs.Ledger.{Given, stands, struck, entered}
use Rattle.tree.specs.LedgerLaws as ledger
use Rattle.tree.specs.HopLaws.{leaf_hop, Leaf}
use Rattle.graph.specs.Slots.{led, Unfolds}
use Rattle.graph.specs.declared.edge.Edge.{Edge}
use Rattle.paint.specs.Paint.{Paints}
use Rattle.engine.specs.State.{State, rewritten}
use Rattle.engine.specs.Serves.{Stored}

pub record Writable (g : Given) (rs ss : Routes) (s : State) : Type 0 where
  pub before : ledger.Sound g rs
  pub after : ledger.Sound g ss
  pub stored : Stored g rs s

pub record PaintsFrom (p : Bits) (edge : Edge) (hop : Option ℕ) (s t : State) (r : Result (Unit {0}) Refusal) : Type 0 where
  pub rest : t ≡ rewritten s s.routes t.leaves
  pub limit : t.leaves.limit ≡ s.leaves.limit
  pub paints : Paints s.routes.map s.slots (led s.slots edge) p hop s.leaves t.leaves r

abbrev pub SetsAt : Bits → Edge → ℕ → State → State → Type 0
SetsAt p edge h s t = (g : Given) (rs : Routes) → Writable g rs (entered rs p h) s → has_node (pushed rs) p ≡ true
    → Unfolds s.slots edge (shape_at (pushed rs) p) → Stored g (entered rs p h) t

abbrev pub SetsBelow : Bits → Bits → Edge → ℕ → State → State → Type 0
SetsBelow q p start h s t = (g : Given) (rs : Routes) → Writable g rs (entered rs p h) s → Leaf rs q → above q p ≡ true
    → Unfolds s.slots start (pushed (entered rs p h)) → Stored g (entered rs p h) t

abbrev pub ClearsAt : Bits → Edge → Option ℕ → State → State → Type 0
ClearsAt p edge next s t = (g : Given) (rs : Routes) → Writable g rs (struck rs p) s → stands rs p ≡ true → has_node (pushed (struck rs p)) p ≡ true
    → Unfolds s.slots edge (shape_at (pushed rs) p) → next ≡ leaf_hop (struck rs p) p → Stored g (struck rs p) t

abbrev pub ClearsBelow : Bits → Bits → Option ℕ → State → State → Type 0
ClearsBelow q p next s t = (g : Given) (rs : Routes) → Writable g rs (struck rs p) s → stands rs p ≡ true → Leaf (struck rs p) q → above q p ≡ true
    → Unfolds s.slots s.start (pushed rs) → next ≡ leaf_hop (struck rs p) p → Stored g (struck rs p) t

abbrev pub Clears : Bits → Edge → Option ℕ → State → State → Type 0
Clears p start next s t = (g : Given) (rs : Routes) → Writable g rs (struck rs p) s → stands rs p ≡ true → Unfolds s.slots start (pushed (struck rs p))
    → Unfolds s.slots s.start (pushed rs) → next ≡ leaf_hop (struck rs p) p → Stored g (struck rs p) t
