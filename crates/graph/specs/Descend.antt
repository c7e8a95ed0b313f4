-- Where the bits of a row lead in a table of slots xs. Assumes nothing.
--   SpotOf xs t p s     s is p's node in the tree t, or the leaf above it
--   Descends xs e p s    s is that for the tree that e leads to
use Rattle.std.specs.Prelude.{◌≡◌, ◌<◌, ◌≤◌, true, ◌⊎◌, List, length, take}
use Rattle.bits.specs.Rows.{Bits}
use Rattle.tree.specs.Tree.{Shape, leaf, has_node, shape_at}
use Rattle.graph.specs.Slots.{led, Unfolds}
use Rattle.graph.specs.declared.edge.Edge.{Edge}
use Rattle.graph.specs.declared.edge.Edge.TheVariants.{End}
use Rattle.graph.specs.declared.vertex.Vertex.{Vertex}
use Rattle.graph.specs.declared.spot.Spot.{Spot}

pub record SpotOf (xs : List Vertex) (t : Shape) (p : Bits) (s : Spot) : Type 0 where
  pub within : s.depth ≤ length p
  pub node : has_node t (take s.depth p) ≡ true
  pub unfolds : Unfolds xs s.edge (shape_at t (take s.depth p))
  pub stops : (s.depth ≡ length p) ⊎ ((s.depth < length p) × (shape_at t (take s.depth p) ≡ leaf) × (s.edge ≡ End))

abbrev pub Descends : List Vertex → Edge → Bits → Spot → Type 0
Descends xs start p s = (t : Shape) → Unfolds xs (led xs start) t → SpotOf xs t p s
