-- What folding a path back leaves, xs before and ys after. Assumes nothing.
--   others m p q            the row q has a route in the map m, and is not p
--   seen_from q own         a test of nodes, seen from the node q
--   others_from m p d       a node has a route in the map m, and is not p, seen from the node of p's first d bits
--   owning own              a child of the node has a route of its own
--   folding own z o         both edges are the end, and no child has a route of its own
--   PrunesBelow xs ys e own p r
--                           r leads to e's tree, pruned along the row p, or some shape of it was one too many; no vertex was made but of its shapes
--   Prunes xs ys e own p r  r leads to the tree that e leads to, pruned along the row p, and what is held are the shapes held before and those of it;
--                           or these, as one set, are more than the slots
use Rattle.std.specs.Prelude.{ℕ, Bool, true, false, not, ◌&&◌, ◌||◌, List, [], ◌∷◌, ◌++◌, take, Result, MatchResult}
use Rattle.bits.specs.Rows.{Bits, same}
use Rattle.refusal.specs.declared.Refusal.{Refusal}
use Rattle.tree.specs.Tree.{Shape}
use Rattle.tree.specs.Changes.{pruned}
use Rattle.store.specs.Content.{Map, present}
use Rattle.graph.specs.Slots.{is_end, led, Unfolds}
use Rattle.graph.specs.Grow.{Pathed, Stopped, Grown, Overfull}
use Rattle.graph.specs.View.{Holds}
use Rattle.graph.specs.declared.edge.Edge.{Edge}
use Rattle.graph.specs.declared.vertex.Vertex.{Vertex}

abbrev pub others : Map → Bits → Bits → Bool
others m p q = present (m q) && not (same q p)

abbrev pub seen_from : Bits → (Bits → Bool) → Bits → Bool
seen_from q own u = own (q ++ u)

abbrev pub others_from : Map → Bits → ℕ → Bits → Bool
others_from m p d = seen_from (take d p) (others m p)

abbrev pub owning : (Bits → Bool) → Bool
owning own = own (false ∷ []) || own (true ∷ [])

abbrev pub folding : (Bits → Bool) → Edge → Edge → Bool
folding own z o = (is_end z && is_end o) && not (owning own)

abbrev pub PrunesBelow : List Vertex → List Vertex → Edge → (Bits → Bool) → Bits → Result Edge Refusal → Type 0
PrunesBelow xs ys node own p r = (t : Shape) → Unfolds xs node t → MatchResult r (Pathed xs ys (pruned own t p)) (Stopped xs ys (pruned own t p))

abbrev pub Prunes : List Vertex → List Vertex → Edge → (Bits → Bool) → Bits → Result Edge Refusal → Type 0
Prunes xs ys start own p r =
    (t : Shape) (ss : List Shape) → Unfolds xs (led xs start) t → Holds xs ss → MatchResult r (Grown ys ss (pruned own t p)) (Overfull ys ss (pruned own t p))
