-- What the calls on a path come to, where a map has exactly the standing routes. Assumes nothing.
--   PathLaws    the spot of a prefix, the hop that is left when its route is struck, and the tree that is left
use Rattle.std.specs.Prelude.{◌≡◌, ◌<◌, true, false, List, length, take}
use Rattle.bits.specs.Rows.{Bits}
use Rattle.tree.specs.Tree.{Routes, above, has_node, shape_at, pushed}
use Rattle.tree.specs.Ledger.{struck}
use Rattle.tree.specs.Changes.{pruned}
use Rattle.tree.specs.HopLaws.{leaf_hop, Leaf}
use Rattle.tree.specs.LedgerLaws.{Once}
use Rattle.tree.specs.StoreLaws.{hop_at}
use Rattle.store.specs.Content.{Map, Told}
use Rattle.graph.specs.Slots.{Unfolds}
use Rattle.graph.specs.declared.vertex.Vertex.{Vertex}
use Rattle.graph.specs.declared.spot.Spot.{Spot}
use Rattle.graph.specs.Descend.{SpotOf}
use Rattle.path.specs.Shorter.{NextShorter}
use Rattle.path.specs.Prune.{others}

pub record PathLaws : Type 0 where
  -- a spot as deep as the prefix is its node; any other is a leaf above it, and then the prefix has no node
  pub at_node : (xs : List Vertex) (rs : Routes) (p : Bits) (s : Spot) → SpotOf xs (pushed rs) p s → s.depth ≡ length p → (has_node (pushed rs) p ≡ true) × Unfolds xs s.edge (shape_at (pushed rs) p)
  pub at_leaf : (xs : List Vertex) (rs : Routes) (p : Bits) (s : Spot) → SpotOf xs (pushed rs) p s → s.depth < length p
      → Leaf rs (take s.depth p) × (above (take s.depth p) p ≡ true) × (has_node (pushed rs) p ≡ false)
  -- the hop of the next shorter route is the match that is left
  pub left_hop : (rs : Routes) (m : Map) (p : Bits) (r : Told) → Once rs → ((q : Bits) → m q ≡ hop_at rs q) → NextShorter m p r → leaf_hop (struck rs p) p ≡ r
  -- the pruned tree is that of the routes that are left
  pub left_tree : (rs : Routes) (m : Map) (p : Bits) → ((q : Bits) → m q ≡ hop_at rs q) → pruned (others m p) (pushed rs) p ≡ pushed (struck rs p)
