-- What entering a route leaves: xs before, ys once the path is grown, zs at last. Assumes nothing.
use Rattle.std.proofs.Common.{List}
use Rattle.tree.specs.Tree.{Shape, shapes}
use Rattle.graph.specs.Slots.{Unfolds}
use Rattle.graph.specs.Keep.{KeptOnly, KeptFrom}
use Rattle.graph.specs.View.{Holds}
use Rattle.graph.specs.declared.edge.Edge.{Edge}
use Rattle.graph.specs.declared.vertex.Vertex.{Vertex}
use Rattle.graph.proofs.Growing.{taken}
use Rattle.graph.proofs.Back.{holds}

-- the tree that is kept
module _ (ys zs : List Vertex) (start : Edge) (t : Shape) (h : Unfolds ys start t) (keeps : KeptFrom ys zs start) where
  kept : KeptOnly ys zs t
  kept = keeps t (taken h)

  pub still : Unfolds zs start t × Holds zs (shapes t)
  still = (kept.whole start h, holds ys zs start t h kept)
