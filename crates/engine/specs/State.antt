-- What an engine is to its callers. Assumes nothing.
--   State               the width of its family, what its two stores hold, the slots of its vertices and the edge that every walk starts with
--   rewritten s a b     s where the stores hold a and b
--   redrawn s xs e      s where the graph is that of the slots xs and the start e
use Rattle.std.specs.Prelude.{ℕ, List}
use Rattle.store.specs.Content.{Content}
use Rattle.graph.specs.declared.edge.Edge.{Edge}
use Rattle.graph.specs.declared.vertex.Vertex.{Vertex}

pub record State : Type 0 where
  pub width : ℕ
  pub routes : Content
  pub leaves : Content
  pub slots : List Vertex
  pub start : Edge

abbrev pub rewritten : State → Content → Content → State
rewritten s routes leaves = record { width = s.width; routes = routes; leaves = leaves; slots = s.slots; start = s.start }

abbrev pub redrawn : State → List Vertex → Edge → State
redrawn s slots start = record { width = s.width; routes = s.routes; leaves = s.leaves; slots = slots; start = start }
