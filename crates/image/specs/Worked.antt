-- The image of the worked example, by what an image of a graph is. Assumes nothing.
--   routes        the empty prefix, 00, 11, 101 and 110
--   graph         the graph of their tree: a vertex for the whole shape, one for that below 0, 10 and 11, and one for that below 1
--   edge v b      where the 0-edge and the 1-edge of its vertex v lead
--   order         its vertices as the image numbers them
--   Worked        the image of the table of cases is one of this graph, and so walks to the leaves of these routes
use Rattle.std.specs.Prelude.{ℕ, zero, suc, Bool, true, false, List, [], ◌∷◌}
use Rattle.tree.specs.Tree.{Routes}
use Rattle.tree.specs.Graph.{Edge, end, to, Graph, EndsAtLeaves, OneForEach}
use Rattle.tree.specs.LeafLaws.{AtMost}
use Rattle.image.specs.Picture.{Pictures, StandsFor, WalksToLeaves}
use Rattle.image.specs.Cases.{five_routes}

abbrev pub routes : Routes
routes =
    record { at = []; hop = 10 }
    ∷ record { at = false ∷ false ∷ []; hop = 11 }
    ∷ record { at = true ∷ true ∷ []; hop = 12 }
    ∷ record { at = true ∷ false ∷ true ∷ []; hop = 13 }
    ∷ record { at = true ∷ true ∷ false ∷ []; hop = 14 }
    ∷ []

abbrev pub edge : ℕ → Bool → Edge
edge zero false = to 1
edge zero true = to 2
edge (suc zero) b = end
edge (suc (suc v)) b = to 1

abbrev pub graph : Graph
graph = record { vertices = 0 ∷ 1 ∷ 2 ∷ []; edge = edge; start = to 0 }

abbrev pub order : List ℕ
order = 0 ∷ 1 ∷ 2 ∷ []

pub record Worked : Type 0 where
  -- the graph is that of the routes
  pub short : AtMost 32 routes
  pub ends : EndsAtLeaves 32 routes graph
  pub each : OneForEach routes graph
  -- and the image is one of it
  pub pictures : Pictures graph order five_routes
  pub leaves : WalksToLeaves 32 routes five_routes
  pub shapes : StandsFor routes graph order
