-- How many vertices an image has. Assumes nothing.
--   CountLaw     where the graph has one vertex for each different branching shape, an image of it has as many vertices as the routes' tree has such shapes
use Rattle.std.specs.Prelude.{◌≡◌, ℕ, List}
use Rattle.tree.specs.Tree.{Routes}
use Rattle.tree.specs.Graph.{Graph, OneForEach}
use Rattle.tree.specs.Ledger.{vertices}
use Rattle.image.specs.Image.{Image}
use Rattle.image.specs.Picture.{Pictures}

abbrev pub CountLaw : Type 0
CountLaw = (rs : Routes) (g : Graph) (order : List ℕ) (i : Image) → Pictures g order i → OneForEach rs g → i.vertices ≡ vertices rs
