-- One level down: the tree below a node is one less deep, and an edge that was followed. Assumes nothing.
use Rattle.std.proofs.Common.{◌≡◌, ℕ, Bool, true, List, [], ◌∷◌, ◌++◌, ap, ◌∙◌, arith, length-append}
use Rattle.bits.specs.Rows.{Bits}
use Rattle.tree.specs.Tree.{Shape, fork}
use Rattle.graph.specs.Slots.{at, used, side_of, led, next}
use Rattle.graph.specs.declared.edge.Edge.{Edge}
use Rattle.graph.specs.declared.edge.Edge.TheVariants.{To}
use Rattle.graph.specs.declared.vertex.Vertex.{Vertex}
use Rattle.graph.proofs.Edges.{led_used}
use Rattle.paint.specs.Whole.{Fits}

pub fits_left : (q : Bits) (a b : Shape) (s : Bool) → Fits q (fork a b) → Fits (q ++ (s ∷ [])) a
fits_left q a b s h = rw length-append (omega arith)

pub fits_right : (q : Bits) (a b : Shape) (s : Bool) → Fits q (fork a b) → Fits (q ++ (s ∷ [])) b
fits_right q a b s h = rw length-append (omega arith)

-- an edge that was followed is that side's
pub follows : (slots : List Vertex) (n : ℕ) (e : Edge) (b : Bool) → used (at slots n) ≡ true → e ≡ next slots (led slots (To n)) b → e ≡ side_of (at slots n) b
follows slots n e b stands is = is ∙ ap (λ f. next slots f b) (led_used slots n stands)
