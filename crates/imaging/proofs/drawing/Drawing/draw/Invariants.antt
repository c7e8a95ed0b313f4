use Rattle.imaging.proofs.Filling.{DrawnTo}
use Rattle.imaging.proofs.drawing.Drawing.draw.Given as goal

abbrev pub invariant-loop-edge : goal.invariant-loop-edge
invariant-loop-edge l = DrawnTo l.self.table.now.slots l.numbering.numbers l.self.stride.bits l.self.slot l.edge l.edges
