use Rattle.imaging.proofs.Marking.{Marking}
use Rattle.imaging.proofs.drawing.Drawing.marks.Given as goal

abbrev pub invariant-loop-edge : goal.invariant-loop-edge
invariant-loop-edge l = Marking l.self.table.now.slots l.self.stride.bits l.self.slot l.edge l.marks l.one
