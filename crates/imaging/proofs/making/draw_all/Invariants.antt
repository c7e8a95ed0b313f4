use Rattle.imaging.proofs.Filling.{Filled}
use Rattle.imaging.proofs.making.draw_all.Given as goal

abbrev pub invariant-loop-x : goal.invariant-loop-x
invariant-loop-x l = Filled l.table.slots l.numbering l.stride.bits l.x l.initial.edges l.edges l.initial.marks l.marks
