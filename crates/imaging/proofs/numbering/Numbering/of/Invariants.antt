use Rattle.imaging.proofs.Counting.{Numbered}
use Rattle.imaging.proofs.numbering.Numbering.of.Given as goal

abbrev pub invariant-loop-slot : goal.invariant-loop-slot
invariant-loop-slot l = Numbered l.table.slots l.fn.start l.first l.slot l.numbering.0.items l.numbering.1.0
