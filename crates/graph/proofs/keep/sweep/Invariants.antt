use Rattle.graph.proofs.Sweeping.{Sweeping}
use Rattle.graph.proofs.keep.sweep.Given as goal

abbrev pub invariant-loop-n : goal.invariant-loop-n
invariant-loop-n l = Sweeping l.initial.slots l.marks l.n l.used l.slots
