use Rattle.net.specs.Prefix.{row_of}
use Rattle.graph.proofs.Descending.{Down}
use Rattle.graph.proofs.table.Table.descend.Given as goal

abbrev pub invariant-loop-depth : goal.invariant-loop-depth
invariant-loop-depth l = Down l.self.slots l.initial.edge (row_of l.prefix) l.depth l.edge
