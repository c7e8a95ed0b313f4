use Rattle.graph.proofs.table.Table.+mark.Given as goal

abbrev pub decreases-mark : goal.decreases-mark
decreases-mark l = l.budget
