use Rattle.std.proofs.Common.{◌-◌, length, Ok}
use Rattle.net.specs.Prefix.{row_of}
use Rattle.paint.specs.Reach.{VisitsAt}
use Rattle.paint.proofs.Reaching.{Begun}
use Rattle.paint.proofs.reach.Reach.+each_leaf.Given as goal

abbrev pub decreases-each_leaf : goal.decreases-each_leaf
decreases-each_leaf g l = 128 - length (row_of l.at.now)

abbrev pub invariant-loop-one : goal.invariant-loop-one
invariant-loop-one g l =
    Begun (g.R.Store.content l.self.routes.now).map l.self.table.now.slots (row_of l.at) (VisitsAt g.F.Fn l.visit) l.edge l.one-index l.initial.state (Ok tt) l.state
