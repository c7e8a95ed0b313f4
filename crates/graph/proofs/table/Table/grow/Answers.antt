use Rattle.net.specs.Prefix.{row_of}
use Rattle.graph.proofs.Growing.{grows}
use Rattle.graph.proofs.table.Table.grow.Goals as goal

pub returns-clause-grown : goal.returns-clause-grown
returns-clause-grown c =
    let below = c.grow_below in
    let after = below.new.self in
    grows c.args.self.now.slots after.slots c.args.start (row_of c.args.prefix.now) below.result below.ensures.kept after.sound after.long below.ensures.path
