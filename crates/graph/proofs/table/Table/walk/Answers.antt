use Rattle.std.proofs.Common.{arith}
use Rattle.net.specs.Prefix.{row_of}
use Rattle.graph.proofs.Walking.{walk_ends, walk_goes_on}
use Rattle.graph.proofs.table.Table.walk.Goals as goal

pub returns-in-End : goal.returns-in-End
returns-in-End g c =
    let table = c.args.self.now in
    let row = g.F.Family.row c.args.address.now in
    walk_ends table.slots c.args.start row (row_of c.front.result) c.W.result c.descend-spot.result table.sound c.front.ensures (omega (arith, g.met.F.Family.rows c.args.address.now, c.W.ensures)) c.descend-spot.ensures c.in-End.is

pub returns-in-To : goal.returns-in-To
returns-in-To g c =
    let table = c.args.self.now in
    let row = g.F.Family.row c.args.address.now in
    walk_goes_on table.slots c.args.start row (row_of c.front.result) c.W.result c.descend-spot.result table.sound c.front.ensures (omega (arith, g.met.F.Family.rows c.args.address.now, c.W.ensures)) c.descend-spot.ensures c.in-To.field-0 c.in-To.is
