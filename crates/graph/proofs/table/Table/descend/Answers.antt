use Rattle.std.proofs.Common.{arith}
use Rattle.net.specs.Prefix.{row_of}
use Rattle.graph.proofs.Descending.{down_next}
use Rattle.graph.proofs.table.Table.descend.Goals as goal

pub loop-depth-preserved : goal.loop-depth-preserved
loop-depth-preserved c =
    let l = c.loop-depth in
    down_next c.args.self.now.slots c.lead-edge.result (row_of c.args.prefix.now) l.depth c.in_default.field-0 l.edge c.follow-edge.result c.bit.result l.invariant c.in_default.is
    (omega (arith, c.len-len.ensures, c.loop-depth-test.true)) c.bit.ensures c.follow-edge.ensures
