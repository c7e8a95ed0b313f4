use Rattle.std.proofs.Common.{arith}
use Rattle.net.specs.Prefix.{row_of}
use Rattle.graph.proofs.Growing.{taken}
use Rattle.sizing.proofs.Sizes.{missing_at, spot_within}
use Rattle.sizing.proofs.count.missing.Goals as goal

pub overflow_sub-result : goal.overflow_sub-result
overflow_sub-result c =
    let spot = c.descend-spot in
    omega (arith, c.len.ensures, spot_within c.args.table.now.slots c.args.start (row_of c.args.prefix.now) spot.result c.args.table.now.sound spot.ensures)

pub returns : goal.returns
returns c = λ t h.
    let spot = c.descend-spot in
    omega (arith, c.len.ensures, missing_at c.args.table.now.slots t (row_of c.args.prefix.now) spot.result (spot.ensures t (taken h)))
