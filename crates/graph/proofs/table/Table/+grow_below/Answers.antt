use Rattle.std.proofs.Common.{◌+◌, drop, sym, refl, arith}
use Rattle.std.proofs.lemmas.Result.{err_from_is_err_and}
use Rattle.net.specs.Prefix.{row_of}
use Rattle.graph.proofs.Growing.{kept_then, goes_on, pathed_here, to_side, up_stopped, up}
use Rattle.graph.proofs.table.Table.+grow_below.Goals as goal

pub returns-then-depth-len-clause-path : goal.returns-then-depth-len-clause-path
returns-then-depth-len-clause-path m c = λ t h. pathed_here c.args.self.now.slots c.args.node (row_of c.args.prefix.now) c.args.depth c.lead.result t (omega (arith, c.len.ensures, c.if-depth-len.true)) c.lead.ensures h

pub returns-in_err-below : goal.returns-in_err-below
returns-in_err-below m c =
    let xs = c.args.self.now.slots in
    let ys = c.grow_below.new.self.slots in
    let row = row_of c.args.prefix.now in
    let d = c.args.depth in
    let b = c.bit-bit.result in
    let below = c.in_err-below.ensures in
    let p = err_from_is_err_and c.from_residual.result c.from_residual.ensures.1 in
    record {
      kept = below.kept;
      path = λ t h. rw (p.1, p.2) (up_stopped xs ys c.args.node t h below.kept b (drop d row) (drop (d + 1) row) _ (goes_on row d b (omega (arith, c.len.ensures, c.if-depth-len.false)) (sym c.bit-bit.ensures))
          (below.path _ (to_side xs c.args.node c.follow-below.result t b b c.follow-below.ensures refl h)));
    }

pub returns : goal.returns
returns m c =
    let xs = c.args.self.now.slots in
    let ys = c.grow_below.new.self.slots in
    let zs = c.fork_beside.new.self.slots in
    let row = row_of c.args.prefix.now in
    let d = c.args.depth in
    let b = c.bit-bit.result in
    let below = c.in_ok-below.ensures in
    let forked = c.fork_beside.ensures in
    record {
      kept = kept_then xs ys zs below.kept forked.kept;
      path = λ t h. up xs ys c.args.node t h below.kept zs forked.kept (drop d row) (drop (d + 1) row) c.in_ok-below.below c.follow-beside.result c.fork_beside.result b
          (goes_on row d b (omega (arith, c.len.ensures, c.if-depth-len.false)) (sym c.bit-bit.ensures))
          (below.path _ (to_side xs c.args.node c.follow-below.result t b b c.follow-below.ensures refl h))
          c.follow-beside.ensures forked.forked;
    }
