use Rattle.std.proofs.Common.{rules, ◌<◌, length, sym, refl, ◌∙◌, arith}
use Rattle.std.proofs.lemmas.Result.{err_from_is_err_and}
use Rattle.net.specs.Prefix.{row_of}
use Rattle.graph.proofs.Forking.{kept_same}
use Rattle.graph.proofs.Growing.{kept_then, side}
use Rattle.path.specs.Prune.{others}
use Rattle.graph.proofs.Descending.{follows}
use Rattle.path.proofs.Folding.{here, above_it, up_stopped, up_leaf, up}
use Rattle.path.proofs.fold.Fold.+prune_below.Goals as goal

pub returns-then-depth-len : goal.returns-then-depth-len
returns-then-depth-len g m c = search (rules, kept_same, here)

pub returns-in-End : goal.returns-in-End
returns-in-End g m c = search (rules, kept_same, above_it)

pub returns-in_err-below-clause-path : goal.returns-in_err-below-clause-path
returns-in_err-below-clause-path g m c =
    let xs = c.args.table.now.slots in
    let ys = c.prune_below.new.table.slots in
    let row = row_of c.args.self.now.struck.now in
    let d = c.args.depth in
    let b = c.bit-bit.result in
    let own = others (g.R.Store.content c.args.self.now.routes.now).map row in
    let less : d < length row = omega (arith, c.len.ensures, c.if-depth-len.false) in
    let under = c.in_err-below.ensures in
    let p = err_from_is_err_and c.from_residual.result c.from_residual.ensures.1 in
    λ t h. rw (p.1, p.2) (up_stopped xs ys c.args.node c.in_default.field-0 c.in_default.is t h own row d b less c.bit-bit.ensures _
    (under.path (side b t) (follows xs c.args.node c.follow-below.result t b b c.follow-below.ensures refl h)))

pub returns-then-ends-clause-path : goal.returns-then-ends-clause-path
returns-then-ends-clause-path g m c =
    let xs = c.args.table.now.slots in
    let ys = c.prune_below.new.table.slots in
    let row = row_of c.args.self.now.struck.now in
    let d = c.args.depth in
    let b = c.bit-bit.result in
    let own = others (g.R.Store.content c.args.self.now.routes.now).map row in
    let less : d < length row = omega (arith, c.len.ensures, c.if-depth-len.false) in
    let under = c.in_ok-below.ensures in
    λ t h. up_leaf xs ys c.args.node c.in_default.field-0 c.in_default.is t h own row d b less c.bit-bit.ensures c.in_ok-below.below c.follow-beside.result
    (under.path (side b t) (follows xs c.args.node c.follow-below.result t b b c.follow-below.ensures refl h))
    c.follow-beside.ensures (sym (c.ends.ensures less) ∙ c.if-ends.true)

pub returns : goal.returns
returns g m c =
    let xs = c.args.table.now.slots in
    let ys = c.prune_below.new.table.slots in
    let row = row_of c.args.self.now.struck.now in
    let d = c.args.depth in
    let b = c.bit-bit.result in
    let own = others (g.R.Store.content c.args.self.now.routes.now).map row in
    let less : d < length row = omega (arith, c.len.ensures, c.if-depth-len.false) in
    let under = c.in_ok-below.ensures in
    let zs = c.fork_beside.new.self.slots in
    record {
      kept = kept_then xs ys zs under.kept c.fork_beside.ensures.kept;
      path = λ t h. up xs ys c.args.node c.in_default.field-0 c.in_default.is t h own row d b less c.bit-bit.ensures c.in_ok-below.below c.follow-beside.result
          (under.path (side b t) (follows xs c.args.node c.follow-below.result t b b c.follow-below.ensures refl h))
          c.follow-beside.ensures under.kept zs c.fork_beside.ensures.kept c.fork_beside.result (sym (c.ends.ensures less) ∙ c.if-ends.false) c.fork_beside.ensures.forked;
    }
