use Rattle.std.proofs.Common.{arith}
use Rattle.std.proofs.lemmas.Result.{err_from_is_err_and}
use Rattle.net.specs.Prefix.{row_of}
use Rattle.tree.specs.Tree.{pushed, grown, shapes}
use Rattle.graph.proofs.Growing.{taken}
use Rattle.sizing.proofs.Sizes.{shapes_grown}
use Rattle.sizing.proofs.Entering.{still}
use Rattle.sizing.proofs.census.Census.enter.Goals as goal

pub returns : goal.returns
returns c = λ rs h counts.
    let p = row_of c.args.prefix.now in
    let made = c.in_ok-grown.ensures.grown (pushed rs) (shapes (pushed rs)) (taken counts.graph) counts.holds in
    let ys = c.grow-grown.new.self.slots in
    let zs = c.keep_only.new.self.slots in
    let tree = still ys zs c.unwrap_or-self.result (grown p (pushed rs)) (rw (c.unwrap_or-self.ensures, c.in_ok-grown.was) made.unfolds) c.keep_only.ensures in
    let more = c.missing-more.ensures (pushed rs) counts.graph in (
      made.room,
      record {
        graph = tree.0;
        holds = tree.1;
        routes = omega (arith, counts.routes, c.saturating_add-self.ensures);
        forks = omega (arith, counts.forks, c.saturating_add-self-2.ensures, more, shapes_grown p (pushed rs));
      },
    )

pub returns-in_err-grown : goal.returns-in_err-grown
returns-in_err-grown c = λ rs h counts.
    let grow = c.in_err-grown.ensures in
    let full = grow.grown (pushed rs) (shapes (pushed rs)) (taken counts.graph) counts.holds in
    let out = err_from_is_err_and c.from_residual.result c.from_residual.ensures.1 in
    let ys = c.grow-grown.new.self.slots in
    let zs = c.keep_only.new.self.slots in
    let start = c.args.self.now.start in
    let stays = grow.kept.shapes start (pushed rs) counts.graph in
    let tree = still ys zs c.unwrap_or-self.result (pushed rs) (rw (c.unwrap_or-self.ensures, c.in_err-grown.was) stays) c.keep_only.ensures in
    rw (out.1, out.2) (
      full.why_full,
      full.many,
      record {
        graph = tree.0;
        holds = tree.1;
        routes = counts.routes;
        forks = counts.forks;
      },
    )
