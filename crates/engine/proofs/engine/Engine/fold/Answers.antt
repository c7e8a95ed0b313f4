use Rattle.std.proofs.Common.{sym, ◌∙◌}
use Rattle.net.specs.Prefix.{row_of}
use Rattle.tree.specs.Tree.{shapes}
use Rattle.tree.specs.Changes.{pruned}
use Rattle.path.specs.Prune.{others}
use Rattle.graph.proofs.Growing.{taken}
use Rattle.engine.proofs.engine.Engine.fold.Goals as goal

pub returns : goal.returns
returns g c = λ a old held.
    let e = c.args.self.now in
    let p = row_of c.args.at.now in
    let path = c.prune-start.ensures in
    c.drawn.ensures e.table.slots a (pruned (others (g.R.Store.content e.routes).map p) a p) (record {
      sound = e.table.sound;
      old = old;
      held = held;
      counted = c.count-before.ensures.used;
      long = c.prune-start.new.table.long ∙ sym e.table.long;
      kept = path.kept;
      made = path.pruned a (shapes a) (taken old) held;
    })
