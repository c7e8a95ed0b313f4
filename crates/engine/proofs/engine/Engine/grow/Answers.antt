use Rattle.std.proofs.Common.{sym, ◌∙◌}
use Rattle.net.specs.Prefix.{row_of}
use Rattle.tree.specs.Tree.{shapes, grown}
use Rattle.graph.proofs.Growing.{taken}
use Rattle.engine.proofs.engine.Engine.grow.Goals as goal

pub returns : goal.returns
returns g c = λ a old held.
    let table = c.args.self.now.table in
    let path = c.grow-start.ensures in
    c.drawn.ensures table.slots a (grown (row_of c.args.at.now) a) (record {
      sound = table.sound;
      old = old;
      held = held;
      counted = c.count-before.ensures.used;
      long = c.grow-start.new.self.long ∙ sym table.long;
      kept = path.kept;
      made = path.grown a (shapes a) (taken old) held;
    })
