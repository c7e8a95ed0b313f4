use Rattle.engine.specs.Seen.{state}
use Rattle.engine.proofs.Drawing.{moves}
use Rattle.engine.proofs.engine.Engine.redraw.Goals as goal

pub returns : goal.returns
returns g c = moves (state g.F.Family.W g.R.Store.content g.L.Store.content c.args.self.now) c.keep_only.new.self.slots c.args.start c.keep_only.ensures
