use Rattle.net.specs.Prefix.{row_of}
use Rattle.engine.specs.Seen.{state}
use Rattle.engine.proofs.Ways.{clears_at}
use Rattle.engine.proofs.engine.Engine.clear_at.Goals as goal

pub returns-clause-clears : goal.returns-clause-clears
returns-clause-clears g c = λ given rs w stands node leads is.
    let e = c.args.self.now in
    let one = c.paint_from.new.self in
    clears_at given rs (state g.F.Family.W g.R.Store.content g.L.Store.content e) g.met.F.Family.most (row_of c.args.at.now)
    (g.R.Store.content c.remove.new.self) (g.met.R.Store.sound c.remove.new.self)
    c.args.next c.args.edge (state g.F.Family.W g.R.Store.content g.L.Store.content one) c.paint_from.result c.remove.result
    (g.met.L.Store.sound one.leaves) w stands node leads is c.paint_from.ensures c.remove.ensures.removes c.remove.ensures.limits
