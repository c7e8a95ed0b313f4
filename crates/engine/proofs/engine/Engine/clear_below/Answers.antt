use Rattle.net.specs.Prefix.{row_of}
use Rattle.engine.specs.Seen.{state}
use Rattle.engine.proofs.Ways.{clears_below}
use Rattle.engine.proofs.engine.Engine.clear_below.Goals as goal

pub returns-clause-clears : goal.returns-clause-clears
returns-clause-clears g c = λ given rs w stands is_leaf over leads is.
    let e = c.args.self.now in
    let three = c.paint_from-2.new.self in
    clears_below given rs (state g.F.Family.W g.R.Store.content g.L.Store.content e) g.met.F.Family.most (row_of c.args.at.now)
    (g.R.Store.content c.remove.new.self) (g.met.R.Store.sound c.remove.new.self) (row_of c.args.leaf.now) over
    c.args.next e.start c.descend-spot.result c.remove.result
    (state g.F.Family.W g.R.Store.content g.L.Store.content c.paint_from.new.self) (state g.F.Family.W g.R.Store.content g.L.Store.content three) c.paint_from.result c.paint_from-2.result
    (g.met.L.Store.sound three.leaves) w stands is_leaf leads is c.remove.ensures.removes c.remove.ensures.limits c.descend-spot.ensures c.paint_from.ensures c.paint_from-2.ensures
