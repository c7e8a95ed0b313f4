use Rattle.std.proofs.Common.{subst}
use Rattle.net.specs.Prefix.{row_of}
use Rattle.store.specs.Content.{Puts}
use Rattle.engine.specs.Seen.{state}
use Rattle.engine.proofs.Ways.{sets_below}
use Rattle.engine.proofs.engine.Engine.set_below.Goals as goal

pub returns-clause-sets : goal.returns-clause-sets
returns-clause-sets g c = λ given rs w is_leaf over leads.
    let e = c.args.self.now in
    let two = c.paint_from.new.self in
    let p = row_of c.args.at.now in
    let leaves = g.L.Store.content c.put.new.self in
    let routes = g.R.Store.content c.put-2.new.self in
    sets_below given rs (state g.F.Family.W g.R.Store.content g.L.Store.content e) g.met.F.Family.most p routes
    (g.met.R.Store.sound c.put-2.new.self) (row_of c.args.leaf.now) over
    c.args.hop c.args.start c.descend-spot.result c.remove-had.result (g.L.Store.content c.remove-had.new.self) leaves (state g.F.Family.W g.R.Store.content g.L.Store.content two)
    c.paint_from.result c.put.result c.put-2.result
    (g.met.L.Store.sound c.put.new.self) w is_leaf leads c.remove-had.ensures.removes c.remove-had.ensures.limits c.descend-spot.ensures c.paint_from.ensures
    (subst (λ n. Puts p n (g.L.Store.content two.leaves) leaves c.put.result) c.from.ensures c.put.ensures.puts) c.put.ensures.limits
    (subst (λ n. Puts p n (g.R.Store.content two.routes) routes c.put-2.result) c.from-2.ensures c.put-2.ensures.puts) c.put-2.ensures.limits
