use Rattle.std.proofs.Common.{subst}
use Rattle.net.specs.Prefix.{row_of}
use Rattle.store.specs.Content.{Puts}
use Rattle.engine.specs.Seen.{state}
use Rattle.engine.proofs.Ways.{sets_at}
use Rattle.engine.proofs.engine.Engine.set_at.Goals as goal

pub returns-clause-sets : goal.returns-clause-sets
returns-clause-sets g c = λ given rs w node leads.
    let e = c.args.self.now in
    let one = c.paint_from.new.self in
    let p = row_of c.args.at.now in
    let routes = g.R.Store.content c.put.new.self in
    sets_at given rs (state g.F.Family.W g.R.Store.content g.L.Store.content e) g.met.F.Family.most p routes (g.met.R.Store.sound c.put.new.self)
    c.args.hop c.args.edge (state g.F.Family.W g.R.Store.content g.L.Store.content one) c.paint_from.result c.put.result
    (g.met.L.Store.sound one.leaves) w node leads c.paint_from.ensures
    (subst (λ n. Puts p n (g.R.Store.content one.routes) routes c.put.result) c.from.ensures c.put.ensures.puts) c.put.ensures.limits
