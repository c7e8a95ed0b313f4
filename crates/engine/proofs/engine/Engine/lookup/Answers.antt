use Rattle.engine.specs.Seen.{state}
use Rattle.engine.proofs.Looking.{found, lookup_ends}
use Rattle.engine.proofs.engine.Engine.lookup.Goals as goal

pub returns-in_err-depth : goal.returns-in_err-depth
returns-in_err-depth g c = λ given rs serves.
    absurd (lookup_ends given rs (state g.F.Family.W g.R.Store.content g.L.Store.content c.args.self.now) (g.F.Family.row c.args.address.now) serves (g.met.F.Family.rows c.args.address.now) c.in_err-depth.ensures)

pub returns-in_default : goal.returns-in_default
returns-in_default g c = λ given rs serves.
    found given rs (state g.F.Family.W g.R.Store.content g.L.Store.content c.args.self.now) (g.F.Family.row c.args.address.now) serves (g.met.F.Family.rows c.args.address.now)
    c.in_ok-depth.depth c.in_ok-depth.ensures _ c.front-leaf.ensures _ c.in_default.ensures

pub returns : goal.returns
returns g c = λ given rs serves.
    found given rs (state g.F.Family.W g.R.Store.content g.L.Store.content c.args.self.now) (g.F.Family.row c.args.address.now) serves (g.met.F.Family.rows c.args.address.now)
    c.in_ok-depth.depth c.in_ok-depth.ensures _ c.front-leaf.ensures _ c.in-Some.ensures
