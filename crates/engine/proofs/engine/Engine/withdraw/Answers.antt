use Rattle.net.specs.Prefix.{row_of}
use Rattle.engine.specs.Seen.{state}
use Rattle.engine.proofs.Settling.{unknown_refused, strikes_told}
use Rattle.engine.proofs.engine.Engine.withdraw.Goals as goal

pub returns-then-is_none : goal.returns-then-is_none
returns-then-is_none g c = λ given rs serves.
    unknown_refused given rs (state g.F.Family.W g.R.Store.content g.L.Store.content c.args.self.now) serves (g.F.Family.row c.args.address.now) c.args.len c.in_ok-at.ensures.0 (row_of c.in_ok-at.at) c.in_ok-at.ensures.1
    c.get.result c.get.ensures c.if-is_none.ensures

pub returns : goal.returns
returns g c = λ given rs serves.
    strikes_told given rs (state g.F.Family.W g.R.Store.content g.L.Store.content c.args.self.now) serves (g.F.Family.row c.args.address.now) c.args.len c.in_ok-at.ensures.0 (row_of c.in_ok-at.at) c.in_ok-at.ensures.1
    c.get.result c.get.ensures (state g.F.Family.W g.R.Store.content g.L.Store.content c.strike.new.self) c.strike.result c.if-is_none.ensures c.strike.ensures
