use Rattle.engine.specs.Calls.{given_by}
use Rattle.engine.specs.Seen.{state}
use Rattle.session.proofs.Sessions.{heard_starts}
use Rattle.session.proofs.session.Session.new.Goals as goal

pub returns : goal.returns
returns g c =
    heard_starts (given_by g.F.Family.W (g.R.Store.content c.args.routes) (g.L.Store.content c.args.leaves))
    (record { engine = state g.F.Family.W g.R.Store.content g.L.Store.content c.new.result; line = c.empty-line.result })
    c.new.ensures.ran
    c.empty-line.ensures
