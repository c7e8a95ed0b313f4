use Rattle.session.specs.Seen.{hearing}
use Rattle.session.proofs.Feeding.{FedSoFar}
use Rattle.session.proofs.session.Session.feed.Given as goal

abbrev pub invariant-loop-i : goal.invariant-loop-i
invariant-loop-i g l = FedSoFar l.piece l.i l.written l.initial.row l.row (hearing g.F.Family.W g.R.Store.content g.L.Store.content l.initial.self) (hearing g.F.Family.W g.R.Store.content g.L.Store.content l.self)
