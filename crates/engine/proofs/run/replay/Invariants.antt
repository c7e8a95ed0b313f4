use Rattle.std.proofs.Common.{◌≡◌, take}
use Rattle.engine.specs.Calls.{given_by, calls_of, answers_of}
use Rattle.engine.specs.Serves.{Ran}
use Rattle.engine.specs.Seen.{state}
use Rattle.engine.proofs.run.replay.Given as goal

-- the calls stay, and the law holds of those up to here
abbrev pub invariant-loop-turn : goal.invariant-loop-turn
invariant-loop-turn g l =
    (calls_of g.F.Family.row l.turns ≡ calls_of g.F.Family.row l.initial.turns)
    × Ran (given_by g.F.Family.W (g.R.Store.content l.fn.routes) (g.L.Store.content l.fn.leaves)) (take l.turn-index (calls_of g.F.Family.row l.initial.turns)) (take l.turn-index (answers_of l.turns))
    (state g.F.Family.W g.R.Store.content g.L.Store.content l.engine)
