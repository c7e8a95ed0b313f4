use Rattle.std.proofs.Common.{◌<◌, ◌≤◌, length, take, sym, subst}
use Rattle.engine.specs.Calls.{given_by, calls_of, answers_of}
use Rattle.engine.specs.Seen.{state}
use Rattle.engine.proofs.Running.{next_turn, all_turns}
use Rattle.engine.proofs.run.replay.Goals as goal

pub loop-turn-preserved : goal.loop-turn-preserved
loop-turn-preserved g c =
    let known = given_by g.F.Family.W (g.R.Store.content c.args.routes) (g.L.Store.content c.args.leaves) in
    let ts = c.loop-turn.turns in
    let i = c.loop-turn.turn-index in
    let less : i < length ts = subst (λ n. i < n) (sym c.loop-turn.auto.turns) c.loop-turn-test.true in
    next_turn g.F.Family.row known c.args.turns.now ts i c.loop-turn.invariant.0 c.turn-item.result c.step-turn.result (state g.F.Family.W g.R.Store.content g.L.Store.content c.step-turn.new.self) less
    (c.step-turn.ensures known (take i (calls_of g.F.Family.row c.args.turns.now)) (take i (answers_of ts)) c.loop-turn.invariant.1)

pub returns : goal.returns
returns g c =
    let known = given_by g.F.Family.W (g.R.Store.content c.args.routes) (g.L.Store.content c.args.leaves) in
    let ts = c.loop-turn.turns in
    let i = c.loop-turn.turn-index in
    let past : length ts ≤ i = subst (λ n. n ≤ i) (sym c.loop-turn.auto.turns) c.loop-turn-test.false in
    record {
      calls = c.loop-turn.invariant.0;
      ran = all_turns g.F.Family.row known c.args.turns.now ts i c.loop-turn.invariant.0 (state g.F.Family.W g.R.Store.content g.L.Store.content c.loop-turn.engine) past c.loop-turn.invariant.1;
    }
