use Rattle.std.proofs.Common.{arith}
use Rattle.bits.proofs.Extended.{extended_full, extended_zero, extended_first, extended_second}
use Rattle.bits.proofs.halves.Halves.extended.Goals as goal
use Rattle.bits.proofs.halves.Halves.extended.Goals.{then-not-one-via-then-not-one, then-not-one-via-else-not-one+then-i-ge128}

pub returns-then-not-one : goal.returns-then-not-one
returns-then-not-one c = record {
  room = λ h. elim c.then-not-one.branch [
    | then-not-one-via-then-not-one w ↦ rw w.if-not-one.true (extended_zero _ _ c.front.result.first c.front.result.second c.args.i h c.front.ensures)
    | then-not-one-via-else-not-one+then-i-ge128 w ↦ absurd (let k = w.if-i-ge128.true in omega arith)
  ];
  full = λ h. extended_full c.args.self.first c.args.self.second c.front.result.first c.front.result.second c.args.i h c.front.ensures;
}

pub returns-then-i-lt64-clause-room : goal.returns-then-i-lt64-clause-room
returns-then-i-lt64-clause-room c h =
    rw c.if-not-one.false (extended_first c.args.self.first c.args.self.second c.marked.result c.args.i c.if-i-lt64.true c.marked.ensures)

pub returns-clause-room : goal.returns-clause-room
returns-clause-room c h =
    rw c.if-not-one.false (extended_second c.args.self.first c.args.self.second c.marked-2.result c.args.i c.if-i-lt64.false h c.marked-2.ensures)
