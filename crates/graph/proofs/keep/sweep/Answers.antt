use Rattle.std.proofs.Common.{◌+◌, set, sym, ◌∙◌, subst, arith}
use Rattle.std.proofs.lemmas.List.{set-get_or}
use Rattle.graph.specs.Slots.{blank}
use Rattle.graph.proofs.Sweeping.{Sweeping, sweep_free, sweep_keep, sweep_is, sweep_count}
use Rattle.graph.proofs.keep.sweep.Goals as goal
use Rattle.graph.proofs.keep.sweep.Goals.{then-not-marks-n, else-not-marks-n+then-is_used, else-not-marks-n+else-is_used}

pub loop-n-preserved : goal.loop-n-preserved
loop-n-preserved c =
    let xs = c.args.slots.now in
    let ms = c.args.marks.now in
    let l = c.loop-n in
    let after = c.if-not-marks-n in
    let less = c.loop-n-test.true in
    elim c.if-not-marks-n.branch [
      | then-not-marks-n w ↦ sweep_is xs ms (l.n + 1) _ _ after.used after.slots w.used-is w.slots-is
          (subst (λ v. Sweeping xs ms (l.n + 1) l.used (set l.slots l.n v)) (sym w.release.ensures) (sweep_free xs ms l.n l.used l.slots l.invariant less w.if-not-marks-n.true))
      | else-not-marks-n+then-is_used w ↦ (
          let used = w.if-is_used.ensures in
          sweep_is xs ms (l.n + 1) _ _ after.used after.slots (grind arith) (w.slots-is ∙ set-get_or l.slots l.n blank) (sweep_keep xs ms l.n l.used l.slots l.invariant less w.if-not-marks-n.false))
      | else-not-marks-n+else-is_used w ↦ (
          let used = w.if-is_used.ensures in
          sweep_is xs ms (l.n + 1) _ _ after.used after.slots (grind arith) (w.slots-is ∙ set-get_or l.slots l.n blank) (sweep_keep xs ms l.n l.used l.slots l.invariant less w.if-not-marks-n.false))
    ]

pub returns-clause-counted : goal.returns-clause-counted
returns-clause-counted c =
    let l = c.loop-n in
    sweep_count c.args.slots.now c.args.marks.now l.n l.used l.slots l.invariant c.loop-n-test.false
