use Rattle.std.proofs.Common.{◌≡◌, sym, ap, ◌∙◌, subst, arith}
use Rattle.layer.specs.Buckets.{fill, choice, earliest_least, FreesIn}
use Rattle.layer.proofs.Buckets.{choice_more, choice_first}
use Rattle.layer.proofs.layer.Layer.room.Goals as goal
use Rattle.layer.proofs.layer.Layer.room.Goals.{then-fill-least, else-fill-least}

pub loop-attempt-init : goal.loop-attempt-init
loop-attempt-init g c = (c.choose-best.ensures ∙ sym (ap (g.C.Chooser.bucket c.args.prefix.now) (choice_first _)), c.fill-least.ensures)

pub loop-attempt-preserved : goal.loop-attempt-preserved
loop-attempt-preserved g c =
    let xs = c.args.self.now.buckets.slots in
    let p = c.args.prefix.now in
    let more = choice_more g.C.Chooser.bucket xs p c.loop-attempt.attempt c.loop-attempt.best c.loop-attempt.least c.choose-chosen.result c.fill-fill.result c.loop-attempt.invariant.0 c.loop-attempt.invariant.1 c.choose-chosen.ensures c.fill-fill.ensures in
    elim c.if-fill-least.branch [
      | then-fill-least w ↦ (w.best-is ∙ more.0 w.if-fill-least.true, w.least-is ∙ c.fill-fill.ensures ∙ ap (fill xs) (sym w.best-is))
      | else-fill-least w ↦ (w.best-is ∙ more.1 w.if-fill-least.false, w.least-is ∙ c.loop-attempt.invariant.1 ∙ ap (fill xs) (sym w.best-is))
    ]

pub returns : goal.returns
unfolding choice
returns g c =
    let xs = c.args.self.now.buckets.slots in
    let four : c.loop-attempt.attempt ≡ 4 = omega (arith, c.loop-attempt-test.false, c.loop-attempt.auto.attempt-end) in
    let best = c.loop-attempt.invariant.0 ∙ ap (λ n. g.C.Chooser.bucket c.args.prefix.now (earliest_least (λ j. fill xs (g.C.Chooser.bucket c.args.prefix.now j)) n)) four in
    subst (λ b. FreesIn xs b c.free_in.result) best c.free_in.ensures
