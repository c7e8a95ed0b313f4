use Rattle.std.proofs.Common.{◌+◌, ◌*◌, sym, ◌∙◌, subst, inl, inr}
use Rattle.text.proofs.Digits.{Written, written_more, written_bad, written_all, sized}
use Rattle.text.proofs.decimal.Goals as goal
use Rattle.text.proofs.decimal.Goals.{else-len-gt1-via-then-len-gt1+else-field-eq48, else-len-gt1-via-else-len-gt1}

pub returns-in_err-decimal_value : goal.returns-in_err-decimal_value
returns-in_err-decimal_value c =
    c.from_residual.ensures ∙ written_bad c.args.field.now c.loop-b.b-index c.loop-b.n c.loop-b-test.true (sym c.in_err-decimal_value.ensures) c.loop-b.invariant
    ∙ sym (sized c.args.field.now c.if-len-gt-MOST_DIGITS.false c.if-len-eq0.false (elim c.else-len-gt1.branch [
      | else-len-gt1-via-then-len-gt1+else-field-eq48 w ↦ inl w.if-field-eq48.false
      | else-len-gt1-via-else-len-gt1 w ↦ inr w.if-len-gt1.false
    ]))

pub loop-b-preserved : goal.loop-b-preserved
loop-b-preserved c =
    subst (λ d. Written c.args.field.now (c.loop-b.b-index + 1) (c.loop-b.n * 10 + d)) (sym c.from.ensures)
    (written_more c.args.field.now c.loop-b.b-index c.loop-b.n c.in_ok-decimal_value.field-0 c.loop-b-test.true (sym c.in_ok-decimal_value.ensures) c.loop-b.invariant)

pub returns : goal.returns
returns c =
    written_all c.args.field.now c.loop-b.b-index c.loop-b.n c.loop-b-test.false c.loop-b.invariant
    ∙ sym (sized c.args.field.now c.if-len-gt-MOST_DIGITS.false c.if-len-eq0.false (elim c.else-len-gt1.branch [
      | else-len-gt1-via-then-len-gt1+else-field-eq48 w ↦ inl w.if-field-eq48.false
      | else-len-gt1-via-else-len-gt1 w ↦ inr w.if-len-gt1.false
    ]))
