use Rattle.std.proofs.Common.{sym, ap, ◌∙◌}
use Rattle.text.specs.Fields.{hex_row}
use Rattle.text.proofs.Pairs.{first_bad, second_bad, both_good}
use Rattle.text.proofs.hexadecimal.Goals as goal

pub returns-in_err-hex_word : goal.returns-in_err-hex_word
returns-in_err-hex_word c =
    rw c.from_residual.ensures (first_bad c.args.field.now c.min.result c.if-field-gt32.false (ap hex_row (sym c.split_at.ensures.front) ∙ c.in_err-hex_word.ensures))

pub returns-in_err-hex_word-2 : goal.returns-in_err-hex_word-2
returns-in_err-hex_word-2 c =
    rw c.from_residual-in_err-hex_word-2.ensures
    (second_bad c.args.field.now c.min.result c.if-field-gt32.false _ (ap hex_row (sym c.split_at.ensures.front) ∙ c.in_ok-hex_word.ensures.0)
    (ap hex_row (sym c.split_at.ensures.back) ∙ c.in_err-hex_word-2.ensures))

pub returns : goal.returns
returns c =
    both_good c.args.field.now c.min.result c.if-field-gt32.false _ _ _ c.min.ensures (ap hex_row (sym c.split_at.ensures.front) ∙ c.in_ok-hex_word.ensures.0)
    (ap hex_row (sym c.split_at.ensures.back) ∙ c.in_ok-hex_word-2.ensures.0) c.shifted.ensures c.shifted-2.ensures
