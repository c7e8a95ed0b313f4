use Rattle.std.proofs.Common.{ℕ, ◌-◌, ◌*◌, ◌/◌, ◌^◌, ◌<◌, ap, ◌∙◌, mod-eq_of_lt, arith}
use Rattle.bits.specs.Rows.{word}
use Rattle.bits.proofs.Words.{kept_word, kept_whole, kept_fits, word_zeros}
use Rattle.bits.proofs.halves.kept.Goals as goal

pub returns-then-d-ge64 : goal.returns-then-d-ge64
returns-then-d-ge64 c = kept_whole 64 c.args.x c.args.d c.if-d-ge64.true

pub returns-then-d-eq0 : goal.returns-then-d-eq0
returns-then-d-eq0 c = rw c.if-d-eq0.true (word_zeros 64 0)

pub returns-else-d-eq0 : goal.returns-else-d-eq0
returns-else-d-eq0 c =
    let k : ℕ = 64 - c.args.d in
    let fits : c.args.x / 2 ^ k * 2 ^ k < 2 ^ 64 = kept_fits 64 c.args.x k (omega arith) in
    ap (word 64) (mod-eq_of_lt fits) ∙ kept_word 64 c.args.x c.args.d (omega arith)
