use Rattle.std.proofs.Common.{ap, ◌∙◌, mod-eq_of_lt, arith}
use Rattle.bits.specs.Rows.{word}
use Rattle.bits.proofs.Words.{marked_word, marked_fits}
use Rattle.bits.proofs.halves.marked.Goals as goal

pub returns : goal.returns
returns c =
    ap (word 64) (mod-eq_of_lt (marked_fits 64 c.args.x c.args.i c.requires (omega arith)))
    ∙ marked_word 64 c.args.x c.args.i c.requires
