use Rattle.std.proofs.Common.{sym}
use Rattle.bits.proofs.Words.{bit_of_word}
use Rattle.bits.proofs.halves.word_bit.Goals as goal

pub returns : goal.returns
returns c = sym (bit_of_word 64 c.args.x c.args.i c.requires)
