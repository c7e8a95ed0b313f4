use Rattle.std.proofs.Common.{sym, ◌∙◌}
use Rattle.bits.proofs.Pairs.{bit_first, bit_second, bit_past}
use Rattle.bits.proofs.halves.Halves.bit.Goals as goal

pub returns-then-i-lt64 : goal.returns-then-i-lt64
returns-then-i-lt64 c = c.word_bit.ensures ∙ sym (bit_first c.args.self.first c.args.self.second c.args.i c.if-i-lt64.true)

pub returns-then-i-lt128 : goal.returns-then-i-lt128
returns-then-i-lt128 c = c.word_bit-then-i-lt128.ensures ∙ sym (bit_second c.args.self.first c.args.self.second c.args.i c.if-i-lt64.false)

pub returns-else-i-lt128 : goal.returns-else-i-lt128
returns-else-i-lt128 c = sym (bit_past c.args.self.first c.args.self.second c.args.i c.if-i-lt128.false)
