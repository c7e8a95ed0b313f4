use Rattle.text.proofs.Digits.{HexWritten}
use Rattle.text.proofs.hex_word.Given as goal

abbrev pub invariant-loop-b : goal.invariant-loop-b
invariant-loop-b l = HexWritten l.digits l.b-index l.n
