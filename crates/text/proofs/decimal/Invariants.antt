use Rattle.text.proofs.Digits.{Written}
use Rattle.text.proofs.decimal.Given as goal

abbrev pub invariant-loop-b : goal.invariant-loop-b
invariant-loop-b l = Written l.field l.b-index l.n
