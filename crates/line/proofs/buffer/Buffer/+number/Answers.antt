use Rattle.std.proofs.Common.{◌+◌, ◌%◌, [], ◌∷◌, ◌++◌, take, ap, ◌∙◌}
use Rattle.line.proofs.Held.{digit_held, number_held}
use Rattle.line.proofs.buffer.Buffer.+number.Goals as goal
use Rattle.line.proofs.buffer.Buffer.+number.Goals.{then-n-ge10, else-n-ge10}

pub returns : goal.returns
returns t c = elim c.if-n-ge10.branch [
  | then-n-ge10 w ↦ c.push.ensures ∙ ap (λ xs. take 81 (xs ++ ((48 + c.args.n % 10) ∷ []))) (w.self-is ∙ w.number.ensures) ∙ number_held c.args.self.now c.args.n w.if-n-ge10.true c.ranges.n.fits
  | else-n-ge10 w ↦ c.push.ensures ∙ ap (λ xs. take 81 (xs ++ ((48 + c.args.n % 10) ∷ []))) w.self-is ∙ digit_held c.args.self.now c.args.n w.if-n-ge10.false
]
