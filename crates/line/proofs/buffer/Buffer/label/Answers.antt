use Rattle.std.proofs.Common.{◌≤◌, ◌++◌, length, take, decimal, ap, ◌∙◌, append_assoc, arith, length-append}
use Rattle.std.proofs.lemmas.List.{take_all}
use Rattle.line.proofs.Held.{digits_few}
use Rattle.line.proofs.buffer.Buffer.label.Goals as goal

pub returns-clause-says : goal.returns-clause-says
returns-clause-says c =
    let word = c.args.self.now ++ c.args.word.now in
    let digits = decimal c.args.n in
    let few : length (decimal c.args.n) ≤ 20 = digits_few c.args.n c.ranges.n.fits in
    let all : length ((c.args.self.now ++ c.args.word.now) ++ decimal c.args.n) ≤ 81 =
    omega (arith, length-append word digits, length-append c.args.self.now c.args.word.now, few, c.requires) in
    c.number.ensures ∙ ap (λ xs. take 81 (xs ++ digits)) c.text.ensures ∙ take_all 81 (word ++ digits) all ∙ append_assoc c.args.self.now c.args.word.now digits

pub returns-clause-few : goal.returns-clause-few
returns-clause-few c = digits_few c.args.n c.ranges.n.fits
