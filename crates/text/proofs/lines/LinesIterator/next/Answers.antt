use Rattle.std.proofs.lemmas.Bool.{eqb-true}
use Rattle.std.proofs.lemmas.Bool.Decides.{nat_tests}
use Rattle.std.proofs.Common.{◌≡◌, ℕ, ◌+◌, ◌-◌, ◌<◌, false, eqb, ◌∷◌, length, take, drop, sym, refl, ap, ◌∙◌, arith}
use Rattle.std.proofs.lemmas.List.{length-take, length-drop, take_rest}
use Rattle.text.specs.Lines.{lines}
use Rattle.text.proofs.FirstLine.{no_lines, lines_at, lines_one}
use Rattle.text.proofs.lines.LinesIterator.next.Goals as goal

not_none : {n : ℕ} → eqb n 0 ≡ false → 0 < n
not_none h = grind (arith, nat_tests)

pub returns-then-is_empty-clause-steps : goal.returns-then-is_empty-clause-steps
returns-then-is_empty-clause-steps c = (no_lines c.args.self.now.rest.now (eqb-true _ _ (sym c.is_empty.ensures ∙ c.if-is_empty.true)), refl)

pub returns-in_default-clause-steps : goal.returns-in_default-clause-steps
returns-in_default-clause-steps c =
    let bs = c.args.self.now.rest.now in
    let n = length bs in
    let empty : length (take (n - n) (drop n bs)) ≡ 0 = simp (length-take, length-drop) (omega arith) in
    lines_one bs (not_none (sym c.is_empty.ensures ∙ c.if-is_empty.false)) c.in_default.ensures.place ∙ ap (λ ls. bs ∷ ls) (sym (no_lines (take (n - n) (drop n bs)) empty))

pub returns-clause-steps : goal.returns-clause-steps
returns-clause-steps c =
    let bs = c.args.self.now.rest.now in
    lines_at bs c.in-Some.end c.in-Some.ensures.place ∙ ap (λ r. take c.in-Some.end bs ∷ lines r) (sym (take_rest bs (c.in-Some.end + 1)))
