use Rattle.std.proofs.Common.{length, take, sym, ap, ◌∙◌, true≢false}
use Rattle.std.proofs.lemmas.Bool.{eq-eqb, eqb-true}
use Rattle.std.proofs.lemmas.List.{nil_from_length}
use Rattle.session.specs.Seen.{hearing}
use Rattle.session.proofs.Sessions.{over_ended, over_line}
use Rattle.session.proofs.session.Session.finish.Goals as goal

pub returns-clause-over : goal.returns-clause-over
returns-clause-over g c h input output k =
    over_line h input output (hearing g.F.Family.W g.R.Store.content g.L.Store.content c.args.self.now) (hearing g.F.Family.W g.R.Store.content g.L.Store.content c.end_line.new.self) (take c.end_line.result c.end_line.new.row)
    (λ e. absurd (true≢false (sym (eq-eqb (length c.bytes.result.now) 0 (ap length (c.bytes.ensures ∙ e))) ∙ sym c.if-is_empty.ensures))) k (c.end_line.ensures.heard h input output c.if-row-lt-LEAST_ROW.false k)

pub returns-then-is_empty-clause-over : goal.returns-then-is_empty-clause-over
returns-then-is_empty-clause-over g c h input output k =
    over_ended h input output (hearing g.F.Family.W g.R.Store.content g.L.Store.content c.args.self.now) (sym c.bytes.ensures ∙ nil_from_length c.bytes.result.now (eqb-true (length c.bytes.result.now) 0 (sym c.if-is_empty.ensures))) k
