use Rattle.std.proofs.Common.{◌≡◌, ℕ, refl, ap, ◌∙◌, arith}
use Rattle.tree.specs.Ledger.{answers}
use Rattle.engine.specs.Calls.{call_of, answer_of}
use Rattle.engine.specs.Seen.{state}
use Rattle.line.specs.Line.{read_line}
use Rattle.line.specs.Told.{line_calls}
use Rattle.line.proofs.Telling.{tells_call, tells_bad}
use Rattle.line.proofs.tell.tell.Goals as goal

pub returns-in-Ok : goal.returns-in-Ok
returns-in-Ok g c = record {
  ill = λ why e. absurd (let z : ◌≡◌ {A = ℕ} 0 1 = cc (e, c.in-Ok.ensures) in omega arith);
  told = λ h ls t. tells_call h ls c.args.line.now (call_of g.F.Family.row c.in-Ok.call) (answer_of c.step.result) (state g.F.Family.W g.R.Store.content g.L.Store.content c.step.new.self)
      (ap (λ W. read_line W c.args.line.now) t.serves.stored.width ∙ c.in-Ok.ensures)
      (c.step.ensures h (line_calls h.width ls) (answers h _ (line_calls h.width ls)) t);
}

pub returns-in-Err : goal.returns-in-Err
returns-in-Err g c = record {
  ill = λ why e. refl;
  told = λ h ls t. tells_bad h ls c.args.line.now c.in-Err.refusal (state g.F.Family.W g.R.Store.content g.L.Store.content c.args.engine.now) (ap (λ W. read_line W c.args.line.now) t.serves.stored.width ∙ c.in-Err.ensures) t;
}
