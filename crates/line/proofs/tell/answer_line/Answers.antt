use Rattle.std.proofs.Common.{◌≡◌, ℕ, ◌≤◌, List, [], length, sym, ap, ◌∙◌, subst, arith}
use Rattle.tree.specs.Ledger.{Answer, after_calls}
use Rattle.engine.specs.Calls.{answer_of}
use Rattle.engine.specs.Seen.{state}
use Rattle.line.specs.Reply.{written}
use Rattle.line.specs.Told.{line_calls, line_turn}
use Rattle.line.proofs.Replies.{Counted, written_short}
use Rattle.line.proofs.Telling.{counted_line, replied, row_kept}
use Rattle.line.proofs.tell.answer_line.Goals as goal

pub returns : goal.returns
returns g c = record {
  row = row_kept c.reply-reply.result c.args.row.now c.copy_to.new.row c.copy_to.result c.if-row-lt-LEAST_ROW.false c.copy_to.ensures.number c.copy_to.ensures.bytes;
  short = λ h. absurd (omega (arith, h, c.if-row-lt-LEAST_ROW.false));
  ill = c.tell.ensures.ill;
  told = λ h ls room t.
      let both = c.tell.ensures.told h ls t in
      let counted = counted_line h ls c.args.line.now (state g.F.Family.W g.R.Store.content g.L.Store.content c.args.engine.now) t in
      let small : length (written (answer_of c.tell.result)) ≤ 40 = written_short (answer_of c.tell.result) c.reply-reply.ensures.few (subst (λ (x : Answer). Counted x) both.1 counted) in
      let says : written (answer_of c.tell.result) ≡ written (line_turn h (after_calls h [] (line_calls h.width ls)) c.args.line.now).1 = ap written (sym both.1) in (
        both.0,
        replied (written (line_turn h (after_calls h [] (line_calls h.width ls)) c.args.line.now).1) c.reply-reply.result c.args.row.now c.copy_to.new.row c.copy_to.result
            (c.reply-reply.ensures.line ∙ says) (subst (λ (z : List ℕ). length z ≤ 40) says small) room c.copy_to.ensures.number c.copy_to.ensures.bytes,
      );
}
