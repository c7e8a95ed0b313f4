use Rattle.std.proofs.Common.{◌∙◌}
use Rattle.engine.specs.Seen.{state}
use Rattle.session.specs.Seen.{hearing}
use Rattle.session.specs.Session.{ended}
use Rattle.session.proofs.Sessions.{heard_line, reply_told, row_told}
use Rattle.line.specs.Told.{reply_to}
use Rattle.session.proofs.session.Session.end_line.Goals as goal

pub returns : goal.returns
returns g c =
    let kept = row_told c.answer_line.result c.unwrap_or.result c.args.row.now c.answer_line.new.row c.unwrap_or.ensures c.answer_line.ensures.row in
    record {
      within = kept.0;
      rest = kept.1;
      heard = λ h input output room k.
          let told = c.answer_line.ensures.told h (ended input) room k.told in
          let reply = reply_told c.answer_line.result c.unwrap_or.result (reply_to h (ended input) c.bytes.result.now) c.args.row.now c.answer_line.new.row c.unwrap_or.ensures told.1 in
          heard_line h input output (hearing g.F.Family.W g.R.Store.content g.L.Store.content c.args.self.now) (record { engine = state g.F.Family.W g.R.Store.content g.L.Store.content c.answer_line.new.engine; line = c.replace-line.new.dest })
          c.bytes.result.now c.args.row.now c.answer_line.new.row c.unwrap_or.result (c.bytes.ensures ∙ c.replace-line.ensures.value) told.0 reply.0 reply.1
          (c.replace-line.ensures.after ∙ c.empty.ensures) k;
    }
