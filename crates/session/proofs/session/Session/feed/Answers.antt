use Rattle.std.proofs.Common.{◌≡◌, ℕ, [], ◌∷◌, ◌++◌, length, take, sym, ap, ◌∙◌, subst, arith}
use Rattle.session.specs.Session.{Heard, Hearing}
use Rattle.session.specs.Seen.{hearing}
use Rattle.session.proofs.Feeding.{fed_byte, fed_line}
use Rattle.session.proofs.session.Session.feed.Goals as goal
use Rattle.session.proofs.session.Session.feed.Goals.{then-b-ne-LINE_FEED, else-b-ne-LINE_FEED+else-row-written-lt-LEAST_ROW}

pub loop-i-preserved : goal.loop-i-preserved
loop-i-preserved g c = elim c.if-b-ne-LINE_FEED.branch [
  | then-b-ne-LINE_FEED w ↦ fed_byte c.args.piece.now c.loop-i.i c.loop-i.written c.if-b-ne-LINE_FEED.written
      c.args.row.now c.loop-i.row c.if-b-ne-LINE_FEED.row (hearing g.F.Family.W g.R.Store.content g.L.Store.content c.args.self.now) (hearing g.F.Family.W g.R.Store.content g.L.Store.content c.loop-i.self) (hearing g.F.Family.W g.R.Store.content g.L.Store.content c.if-b-ne-LINE_FEED.self) c.loop-i-test.true w.if-b-ne-LINE_FEED.true w.written-is w.row-is
      (ap (λ x. (hearing g.F.Family.W g.R.Store.content g.L.Store.content x).engine) w.self-is) (ap (λ x. x.line) w.self-is ∙ w.push.ensures) c.loop-i.invariant
  | else-b-ne-LINE_FEED+else-row-written-lt-LEAST_ROW w ↦ fed_line c.args.piece.now c.loop-i.i c.loop-i.written c.if-b-ne-LINE_FEED.written
      c.args.row.now c.loop-i.row c.if-b-ne-LINE_FEED.row (hearing g.F.Family.W g.R.Store.content g.L.Store.content c.args.self.now) (hearing g.F.Family.W g.R.Store.content g.L.Store.content c.loop-i.self) (hearing g.F.Family.W g.R.Store.content g.L.Store.content c.if-b-ne-LINE_FEED.self) c.loop-i-test.true
      w.end_line-written.result w.end_line-written.new.row w.if-b-ne-LINE_FEED.false w.if-row-written-lt-LEAST_ROW.false c.loop-i.auto.row w.written-is w.row-is
      w.end_line-written.ensures.within w.end_line-written.ensures.rest
      (λ h input output room k. subst (λ (t : Hearing). Heard h (input ++ (10 ∷ [])) (output ++ take w.end_line-written.result w.end_line-written.new.row) t)
      (sym (ap (λ x. hearing g.F.Family.W g.R.Store.content g.L.Store.content x) w.self-is)) (w.end_line-written.ensures.heard h input output room k)) c.loop-i.invariant
]

pub returns-clause-heard : goal.returns-clause-heard
returns-clause-heard g c h input output k =
    let all : c.loop-i.i ≡ length c.args.piece.now = omega (arith, c.loop-i.auto.i-end, c.loop-i-test.false) in
    subst (λ (n : ℕ). Heard h (input ++ take n c.args.piece.now) (output ++ take c.loop-i.written c.loop-i.row) (hearing g.F.Family.W g.R.Store.content g.L.Store.content c.loop-i.self))
    all (c.loop-i.invariant.heard h input output k)
