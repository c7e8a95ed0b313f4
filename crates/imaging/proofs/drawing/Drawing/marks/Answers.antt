use Rattle.std.proofs.Common.{◌≡◌, ◌+◌, ◌*◌, ◌%◌, ◌^◌, ◌<◌, ◌≤◌, cond, not, eqb, sym, ap, ◌∙◌, arith}
use Rattle.std.proofs.lemmas.Nat.{one_shl}
use Rattle.image.proofs.Marks.{with_mark}
use Rattle.imaging.proofs.Marking.{turned, unturned, marking_turn}
use Rattle.imaging.proofs.drawing.Drawing.marks.Goals as goal
use Rattle.imaging.proofs.drawing.Drawing.marks.Goals.{then-edge-left-eq0, else-edge-left-eq0, then-one, else-one}

pub loop-edge-preserved : goal.loop-edge-preserved
loop-edge-preserved c =
    let xs = c.args.self.now.table.now.slots in
    let s = c.args.self.now.stride.bits in
    let v = c.args.self.now.slot in
    let l = c.loop-edge in
    let n = c.down-left.result.1 in
    let w = c.down-left.result.0 in
    let b = c.if-edge-left-eq0.one in
    let d = (1 * 2 ^ n) % 2 ^ 64 in
    let least : 1 ≤ l.edge = l.auto.edge in
    let less : l.edge < 2 ^ s = omega (arith, c.loop-edge-test.true, c.edges-edge-end.ensures.is) in
    let size : d ≡ 2 ^ n = one_shl n 64 (omega (arith, c.down-left.ensures.few, c.args.self.now.stride.most)) in
    let power : (1 * 2 ^ l.edge) % 2 ^ 64 ≡ 2 ^ l.edge = one_shl l.edge 64 (omega (arith, c.loop-edge-test.true, c.edges-edge-end.ensures.most)) in
    let turn : b ≡ cond (eqb (l.edge % 2 ^ n) 0) (not l.one) l.one = elim c.if-edge-left-eq0.branch [
      | then-edge-left-eq0 t ↦ turned xs s v l.edge l.marks n d w l.one least less size c.down-left.ensures l.invariant b t.if-edge-left-eq0.true t.one-is
      | else-edge-left-eq0 t ↦ unturned xs s v l.edge l.marks n d w l.one least less size c.down-left.ensures l.invariant b t.if-edge-left-eq0.false t.one-is
    ] in
    let marks : c.if-one.marks ≡ with_mark l.marks l.edge b = elim c.if-one.branch [
      | then-one t ↦ t.marks-is ∙ ap (λ k. l.marks + k) power ∙ sym (ap (with_mark l.marks l.edge) t.if-one.true)
      | else-one t ↦ t.marks-is ∙ (omega arith) ∙ sym (ap (with_mark l.marks l.edge) t.if-one.false)
    ] in
    marking_turn xs s v l.edge l.marks n d w l.one least less size c.down-left.ensures l.invariant b c.if-one.marks turn marks
