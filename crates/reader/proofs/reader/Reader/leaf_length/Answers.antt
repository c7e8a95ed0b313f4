use Rattle.std.proofs.Common.{◌≡◌, ◌<◌, ◌^◌, length, sym, ◌∙◌, arith}
use Rattle.image.specs.Image.{marks_of, run}
use Rattle.reader.specs.Reader.{image_of}
use Rattle.reader.proofs.Numbers.{power_most}
use Rattle.reader.proofs.Runs.{AtEdge, run_none, run_same, run_other, run_stop, run_all}
use Rattle.reader.proofs.Steps.{walk_past, walk_answer, walk_broken, walk_next}
use Rattle.reader.proofs.reader.Reader.leaf_length.Goals as goal
use Rattle.reader.proofs.reader.Reader.leaf_length.Goals.{then-mark, else-mark+else-other-edge, else-run-test, then-run-test+else-mark+then-other-edge}

pub edge-requires-clause-few : goal.edge-requires-clause-few
edge-requires-clause-few g c = let s = c.args.self.now.stride in omega (arith, c.next_edge-edge.ensures.small, power_most s.bits s.most)

pub run-init : goal.run-init
run-init g c = run_none {i = image_of c.args.self.now} {v = c.loop-taken.vertex} (record { is = c.marks_of-marks.ensures; within = c.next_edge-edge.ensures.small })

pub run-preserved : goal.run-preserved
run-preserved g c =
    let edge : AtEdge (image_of c.args.self.now) c.loop-taken.vertex c.next_edge-edge.result c.marks_of-marks.result = record { is = c.marks_of-marks.ensures; within = c.next_edge-edge.ensures.small } in
    let less : c.run.other < 2 ^ c.args.self.now.stride.bits = omega (arith, c.run-test.true, c.edges-other-end.ensures.is) in
    elim c.if-mark.branch [
      | then-mark w ↦ run_same edge less c.mark.ensures c.mark-in-run.ensures c.run.invariant w.if-mark.true w.t-is
      | else-mark+else-other-edge w ↦ run_other edge less c.mark.ensures c.mark-in-run.ensures c.run.invariant w.if-other-edge.false w.if-mark.false w.t-is
    ]

pub loop-taken-preserved : goal.loop-taken-preserved
loop-taken-preserved g c =
    walk_next c.args.self.now.stride.least c.loop-taken.invariant (omega (arith, g.met.F.Family.rows c.args.address.now, c.W-width.ensures))
    c.next_edge-edge.ensures.is c.in-Some.ensures.0 c.in-Some.ensures.1 (omega (arith, c.from.ensures, c.if-from-self.false))

pub returns-then-taken-width : goal.returns-then-taken-width
returns-then-taken-width g c = walk_past c.args.self.now.stride.least c.loop-taken.invariant (omega (arith, g.met.F.Family.rows c.args.address.now, c.W-width.ensures, c.if-taken-width.true))

pub returns-then-from-self : goal.returns-then-from-self
returns-then-from-self g c =
    walk_broken c.args.self.now.stride.least c.loop-taken.invariant (omega (arith, g.met.F.Family.rows c.args.address.now, c.W-width.ensures))
    c.next_edge-edge.ensures.is c.in-Some.ensures.1 (omega (arith, c.from.ensures, c.if-from-self.true))

pub returns-after-run : goal.returns-after-run
returns-after-run g c =
    let edge : AtEdge (image_of c.args.self.now) c.loop-taken.vertex c.next_edge-edge.result c.marks_of-marks.result = record { is = c.marks_of-marks.ensures; within = c.next_edge-edge.ensures.small } in
    let wide : c.W-width.result ≡ length (g.F.Family.row c.args.address.now) = c.W-width.ensures ∙ sym (g.met.F.Family.rows c.args.address.now) in
    let many : c.run.t ≡ run (marks_of (image_of c.args.self.now) c.loop-taken.vertex) c.next_edge-edge.result = elim c.run-test.branch [
      | else-run-test w ↦ run_all edge (omega (arith, w.run-test.false, c.edges-other-end.ensures.is)) c.run.invariant
      | then-run-test+else-mark+then-other-edge w ↦
          run_stop edge (omega (arith, w.run-test.true, c.edges-other-end.ensures.is)) w.mark.ensures w.mark-in-run.ensures c.run.invariant w.if-other-edge.true w.if-mark.false
    ] in
    walk_answer c.args.self.now.stride.least c.loop-taken.invariant (omega (arith, wide)) c.next_edge-edge.ensures.is wide (sym c.in_default.ensures) many c.leaf_bits.ensures
