use Rattle.std.proofs.Common.{◌≡◌, ◌*◌, ◌+◌, ◌-◌, ◌<◌, length, get_or, ap, subst, arith}
use Rattle.graph.specs.Slots.{in_use}
use Rattle.image.specs.Image.{edges_each}
use Rattle.imaging.proofs.Filling.{Filled, vertex_room, filled_more}
use Rattle.imaging.proofs.Picturing.{images}
use Rattle.imaging.proofs.making.draw_all.Goals as goal

pub loop-x-preserved : goal.loop-x-preserved
loop-x-preserved c =
    let l = c.loop-x in
    let k = c.edges-each.result in
    let s = c.args.stride.bits in
    let a = l.x * k in
    let from : a ≡ l.x * edges_each s = ap (λ j. l.x * j) c.edges-each.ensures.is in
    let each : a + k - a ≡ edges_each s = omega (arith, c.edges-each.ensures.is) in
    let same : c.deref-slot-items.result.now ≡ c.of.result.slots.items = c.deref-slot-items.ensures.0 in
    let less : l.x < length (in_use c.args.table.now.slots) = omega (arith, c.loop-x-test.true, ap length same, c.of.ensures.counted) in
    let room = vertex_room l.x (length (in_use c.args.table.now.slots)) k s (length c.args.edges.now) less c.edges-each.ensures.is c.requires.edges in
    filled_more l.invariant a (a + k - a) c.draw.new.edges from each (omega (arith, each, room, l.auto.edges)) (omega (arith, c.draw.auto.edges))
    (omega (arith, less, c.requires.marks, l.auto.marks)) (ap (λ xs. get_or xs l.x 0) same) c.draw.ensures c.marks.ensures

pub returns : goal.returns
returns c =
    let table = c.args.table.now in
    let l = c.loop-x in
    let all : l.x ≡ length c.of.result.slots.items = omega (arith, c.loop-x-test.false, l.auto.x-end, ap length c.deref-slot-items.ensures.0) in
    images table.slots table.sound c.args.start c.of.result c.of.ensures c.args.stride.bits c.args.edges.now l.edges c.args.marks.now l.marks
    (subst (λ x. Filled table.slots c.of.result c.args.stride.bits x c.args.edges.now l.edges c.args.marks.now l.marks) all l.invariant)
