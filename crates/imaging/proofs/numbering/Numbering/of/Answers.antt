use Rattle.std.proofs.Common.{◌≡◌, ◌∙◌, arith}
use Rattle.graph.specs.Slots.{led}
use Rattle.graph.specs.declared.edge.Edge.TheVariants.{To}
use Rattle.imaging.proofs.Counting.{numbered_none, numbered_first, numbered_had, numbered_free, numbered_room, numbered_add, numbered_all, lead_used, led_not_used}
use Rattle.imaging.proofs.numbering.Numbering.of.Goals as goal
use Rattle.imaging.proofs.numbering.Numbering.of.Goals.{in-To, in_default, then-ne+then-eq, else-ne, else-ne-via-then-ne+else-eq, else-ne-via-else-ne}

pub loop-slot-init : goal.loop-slot-init
loop-slot-init c =
    let table = c.args.table.now in
    let lead = c.match-first.first in
    elim c.match-first.branch [
      | in-To w ↦ rw w.numbering-is (numbered_first table.slots table.long c.args.start lead (w.first-is ∙ w.in-To.ensures) w.in-To.slot c.new.result.items _ _ w.first-is c.new.ensures w.add.ensures.slots w.add.ensures.numbers)
      | in_default w ↦ rw (w.numbering-is, c.new.ensures) (numbered_none table.slots c.args.start lead (w.first-is ∙ c.lead-first.ensures) (w.first-is ∙ w.in_default.is))
    ]

pub add-requires-then-eq-clause-room : goal.add-requires-then-eq-clause-room
add-requires-then-eq-clause-room c =
    let ne : c.match-first.first ≡ To c.loop-slot.slot → ⊥ = λ e. grind arith in
    numbered_room c.args.table.now.slots c.args.table.now.long c.args.start c.match-first.first c.loop-slot.slot _ _ c.loop-slot-test.true c.loop-slot.invariant ne

pub loop-slot-preserved : goal.loop-slot-preserved
loop-slot-preserved c =
    let table = c.args.table.now in
    let lead = c.match-first.first in
    let l = c.loop-slot in
    let less = c.loop-slot-test.true in
    elim c.if-ne.branch [
      | then-ne+then-eq w ↦ (
          let ne : lead ≡ To l.slot → ⊥ = λ e. grind arith in
          let eq : led table.slots (To l.slot) ≡ To l.slot = grind arith in
          rw w.numbering-is
          (numbered_add table.slots table.long c.args.start lead l.slot _ _ less l.invariant _ _ ne (lead_used table.slots (To l.slot) l.slot eq) w.add-then-eq.ensures.slots w.add-then-eq.ensures.numbers))
      | else-ne w ↦ rw w.numbering-is (elim w.else-ne.branch [
        | else-ne-via-then-ne+else-eq t ↦ (
            let ne : led table.slots (To l.slot) ≡ To l.slot → ⊥ = λ e. grind arith in
            numbered_free table.slots table.long c.args.start lead l.slot _ _ less l.invariant (led_not_used table.slots l.slot ne))
        | else-ne-via-else-ne t ↦ (
            let e : lead ≡ To l.slot = grind arith in
            numbered_had table.slots table.long c.args.start lead l.slot _ _ less l.invariant e)
      ])
    ]

pub returns : goal.returns
returns c = numbered_all c.args.table.now.slots c.args.table.now.long c.args.start c.match-first.first c.loop-slot.slot _ c.loop-slot-test.false c.loop-slot.invariant
