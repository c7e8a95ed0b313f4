use Rattle.std.proofs.Common.{None, sym, ap, ◌∙◌, arith}
use Rattle.std.proofs.lemmas.List.{get_or_read}
use Rattle.net.specs.Prefix.{row_of}
use Rattle.store.specs.Slots.{holds}
use Rattle.store.proofs.Spots.{spot_first, spot_none}
use Rattle.store.proofs.slot.find.Goals as goal

pub returns-then-holds : goal.returns-then-holds
returns-then-holds c =
    let q = row_of c.args.prefix.now in
    let here = ap (holds q) (sym (get_or_read c.args.slots.now c.loop-i.i c.index-slots-i.result c.loop-i-test.true c.index-slots-i.is None)) in
    sym (spot_first c.args.slots.now q c.loop-i.i (here ∙ sym c.if-holds.ensures) c.loop-i.invariant)

pub returns : goal.returns
returns c = sym (spot_none _ _ (λ k l. c.loop-i.invariant k (omega (arith, l, c.loop-i-test.false))))
