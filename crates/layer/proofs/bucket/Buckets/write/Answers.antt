use Rattle.std.proofs.Common.{◌≡◌, ◌+◌, ◌<◌, None, cond, length, get_or, set, sym, ◌∙◌, arith}
use Rattle.std.proofs.lemmas.List.{length-set, set_past}
use Rattle.std.proofs.lemmas.List.Sums.{sum_by-set}
use Rattle.store.specs.Slots.{taken, used}
use Rattle.layer.proofs.bucket.Buckets.write.Goals as goal

pub returns-then-i-ge-SLOTS : goal.returns-then-i-ge-SLOTS
returns-then-i-ge-SLOTS c =
    sym (set_past c.args.self.now.slots c.args.i c.args.slot (omega (arith, c.if-i-ge-SLOTS.true, c.args.self.now.long)))

pub invariant_of-self : goal.invariant_of-self
invariant_of-self c =
    let self = c.args.self.now in
    let inside : c.args.i < length self.slots = omega (arith, c.if-i-ge-SLOTS.false, self.long) in
    let counts : used (set self.slots c.args.i c.args.slot) + cond (taken (get_or self.slots c.args.i c.index-self-i.result)) 1 0 ≡ used self.slots + cond (taken c.args.slot) 1 0 =
    sum_by-set (λ s. cond (taken s) 1 0) self.slots c.args.i c.args.slot c.index-self-i.result inside in
    let freed : used (set self.slots c.args.i None) + cond (taken (get_or self.slots c.args.i c.index-self-i.result)) 1 0 ≡ used self.slots + 0 =
    sum_by-set (λ s. cond (taken s) 1 0) self.slots c.args.i None c.index-self-i.result inside in
    let before : c.from.result ≡ cond (taken (get_or self.slots c.args.i c.index-self-i.result)) 1 0 = grind arith in
    let after : c.from-2.result ≡ cond (taken c.args.slot) 1 0 = grind arith in
    record { long = length-set self.slots c.args.i c.args.slot ∙ self.long; counted = omega (arith, self.counted, before, after, counts, freed) }
