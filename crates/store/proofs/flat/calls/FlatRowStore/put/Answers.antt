use Rattle.std.proofs.Common.{◌≡◌, sym, ◌∙◌, subst, arith}
use Rattle.std.proofs.lemmas.List.Sums.{count_by-le-length}
use Rattle.store.specs.Slots.{taken, used, Frees, row_content}
use Rattle.store.proofs.Rows.{put_held, put_new, replaced, entered, all_taken}
use Rattle.store.proofs.flat.calls.FlatRowStore.put.Goals as goal

pub invariant_of-self : goal.invariant_of-self
invariant_of-self c =
    let self = c.args.self.now in
    let r = replaced self.slots.now self.apart (record { prefix = c.args.prefix.now; hop = c.in_ok-hop.hop }) c.in-Some.i (sym c.in-Some.ensures) in
    record { apart = r.0; counted = omega (arith, self.counted, r.1); most = self.most }

pub returns-in-Some-clause-puts : goal.returns-in-Some-clause-puts
returns-in-Some-clause-puts c =
    let self = c.args.self.now in
    let hop = c.in_ok-hop.ensures in
    rw hop.1 (put_held self.slots.now self.apart (record { prefix = c.args.prefix.now; hop = c.args.hop }) c.in-Some.i (sym c.in-Some.ensures) hop.0)

pub returns-in_err-i-clause-puts : goal.returns-in_err-i-clause-puts
returns-in_err-i-clause-puts c =
    let self = c.args.self.now in
    let all = all_taken self.slots.now (subst (Frees self.slots.now) c.in_err-i.ensures.ok_part c.find_free.ensures) in
    absurd (omega (arith, all, self.counted, self.most, c.limit.ensures.answer, c.if-self-limit.false))

pub invariant_of-self-2 : goal.invariant_of-self-2
invariant_of-self-2 c =
    let self = c.args.self.now in
    let free = subst (Frees self.slots.now) c.in_ok-i.ensures.ok_part c.find_free.ensures in
    let r = entered self.slots.now self.apart (record { prefix = c.args.prefix.now; hop = c.in_ok-hop.hop }) c.in_ok-i.i (sym c.in_default.ensures) free.0 free.1 in
    record { apart = r.0; counted = omega (arith, self.counted, r.1); most = omega (arith, self.counted, self.most, count_by-le-length taken self.slots.now, c.limit.ensures.answer, c.if-self-limit.false) }

pub returns-clause-puts : goal.returns-clause-puts
returns-clause-puts c =
    let self = c.args.self.now in
    let free = subst (Frees self.slots.now) c.in_ok-i.ensures.ok_part c.find_free.ensures in
    let hop = c.in_ok-hop.ensures in
    let room = λ (z : used self.slots.now ≡ (row_content self.slots.now).limit). c.if-self-limit.false (self.counted ∙ z ∙ sym c.limit.ensures.answer) in
    rw hop.1 (put_new self.slots.now self.apart (record { prefix = c.args.prefix.now; hop = c.args.hop }) c.in_ok-i.i (sym c.in_default.ensures) free.0 free.1 room hop.0)
