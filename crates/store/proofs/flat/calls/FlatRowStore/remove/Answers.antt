use Rattle.std.proofs.Common.{◌≡◌, None, rules, sym, ap, arith}
use Rattle.std.proofs.lemmas.List.{get_or_read}
use Rattle.std.proofs.lemmas.List.Quantifiers.{position-Some}
use Rattle.store.specs.Slots.{holds, row_content, told_at, told_by}
use Rattle.net.specs.Prefix.{row_of}
use Rattle.store.proofs.Rows.{removed, not_there, taken_out}
use Rattle.store.proofs.flat.calls.FlatRowStore.remove.Goals as goal

pub returns-in_err-i-clause-removes : goal.returns-in_err-i-clause-removes
returns-in_err-i-clause-removes c =
    let xs = c.args.self.now.slots.now in
    rw c.from_residual.ensures (not_there (row_content xs) (row_of c.args.prefix.now) (ap (told_at xs) (sym c.in_err-i.ensures)))

pub overflow_sub-self : goal.overflow_sub-self
overflow_sub-self c =
    let self = c.args.self.now in
    omega (arith, self.counted, (taken_out self.slots.now self.apart (row_of c.args.prefix.now) c.in_ok-i.i (sym c.in_ok-i.ensures)).1)

pub invariant_of-self : goal.invariant_of-self
invariant_of-self c =
    let self = c.args.self.now in
    let t = taken_out self.slots.now self.apart (row_of c.args.prefix.now) c.in_ok-i.i (sym c.in_ok-i.ensures) in
    record { apart = t.0; counted = omega (arith, self.counted, t.1); most = omega (arith, self.most) }

pub returns-clause-removes : goal.returns-clause-removes
returns-clause-removes c =
    let xs = c.args.self.now.slots.now in
    let q = row_of c.args.prefix.now in
    let i = c.in_ok-i.i in
    let e = sym c.in_ok-i.ensures in
    let hop : c.map.result ≡ told_by c.index-self-i.result = search rules in
    let read = get_or_read xs i c.index-self-i.result (position-Some (holds q) xs i None e).0 c.index-self-i.is None in
    rw (hop, read) (removed xs c.args.self.now.apart q i e)
