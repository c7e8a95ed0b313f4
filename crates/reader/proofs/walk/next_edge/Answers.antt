use Rattle.std.proofs.Common.{◌+◌, ◌<◌, ◌^◌, length, refl, Some, ◌∙◌, drop, subst, sym, arith, rules}
use Rattle.std.proofs.lemmas.Fn.{serves_by}
use Rattle.std.proofs.lemmas.Iterator.{YieldsList-from_range}
use Rattle.std.proofs.lemmas.Iterator.Consumers.{YieldsList-turn, fold_from_yields_List}
use Rattle.std.proofs.lemmas.List.FromFn.{length-range_with_len}
use Rattle.image.proofs.Numbers.{next_edge_below}
use Rattle.reader.proofs.Numbers.{longer, bits_number, longer_below, longer_fits}
use Rattle.reader.proofs.walk.next_edge.Goals as goal

pub fold-requires-clause-callable : goal.fold-requires-clause-callable
fold-requires-clause-callable g c =
    let s = c.args.stride in
    serves_by _ (λ xs q. q.1 < 2 ^ length xs)
    (λ xs q x v j r. let more = longer_below xs x q.1 in search rules)
    _ _ _ _ (omega arith)
    (λ xs t q x u y e j.
    let (turn, at) = YieldsList-turn (YieldsList-from_range c.args.taken (c.args.taken + s.bits) s.bits refl (omega arith)) xs t y (Some x) u x refl e in
    let fits = longer_fits xs s.bits q.1 (omega (arith, turn, length-range_with_len c.args.taken s.bits)) s.most j in
    search rules)

pub returns-clause-is : goal.returns-clause-is
returns-clause-is g c =
    let s = c.args.stride.bits in
    let row = g.F.Family.row c.args.address.now in
    fold_from_yields_List _ (longer row) 0 c.fold.result c.fold.ensures.ran (YieldsList-from_range c.args.taken (c.args.taken + s) s refl (omega arith)) (λ a x b q k. search rules) ∙
    bits_number row c.args.taken s 0

pub returns-clause-small : goal.returns-clause-small
returns-clause-small g c =
    let s = c.args.stride.bits in
    subst (λ e. e < 2 ^ s) (sym (returns-clause-is g c)) (next_edge_below s (drop c.args.taken (g.F.Family.row c.args.address.now)))
