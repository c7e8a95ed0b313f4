use Rattle.std.proofs.Common.{arith, rules, refl}
use borrow.Author.Tests.{tests}
use Rattle.std.proofs.lemmas.Iterator.{YieldsList-from_range}
use Rattle.std.proofs.lemmas.Iterator.Search.{find_from_yields_List}
use Rattle.reader.proofs.Numbers.{is_power, power_found}
use Rattle.reader.proofs.walk.log2.Goals as goal

pub returns : goal.returns
returns c =
    let s = c.args.stride in
    let found = power_found s.bits c.args.t s.most c.find.result
    (find_from_yields_List (is_power c.args.t) _ _ c.find.result c.find.ensures.ran (YieldsList-from_range 0 s.bits s.bits refl (omega arith)) (λ x b q k. search (rules, tests))) in
    record { is = found.0; below = found.1 }
