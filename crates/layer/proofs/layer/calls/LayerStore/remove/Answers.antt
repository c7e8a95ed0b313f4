use Rattle.std.proofs.Common.{◌≡◌, ◌-◌, ◌/◌, cond, sym, ap, ◌∙◌, arith}
use Rattle.layer.specs.Buckets.{near}
use Rattle.layer.proofs.Buckets.{strays_some}
use Rattle.layer.proofs.Ways.{takes_own, takes_below}
use Rattle.layer.proofs.layer.calls.LayerStore.remove.Goals as goal

pub returns-in_default-clause-removes : goal.returns-in_default-clause-removes
returns-in_default-clause-removes g c =
    (takes_below c.args.self.now c.args.prefix.now (g.S.Store.content c.remove.new.self) c.remove.result c.in_default.ensures c.remove.ensures.removes).removes

pub returns-in_default-clause-places : goal.returns-in_default-clause-places
returns-in_default-clause-places g c =
    (takes_below c.args.self.now c.args.prefix.now (g.S.Store.content c.remove.new.self) c.remove.result c.in_default.ensures c.remove.ensures.removes).places

pub overflow_sub-self : goal.overflow_sub-self
overflow_sub-self g c =
    let self = c.args.self.now in
    let some = strays_some g.C.Chooser.bucket self.buckets.slots c.args.prefix.now c.in-Some.i (sym c.in-Some.ensures) in
    let stray : c.from.result ≡ cond (near g.C.Chooser.bucket c.args.prefix.now (c.in-Some.i / 3)) 0 1 = grind arith in
    omega (arith, self.counted, stray, some)

pub invariant_of-self-2 : goal.invariant_of-self-2
invariant_of-self-2 g c =
    let self = c.args.self.now in
    let done = takes_own self c.args.prefix.now c.in-Some.ensures c.write.ensures in
    let stray : c.from.result ≡ cond (near g.C.Chooser.bucket c.args.prefix.now (c.in-Some.i / 3)) 0 1 = grind arith in
    record { apart = done.kept.apart; separate = done.kept.separate; counted = ap (λ n. self.strays - n) stray ∙ done.kept.counted; most = done.kept.most }

pub returns-clause-removes : goal.returns-clause-removes
returns-clause-removes g c =
    let self = c.args.self.now in
    let done = takes_own self c.args.prefix.now c.in-Some.ensures c.write.ensures in
    rw c.hop_at-hop.ensures done.removes

pub returns-clause-places : goal.returns-clause-places
returns-clause-places g c = (takes_own c.args.self.now c.args.prefix.now c.in-Some.ensures c.write.ensures).places
