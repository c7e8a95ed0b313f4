use Rattle.std.proofs.Common.{◌≡◌, ◌+◌, min, false, is_some, sym, refl, ap, ◌∙◌, subst}
use Rattle.store.specs.Content.{bad_hop}
use Rattle.store.specs.declared.slot.Entry.{Entry}
use Rattle.layer.proofs.Ways.{replaces_own, replaces_below}
use Rattle.layer.proofs.layer.calls.LayerStore.put.Goals as goal

pub invariant_of-self : goal.invariant_of-self
invariant_of-self g c =
    let self = c.args.self.now in
    let s : Entry = record { prefix = c.args.prefix.now; hop = c.in_ok-hop.hop } in
    let good = subst (λ n. bad_hop n ≡ false) (sym c.in_ok-hop.ensures.1) c.in_ok-hop.ensures.0 in
    let done = replaces_own self s good c.in-Some.ensures c.write.ensures in
    record { apart = done.kept.apart; separate = done.kept.separate; counted = done.kept.counted; most = done.kept.most }

pub returns-in-Some : goal.returns-in-Some
returns-in-Some g c =
    let self = c.args.self.now in
    let s : Entry = record { prefix = c.args.prefix.now; hop = c.in_ok-hop.hop } in
    let good = subst (λ n. bad_hop n ≡ false) (sym c.in_ok-hop.ensures.1) c.in_ok-hop.ensures.0 in
    let done = replaces_own self s good c.in-Some.ensures c.write.ensures in
    record { limits = refl; puts = rw (← c.in_ok-hop.ensures.1) done.puts; places = done.places }

pub invariant_of-self-then-is_some : goal.invariant_of-self-then-is_some
invariant_of-self-then-is_some g c =
    let self = c.args.self.now in
    let s : Entry = record { prefix = c.args.prefix.now; hop = c.in_ok-hop.hop } in
    let good = subst (λ n. bad_hop n ≡ false) (sym c.in_ok-hop.ensures.1) c.in_ok-hop.ensures.0 in
    let done = replaces_below self s good c.in_default.ensures (ap is_some (sym c.get.ensures) ∙ sym c.if-is_some.ensures) c.from.ensures c.put.ensures.puts in
    record { apart = done.kept.apart; separate = done.kept.separate; counted = done.kept.counted; most = done.kept.most }

pub returns-then-is_some : goal.returns-then-is_some
returns-then-is_some g c =
    let self = c.args.self.now in
    let s : Entry = record { prefix = c.args.prefix.now; hop = c.in_ok-hop.hop } in
    let good = subst (λ n. bad_hop n ≡ false) (sym c.in_ok-hop.ensures.1) c.in_ok-hop.ensures.0 in
    let done = replaces_below self s good c.in_default.ensures (ap is_some (sym c.get.ensures) ∙ sym c.if-is_some.ensures) c.from.ensures c.put.ensures.puts in
    record { limits = ap (λ n. min (768 + n) 16777216) c.put.ensures.limits; puts = rw (← c.in_ok-hop.ensures.1) done.puts; places = done.places }
