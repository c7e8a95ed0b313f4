use Rattle.std.proofs.Common.{sym, refl, ◌∙◌, subst, rules}
use Rattle.store.specs.Slots.{Frees}
use Rattle.store.specs.declared.slot.Entry.{Entry}
use Rattle.layer.proofs.Buckets.{strays_most}
use Rattle.layer.proofs.Ways.{enters_bucket, enters_below, enters_anywhere, never_full}
use Rattle.layer.proofs.layer.Layer.enter.Goals as goal

pub invariant_of-self : goal.invariant_of-self
invariant_of-self g c =
    let self = c.args.self.now in
    let s : Entry = record { prefix = c.args.prefix.now; hop = c.args.hop } in
    let done = enters_bucket self s c.requires.good (g.met.S.Store.sound self.below) c.requires.fresh c.held.ensures c.limit.ensures.answer c.if-held-limit.false c.in-Some.ensures c.write.ensures in
    record { apart = done.kept.apart; separate = done.kept.separate; counted = done.kept.counted; most = done.kept.most }

pub returns-in-Some : goal.returns-in-Some
returns-in-Some g c =
    let self = c.args.self.now in
    let s : Entry = record { prefix = c.args.prefix.now; hop = c.args.hop } in
    let done = enters_bucket self s c.requires.good (g.met.S.Store.sound self.below) c.requires.fresh c.held.ensures c.limit.ensures.answer c.if-held-limit.false c.in-Some.ensures c.write.ensures in
    record { limits = refl; puts = done.puts; places = done.places }

pub invariant_of-self-then-is_ok : goal.invariant_of-self-then-is_ok
invariant_of-self-then-is_ok g c =
    let self = c.args.self.now in
    let s : Entry = record { prefix = c.args.prefix.now; hop = c.args.hop } in
    let done = enters_below self s c.requires.good (g.met.S.Store.sound self.below) c.requires.fresh c.held.ensures c.limit.ensures.answer c.if-held-limit.false c.in_default.ensures c.from.result (g.S.Store.content c.put.new.self) c.put.result c.from.ensures c.put.ensures.puts (sym c.if-is_ok.ensures.value) in
    record { apart = done.kept.apart; separate = done.kept.separate; counted = done.kept.counted; most = done.kept.most }

pub returns-then-is_ok : goal.returns-then-is_ok
returns-then-is_ok g c =
    let self = c.args.self.now in
    let s : Entry = record { prefix = c.args.prefix.now; hop = c.args.hop } in
    let done = enters_below self s c.requires.good (g.met.S.Store.sound self.below) c.requires.fresh c.held.ensures c.limit.ensures.answer c.if-held-limit.false c.in_default.ensures c.from.result (g.S.Store.content c.put.new.self) c.put.result c.from.ensures c.put.ensures.puts (sym c.if-is_ok.ensures.value) in
    record { limits = c.put.ensures.limits; puts = done.puts; places = done.places }

pub returns-in_err-i : goal.returns-in_err-i
returns-in_err-i g c =
    let self = c.args.self.now in
    let s : Entry = record { prefix = c.args.prefix.now; hop = c.args.hop } in
    absurd (never_full self s c.requires.good (g.met.S.Store.sound self.below) c.requires.fresh c.held.ensures c.limit.ensures.answer c.if-held-limit.false c.in_default.ensures c.from.result (g.S.Store.content c.put.new.self) c.put.result c.from.ensures c.put.ensures.puts (sym c.is_ok.ensures.value ∙ c.if-is_ok.false) (subst (Frees self.buckets.slots) c.in_err-i.ensures.ok_part c.find_free.ensures))

pub overflow_add-self : goal.overflow_add-self
overflow_add-self g c =
    let self = c.args.self.now in
    let few = strays_most g.C.Chooser.bucket self.buckets.slots in
    search rules

pub invariant_of-self-2 : goal.invariant_of-self-2
invariant_of-self-2 g c =
    let self = c.args.self.now in
    let s : Entry = record { prefix = c.args.prefix.now; hop = c.args.hop } in
    let done = enters_anywhere self s c.requires.good (g.met.S.Store.sound self.below) c.requires.fresh c.held.ensures c.limit.ensures.answer c.if-held-limit.false c.in_default.ensures c.from.result (g.S.Store.content c.put.new.self) c.put.result c.from.ensures c.put.ensures.puts (sym c.is_ok.ensures.value ∙ c.if-is_ok.false) (subst (Frees self.buckets.slots) c.in_ok-i.ensures.ok_part c.find_free.ensures) c.write-2.ensures in
    record { apart = done.kept.apart; separate = done.kept.separate; counted = done.kept.counted; most = done.kept.most }

pub returns : goal.returns
returns g c =
    let self = c.args.self.now in
    let s : Entry = record { prefix = c.args.prefix.now; hop = c.args.hop } in
    let done = enters_anywhere self s c.requires.good (g.met.S.Store.sound self.below) c.requires.fresh c.held.ensures c.limit.ensures.answer c.if-held-limit.false c.in_default.ensures c.from.result (g.S.Store.content c.put.new.self) c.put.result c.from.ensures c.put.ensures.puts (sym c.is_ok.ensures.value ∙ c.if-is_ok.false) (subst (Frees self.buckets.slots) c.in_ok-i.ensures.ok_part c.find_free.ensures) c.write-2.ensures in
    record { limits = c.put.ensures.limits; puts = done.puts; places = done.places }
