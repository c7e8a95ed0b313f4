use Rattle.std.proofs.Common.{subst, rules}
use Rattle.graph.specs.Find.{Spare}
use Rattle.graph.proofs.Count.{length_in_use, tally_at_most}
use Rattle.graph.proofs.Forking.{found, refused, kept_made, made, made_counted, made_sound}
use Rattle.graph.proofs.table.Table.fork.Goals as goal

pub overflow_add-self : goal.overflow_add-self
overflow_add-self c = let count = length_in_use 0 c.args.self.now.slots in let most = tally_at_most c.args.self.now.slots in search rules

pub returns-in-Ok-clause-forked : goal.returns-in-Ok-clause-forked
returns-in-Ok-clause-forked c = found c.args.self.now.slots c.args.zero c.args.one _ _ c.lead-zero.ensures c.lead-one.ensures c.in-Ok.n c.in-Ok.ensures

pub returns-in-Err-None-clause-forked : goal.returns-in-Err-None-clause-forked
returns-in-Err-None-clause-forked c =
    let table = c.args.self.now in
    refused table.slots c.args.zero c.args.one _ _ c.lead-zero.ensures c.lead-one.ensures table.sound table.long c.in-Err-None.ensures.0 (subst (Spare table.slots) c.in-Err-None.field-0-is c.in-Err-None.ensures.1)

pub invariant_of-self-clause-counted : goal.invariant_of-self-clause-counted
invariant_of-self-clause-counted c =
    let table = c.args.self.now in
    let slot = c.in-Err-Some in
    made_counted table.slots c.args.zero c.args.one _ _ c.lead-zero.ensures c.lead-one.ensures table.sound table.long slot.ensures.0 slot.n (subst (Spare table.slots) slot.field-0-is slot.ensures.1) _ c.link.ensures table.used table.counted

pub invariant_of-self-clause-sound : goal.invariant_of-self-clause-sound
invariant_of-self-clause-sound c =
    let table = c.args.self.now in
    let slot = c.in-Err-Some in
    made_sound table.slots c.args.zero c.args.one _ _ c.lead-zero.ensures c.lead-one.ensures table.sound table.long slot.ensures.0 slot.n (subst (Spare table.slots) slot.field-0-is slot.ensures.1) _ c.link.ensures

pub returns-in-Err-Some-clause-kept : goal.returns-in-Err-Some-clause-kept
returns-in-Err-Some-clause-kept c =
    let table = c.args.self.now in
    let slot = c.in-Err-Some in
    kept_made table.slots c.args.zero c.args.one _ _ c.lead-zero.ensures c.lead-one.ensures table.sound table.long slot.ensures.0 slot.n (subst (Spare table.slots) slot.field-0-is slot.ensures.1) _ c.link.ensures

pub returns-in-Err-Some-clause-forked : goal.returns-in-Err-Some-clause-forked
returns-in-Err-Some-clause-forked c =
    let table = c.args.self.now in
    let slot = c.in-Err-Some in
    made table.slots c.args.zero c.args.one _ _ c.lead-zero.ensures c.lead-one.ensures table.sound table.long slot.ensures.0 slot.n (subst (Spare table.slots) slot.field-0-is slot.ensures.1) _ c.link.ensures
