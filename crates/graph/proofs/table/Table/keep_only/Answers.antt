use Rattle.std.proofs.Common.{sym, subst}
use Rattle.graph.specs.Slots.{Leads, Unfolds}
use Rattle.graph.proofs.Edges.{led_leads}
use Rattle.graph.proofs.Sweeping.{sound_kept, kept_from}
use Rattle.graph.proofs.table.Table.keep_only.Goals as goal

pub invariant_of-self-clause-sound : goal.invariant_of-self-clause-sound
invariant_of-self-clause-sound c =
    let table = c.args.self.now in
    let xs = table.slots in
    let start = c.lead-start in
    let leads : Leads xs start.result = subst (Leads xs) (sym start.ensures) (led_leads xs c.args.start) in
    sound_kept xs c.mark.new.marks start.result table.long c.mark.ensures c.sweep-used.new.slots table.sound leads c.sweep-used.ensures.swept

pub returns : goal.returns
returns c = λ t h.
    let table = c.args.self.now in
    let xs = table.slots in
    let start = c.lead-start in
    kept_from xs c.mark.new.marks start.result table.long c.mark.ensures c.sweep-used.new.slots table.sound c.sweep-used.ensures.swept t (subst (λ e. Unfolds xs e t) (sym start.ensures) h)
