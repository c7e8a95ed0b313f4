use Rattle.std.proofs.Common.{[], sym, ◌∙◌}
use Rattle.tree.specs.Ledger.{after_calls}
use Rattle.engine.specs.Seen.{state}
use Rattle.engine.proofs.Running.{ran_steps}
use Rattle.engine.proofs.engine.Engine.step.Goals as goal

pub returns-in-Announce : goal.returns-in-Announce
returns-in-Announce g c = λ known calls given ran.
    let s = state g.F.Family.W g.R.Store.content g.L.Store.content c.args.self.now in
    let e = c.announce.new.self in
    let t = state g.F.Family.W g.R.Store.content g.L.Store.content e in
    let settles = c.announce.ensures known (after_calls known [] calls) ran.serves in
    ran_steps known g.F.Family.row calls given _ _ c.from.result s t c.in-Announce.is e.table.sound ran (settles.answer ∙ sym c.from.ensures) settles.serves

pub returns-in-Withdraw : goal.returns-in-Withdraw
returns-in-Withdraw g c = λ known calls given ran.
    let s = state g.F.Family.W g.R.Store.content g.L.Store.content c.args.self.now in
    let e = c.withdraw.new.self in
    let t = state g.F.Family.W g.R.Store.content g.L.Store.content e in
    let settles = c.withdraw.ensures known (after_calls known [] calls) ran.serves in
    ran_steps known g.F.Family.row calls given _ _ c.from-in-Withdraw.result s t c.in-Withdraw.is e.table.sound ran (settles.answer ∙ sym c.from-in-Withdraw.ensures) settles.serves

pub returns-in-Lookup : goal.returns-in-Lookup
returns-in-Lookup g c = λ known calls given ran.
    let e = c.args.self.now in
    let s = state g.F.Family.W g.R.Store.content g.L.Store.content e in
    let answers = c.lookup.ensures known (after_calls known [] calls) ran.serves in
    ran_steps known g.F.Family.row calls given _ _ c.from-in-Lookup.result s s c.in-Lookup.is e.table.sound ran (answers ∙ sym c.from-in-Lookup.ensures) ran.serves

pub returns-in-Count : goal.returns-in-Count
returns-in-Count g c = λ known calls given ran.
    let e = c.args.self.now in
    let s = state g.F.Family.W g.R.Store.content g.L.Store.content e in
    let answers = c.count.ensures.ledger known (after_calls known [] calls)
    (record { routes = ran.serves.stored.routes_held; leaves = ran.serves.stored.leaves_held; shapes = ran.serves.holds }) in
    ran_steps known g.F.Family.row calls given _ _ c.from-in-Count.result s s c.in-Count.is e.table.sound ran (answers ∙ sym c.from-in-Count.ensures) ran.serves
