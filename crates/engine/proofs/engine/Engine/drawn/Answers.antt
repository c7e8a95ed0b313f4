use Rattle.std.proofs.Common.{sym, ◌∙◌, subst}
use Rattle.engine.specs.Seen.{state}
use Rattle.engine.specs.Draws.{Draft}
use Rattle.engine.proofs.Drawing.{drew, full}
use Rattle.engine.proofs.engine.Engine.drawn.Goals as goal

pub returns-in-Ok : goal.returns-in-Ok
returns-in-Ok g c = λ xs a b draft.
    let table = c.args.self.now.table in
    drew (state g.F.Family.W g.R.Store.content g.L.Store.content c.args.self.now) xs c.args.before a b c.in-Ok.start c.count.result _
    (subst (Draft xs table.slots c.args.self.now.start c.args.before a b) c.in-Ok.is draft) c.count.ensures.used c.saturating_sub-made.ensures

pub returns-in-Err : goal.returns-in-Err
returns-in-Err g c = λ xs a b draft.
    let table = c.args.self.now.table in
    let last = c.keep_only.new.self in
    full (state g.F.Family.W g.R.Store.content g.L.Store.content c.args.self.now) xs c.args.before a b last.slots c.in-Err.refusal
    (subst (Draft xs table.slots c.args.self.now.start c.args.before a b) c.in-Err.is draft) table.sound c.keep_only.ensures (last.long ∙ sym table.long)
