use Rattle.std.proofs.Common.{sym, ◌∙◌}
use Rattle.layer.proofs.Puts.{get_own}
use Rattle.layer.proofs.layer.calls.LayerStore.get.Goals as goal

pub returns-in-Some : goal.returns-in-Some
returns-in-Some g c =
    let self = c.args.self.now in
    c.hop_at.ensures ∙ get_own c.args.prefix.now self.buckets.slots (g.S.Store.content self.below) c.in-Some.i (sym c.in-Some.ensures)
