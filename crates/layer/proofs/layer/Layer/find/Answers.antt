use Rattle.std.proofs.Common.{sym, ◌∙◌}
use Rattle.net.specs.Prefix.{row_of}
use Rattle.store.proofs.Spots.{spot_is}
use Rattle.layer.proofs.Buckets.{found_near}
use Rattle.layer.proofs.layer.Layer.find.Goals as goal

pub returns-in-Some : goal.returns-in-Some
returns-in-Some g c =
    let self = c.args.self.now in
    sym (spot_is self.buckets.slots (row_of c.args.prefix.now) c.in-Some.i self.apart c.in-Some.ensures.1)

pub returns-then-self-eq0 : goal.returns-then-self-eq0
returns-then-self-eq0 g c =
    let self = c.args.self.now in
    sym (found_near g.C.Chooser.bucket self.buckets.slots c.args.prefix.now (sym self.counted ∙ c.if-self-eq0.true) c.in_default.ensures)
