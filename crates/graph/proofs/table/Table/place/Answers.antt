use Rattle.std.proofs.Common.{◌≡◌, false, sym, arith}
use Rattle.graph.specs.Slots.{used, at}
use Rattle.graph.proofs.Finding.{lacks_around}
use Rattle.graph.proofs.table.Table.place.Goals as goal

pub returns-in-None : goal.returns-in-None
returns-in-None c =
    let table = c.args.self.now in
    let free : used (at table.slots c.in-Some.first) ≡ false = sym c.if-is_used.ensures in
    (lacks_around table.slots c.args.zero c.args.one c.in-Some.first _ (omega (arith, table.long)) free c.in-Some.ensures.1 c.in-None.ensures, (c.in-Some.ensures.0, free))
