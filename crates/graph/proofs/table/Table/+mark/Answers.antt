use Rattle.std.proofs.Common.{◌≡◌, ◌<◌, true, length, refl, arith}
use Rattle.graph.specs.Slots.{used, zero_of, one_of, at}
use Rattle.graph.proofs.Edges.{used_within}
use Rattle.graph.proofs.Marking.{reached_more}
use Rattle.graph.proofs.table.Table.+mark.Goals as goal

pub returns : goal.returns
returns m c = λ t h deep whole.
    let table = c.args.self.now in
    let n = c.in-To.n in
    let taken : used (at table.slots n) ≡ true = rw (← c.vertex.ensures, c.in-Some.is) refl in
    let zero : zero_of (at table.slots n) ≡ c.in-Some.sides.zero = rw (← c.vertex.ensures, c.in-Some.is) refl in
    let one : one_of (at table.slots n) ≡ c.in-Some.sides.one = rw (← c.vertex.ensures, c.in-Some.is) refl in
    let inside : n < length c.mark-2.new.marks = omega (arith, used_within table.slots n taken, table.long, c.mark-2.array_long) in
    reached_more table.slots c.args.marks.now c.mark.new.marks c.mark-2.new.marks n c.args.budget (omega arith) inside c.args.edge t c.in-To.is h deep whole (rw zero c.mark.ensures) (rw one c.mark-2.ensures)
