use Rattle.std.proofs.Common.{ap}
use Rattle.engine.specs.Seen.{state}
use Rattle.reader.specs.Reader.{image_of}
use Rattle.imaging.proofs.Showing.{served_walk}
use Rattle.imaging.proofs.look.lookup_by_image.Goals as goal

pub returns : goal.returns
returns g c = λ given rs serves.
    let e = c.args.engine.now in
    let a = c.args.address.now in
    served_walk given rs (state g.F.Family.W g.R.Store.content g.L.Store.content e) e.table.sound serves c.args.stride c.in_ok-vertices.vertices c.args.edges.now c.make.new.edges c.args.marks.now c.make.new.marks c.in_ok-vertices.ensures.makes
    (g.F.Family.row a) (g.L.Store.content c.leaves.result.now) (image_of c.set_up.new.self) c.walk.result (g.met.F.Family.rows a) c.in_ok-set_up.ensures.1 (ap g.L.Store.content c.leaves.ensures) c.walk.ensures
