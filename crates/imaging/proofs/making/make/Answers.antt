use Rattle.std.proofs.Common.{rules}
use Rattle.engine.specs.Seen.{state}
use Rattle.imaging.specs.Make.{Made}
use Rattle.imaging.proofs.Showing.{served_shows}
use Rattle.imaging.proofs.making.make.Goals as goal

pub returns-clause-shows : goal.returns-clause-shows
returns-clause-shows g c = λ given rs serves.
    let e = c.args.engine.now in
    let made : Made (state g.F.Family.W g.R.Store.content g.L.Store.content e) c.args.stride c.args.edges.now c.draw_all.new.edges c.args.marks.now c.draw_all.new.marks c.count-vertices.result = search rules in
    served_shows given rs (state g.F.Family.W g.R.Store.content g.L.Store.content e) e.table.sound serves c.args.stride c.count-vertices.result c.args.edges.now c.draw_all.new.edges c.args.marks.now c.draw_all.new.marks made
