use Rattle.std.proofs.Common.{refl}
use Rattle.std.proofs.lemmas.Result.{err_from_is_err_and}
use Rattle.net.specs.Prefix.{row_of}
use Rattle.refusal.specs.declared.Refusal.TheVariants.{LeavesFull}
use Rattle.tree.specs.Tree.{pushed, grown}
use Rattle.tree.specs.Ledger.{entered}
use Rattle.tree.proofs.Changes.{entering}
use Rattle.engine.specs.Changes.{room_checks}
use Rattle.engine.specs.Seen.{state}
use Rattle.engine.proofs.Stocks.{below_full, below_fits}
use Rattle.engine.proofs.Settling.{refused_by, no_leaf, no_vertex, all_room, drawn_full, drawn_room, drawn_leads, drawn_stored, drawn_granted}
use Rattle.engine.proofs.engine.Engine.enter_below.Goals as goal

pub returns-in_err-check_room : goal.returns-in_err-check_room
returns-in_err-check_room g c = λ given rs ready room is_leaf over.
    let s = state g.F.Family.W g.R.Store.content g.L.Store.content c.args.self.now in
    let q = row_of c.args.leaf.now in
    let p = row_of c.args.at.now in
    let ss = entered rs p c.args.hop in
    let full = below_full given rs s ready.serves.stored q p c.args.hop is_leaf over c.added_below-added.result c.added_below-added.ensures c.in_err-check_room.ensures.1 in
    let out = err_from_is_err_and c.from_residual.result c.from_residual.ensures.1 in
    rw (out.1, out.2, c.in_err-check_room.ensures.0) (refused_by given rs ss s s (room_checks given rs ss) LeavesFull (no_leaf given rs ss room full) ready.serves refl)

pub returns-in_err-drawn : goal.returns-in_err-drawn
returns-in_err-drawn g c = λ given rs ready room is_leaf over.
    let s = state g.F.Family.W g.R.Store.content g.L.Store.content c.args.self.now in
    let q = row_of c.args.leaf.now in
    let p = row_of c.args.at.now in
    let ss = entered rs p c.args.hop in
    let free = below_fits given rs s ready.serves.stored q p c.args.hop is_leaf over c.added_below-added.result c.added_below-added.ensures c.in_ok-check_room.ensures in
    let full = c.in_err-drawn.ensures (pushed rs) ready.serves.starts ready.serves.holds in
    let out = err_from_is_err_and c.from_residual-in_err-drawn.result c.from_residual-in_err-drawn.ensures.1 in
    rw (out.1, out.2)
    (drawn_full given rs ss (room_checks given rs ss) s (state g.F.Family.W g.R.Store.content g.L.Store.content c.grow.new.self)
    (grown p (pushed rs)) (entering rs p c.args.hop) _ full (no_vertex given rs ss room free) ready.serves)

pub returns : goal.returns
returns g c = λ given rs ready room is_leaf over.
    let s = state g.F.Family.W g.R.Store.content g.L.Store.content c.args.self.now in
    let s1 = state g.F.Family.W g.R.Store.content g.L.Store.content c.grow.new.self in
    let s2 = state g.F.Family.W g.R.Store.content g.L.Store.content c.set_below.new.self in
    let s3 = state g.F.Family.W g.R.Store.content g.L.Store.content c.redraw.new.self in
    let q = row_of c.args.leaf.now in
    let p = row_of c.args.at.now in
    let ss = entered rs p c.args.hop in
    let o = room_checks given rs ss in
    let u = grown p (pushed rs) in
    let tree = entering rs p c.args.hop in
    let d = c.in_ok-drawn.drawn in
    let drew = c.in_ok-drawn.ensures (pushed rs) ready.serves.starts ready.serves.holds in
    let free = below_fits given rs s ready.serves.stored q p c.args.hop is_leaf over c.added_below-added.result c.added_below-added.ensures c.in_ok-check_room.ensures in
    let none = all_room given rs ss room free (drawn_room given rs ss o s s1 u tree d drew) in
    let sound = ready.sound none in
    let stored = c.set_below.ensures.sets given rs
    (record { before = ready.serves.ledger; after = sound; stored = drawn_stored given rs ss o s s1 u tree d drew ready.serves.stored }) is_leaf over (drawn_leads given rs ss o s s1 u tree d drew) in
    drawn_granted given rs ss o s s1 u tree d drew s2 s3 none sound c.set_below.ensures.rest stored c.redraw.ensures
