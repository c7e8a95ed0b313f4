use Rattle.std.proofs.Common.{sym, refl}
use Rattle.std.proofs.lemmas.Result.{err_from_is_err_and}
use Rattle.net.specs.Prefix.{row_of}
use Rattle.refusal.specs.declared.Refusal.TheVariants.{LeavesFull}
use Rattle.tree.specs.Ledger.{entered}
use Rattle.tree.proofs.Changes.{entering_node}
use Rattle.tree.proofs.Paths.{nothing_new}
use Rattle.engine.specs.Changes.{room_checks}
use Rattle.engine.specs.Seen.{state}
use Rattle.engine.proofs.Stocks.{edge_full, edge_fits}
use Rattle.engine.proofs.Settling.{refused_by, granted_by, no_leaf, all_room, still_fits, serves_still}
use Rattle.engine.proofs.engine.Engine.enter_at.Goals as goal

pub returns-in_err-check_room : goal.returns-in_err-check_room
returns-in_err-check_room g c = λ given rs ready room node leads.
    let s = state g.F.Family.W g.R.Store.content g.L.Store.content c.args.self.now in
    let p = row_of c.args.at.now in
    let ss = entered rs p c.args.hop in
    let full = edge_full given rs s ready.serves g.met.F.Family.most p c.args.hop node c.args.edge leads c.count_missing-added.result c.count_missing-added.ensures c.in_err-check_room.ensures.1 in
    let out = err_from_is_err_and c.from_residual.result c.from_residual.ensures.1 in
    rw (out.1, out.2, c.in_err-check_room.ensures.0) (refused_by given rs ss s s (room_checks given rs ss) LeavesFull (no_leaf given rs ss room full) ready.serves refl)

pub returns : goal.returns
returns g c = λ given rs ready room node leads.
    let s = state g.F.Family.W g.R.Store.content g.L.Store.content c.args.self.now in
    let p = row_of c.args.at.now in
    let ss = entered rs p c.args.hop in
    let free = edge_fits given rs s ready.serves g.met.F.Family.most p c.args.hop node c.args.edge leads c.count_missing-added.result c.count_missing-added.ensures c.in_ok-check_room.ensures in
    let tree = entering_node rs p c.args.hop node in
    let none = all_room given rs ss room free (still_fits given rs ss ready.serves.ledger tree) in
    let sound = ready.sound none in
    let stored = c.set_at.ensures.sets given rs (record { before = ready.serves.ledger; after = sound; stored = ready.serves.stored }) node leads in
    granted_by given rs ss s (state g.F.Family.W g.R.Store.content g.L.Store.content c.set_at.new.self) (room_checks given rs ss) 0 none (sym (nothing_new rs ss tree))
    (serves_still given s (state g.F.Family.W g.R.Store.content g.L.Store.content c.set_at.new.self) rs ss c.set_at.ensures.rest tree sound ready.serves stored)
