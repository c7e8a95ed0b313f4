use Rattle.std.proofs.Common.{◌≡◌, false, Ok, sym, subst}
use Rattle.net.specs.Prefix.{row_of}
use Rattle.tree.specs.Ledger.{announce, turn, bad_hop}
use Rattle.engine.specs.Serves.{Settles}
use Rattle.engine.specs.Seen.{state}
use Rattle.engine.proofs.Settling.{enters_told, rehops_told}
use Rattle.engine.proofs.engine.Engine.announce.Goals as goal

pub returns-then-is_none : goal.returns-then-is_none
returns-then-is_none g c = λ given rs serves.
    let s = state g.F.Family.W g.R.Store.content g.L.Store.content c.args.self.now in
    let t = state g.F.Family.W g.R.Store.content g.L.Store.content c.enter.new.self in
    let a = g.F.Family.row c.args.address.now in
    let same = c.in_ok-hop.ensures.1 in
    let good = subst (λ x. bad_hop x ≡ false) (sym same) c.in_ok-hop.ensures.0 in
    subst (λ x. Settles given (turn given rs (announce a c.args.len x)) s t c.enter.result) same
    (enters_told given rs s serves a c.args.len c.in_ok-at.ensures.0 (row_of c.in_ok-at.at) c.in_ok-at.ensures.1 c.get.result c.get.ensures t c.enter.result
    c.in_ok-hop.hop good c.if-is_none.ensures c.enter.ensures)

pub returns : goal.returns
returns g c = λ given rs serves.
    let s = state g.F.Family.W g.R.Store.content g.L.Store.content c.args.self.now in
    let t = state g.F.Family.W g.R.Store.content g.L.Store.content c.set_at.new.self in
    let a = g.F.Family.row c.args.address.now in
    let same = c.in_ok-hop.ensures.1 in
    let good = subst (λ x. bad_hop x ≡ false) (sym same) c.in_ok-hop.ensures.0 in
    subst (λ x. Settles given (turn given rs (announce a c.args.len x)) s t (Ok 0)) same
    (rehops_told given rs s serves a c.args.len c.in_ok-at.ensures.0 (row_of c.in_ok-at.at) c.in_ok-at.ensures.1 c.get.result c.get.ensures t
    c.in_ok-hop.hop c.descend-spot.result good c.if-is_none.ensures c.descend-spot.ensures c.set_at.ensures.rest c.set_at.ensures.sets)
