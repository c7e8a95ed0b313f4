use Rattle.std.proofs.lemmas.Result.{err_from_is_err_and}
use Rattle.net.specs.Prefix.{row_of}
use Rattle.tree.specs.Tree.{pushed}
use Rattle.tree.specs.Changes.{pruned}
use Rattle.tree.specs.Ledger.{struck}
use Rattle.path.specs.Prune.{others}
use Rattle.engine.specs.Changes.{fold_checks}
use Rattle.engine.specs.Seen.{state}
use Rattle.engine.proofs.Settling.{no_fold, fold_room, struck_tree, hop_left, drawn_full, drawn_room, drawn_leads, drawn_starts, drawn_stored, drawn_granted}
use Rattle.engine.proofs.engine.Engine.strike.Goals as goal

pub returns-in_err-drawn : goal.returns-in_err-drawn
returns-in_err-drawn g c = λ given rs ready stands.
    let s = state g.F.Family.W g.R.Store.content g.L.Store.content c.args.self.now in
    let p = row_of c.args.at.now in
    let ss = struck rs p in
    let full = c.in_err-drawn.ensures (pushed rs) ready.serves.starts ready.serves.holds in
    let out = err_from_is_err_and c.from_residual.result c.from_residual.ensures.1 in
    rw (out.1, out.2)
    (drawn_full given rs ss (fold_checks rs ss) s (state g.F.Family.W g.R.Store.content g.L.Store.content c.fold.new.self)
    (pruned (others s.routes.map p) (pushed rs) p) (struck_tree rs p s.routes.map ready.serves.stored.route_hops) _ full (no_fold rs ss) ready.serves)

pub returns : goal.returns
returns g c = λ given rs ready stands.
    let s = state g.F.Family.W g.R.Store.content g.L.Store.content c.args.self.now in
    let s1 = state g.F.Family.W g.R.Store.content g.L.Store.content c.fold.new.self in
    let s2 = state g.F.Family.W g.R.Store.content g.L.Store.content c.clear.new.self in
    let s3 = state g.F.Family.W g.R.Store.content g.L.Store.content c.redraw.new.self in
    let p = row_of c.args.at.now in
    let ss = struck rs p in
    let o = fold_checks rs ss in
    let m = s.routes.map in
    let hops = ready.serves.stored.route_hops in
    let u = pruned (others m p) (pushed rs) p in
    let tree = struck_tree rs p m hops in
    let d = c.in_ok-drawn.drawn in
    let drew = c.in_ok-drawn.ensures (pushed rs) ready.serves.starts ready.serves.holds in
    let none = fold_room rs ss (drawn_room given rs ss o s s1 u tree d drew) in
    let sound = ready.sound none in
    let next = hop_left rs p m hops ready.serves.ledger.once c.next_shorter-next.result c.next_shorter-next.ensures in
    let stored = c.clear.ensures.clears given rs
    (record { before = ready.serves.ledger; after = sound; stored = drawn_stored given rs ss o s s1 u tree d drew ready.serves.stored }) stands
    (drawn_leads given rs ss o s s1 u tree d drew) (drawn_starts given rs ss o s s1 u tree d drew) next in
    drawn_granted given rs ss o s s1 u tree d drew s2 s3 none sound c.clear.ensures.rest stored c.redraw.ensures
