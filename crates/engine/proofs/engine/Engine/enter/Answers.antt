use Rattle.std.proofs.Common.{◌≡◌, ◌<◌, true, false, eqb, length, sym, ◌∙◌, subst, arith}
use Rattle.std.proofs.lemmas.Bool.Decides.{nat_tests}
use Rattle.net.specs.Prefix.{row_of}
use Rattle.tree.specs.Tree.{pushed, above}
use Rattle.tree.specs.HopLaws.{Leaf}
use Rattle.graph.proofs.Growing.{taken}
use Rattle.path.proofs.Laws as path
use Rattle.engine.proofs.engine.Engine.enter.Goals as goal

pub returns-then-spot-len : goal.returns-then-spot-len
returns-then-spot-len g c = λ given rs ready new.
    let e = c.args.self.now in
    let p = row_of c.args.at.now in
    let held = c.held.ensures in
    let limit = c.limit.ensures.answer in
    let apart = c.if-held-limit.false in
    let a = ready.serves.stored.routes_held in
    let b = ready.serves.stored.routes_limit in
    let room : eqb (length rs) given.route_limit ≡ false = grind (arith, nat_tests) in
    let spot = c.descend-spot.ensures (pushed rs) (taken ready.serves.starts) in
    let (node, edge) = path.at_node e.table.slots rs p c.descend-spot.result spot (c.if-spot-len.true ∙ c.len.ensures) in
    c.enter_at.ensures given rs ready room node edge

pub returns : goal.returns
returns g c = λ given rs ready new.
    let e = c.args.self.now in
    let p = row_of c.args.at.now in
    let held = c.held.ensures in
    let limit = c.limit.ensures.answer in
    let apart = c.if-held-limit.false in
    let a = ready.serves.stored.routes_held in
    let b = ready.serves.stored.routes_limit in
    let room : eqb (length rs) given.route_limit ≡ false = grind (arith, nat_tests) in
    let spot = c.descend-spot.ensures (pushed rs) (taken ready.serves.starts) in
    let less : c.descend-spot.result.depth < length p = (let within = spot.within in omega (arith, c.if-spot-len.false, c.len.ensures)) in
    let (is_leaf, over, _) = path.at_leaf e.table.slots rs p c.descend-spot.result spot less in
    c.enter_below.ensures given rs ready room (subst (Leaf rs) (sym c.front-leaf.ensures) is_leaf) (subst (λ q. above q p ≡ true) (sym c.front-leaf.ensures) over)
