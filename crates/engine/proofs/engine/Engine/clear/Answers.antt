use Rattle.std.proofs.Common.{◌≡◌, ◌<◌, true, length, sym, ◌∙◌, subst, arith}
use Rattle.net.specs.Prefix.{row_of}
use Rattle.tree.specs.Tree.{pushed, above, shape_at}
use Rattle.tree.specs.HopLaws.{Leaf}
use Rattle.tree.specs.Ledger.{struck}
use Rattle.tree.proofs.Hops.{strikes_node}
use Rattle.graph.specs.Slots.{Unfolds}
use Rattle.graph.proofs.Growing.{taken}
use Rattle.path.proofs.Laws as path
use Rattle.engine.proofs.engine.Engine.clear.Goals as goal

pub returns-then-spot-len-clause-clears : goal.returns-then-spot-len-clause-clears
returns-then-spot-len-clause-clears g c = λ given rs w stands leads old is.
    let e = c.args.self.now in
    let p = row_of c.args.at.now in
    let spot = c.descend-spot.ensures (pushed (struck rs p)) (taken leads) in
    let (node, edge) = path.at_node e.table.slots (struck rs p) p c.descend-spot.result spot (c.if-spot-len.true ∙ c.len.ensures) in
    c.clear_at.ensures.clears given rs w stands node (subst (λ t. Unfolds e.table.slots c.descend-spot.result.edge (shape_at t p)) (strikes_node rs p stands node).tree edge) is

pub returns-clause-clears : goal.returns-clause-clears
returns-clause-clears g c = λ given rs w stands leads old is.
    let e = c.args.self.now in
    let p = row_of c.args.at.now in
    let spot = c.descend-spot.ensures (pushed (struck rs p)) (taken leads) in
    let less : c.descend-spot.result.depth < length p = (let within = spot.within in omega (arith, c.if-spot-len.false, c.len.ensures)) in
    let (is_leaf, over, _) = path.at_leaf e.table.slots (struck rs p) p c.descend-spot.result spot less in
    c.clear_below.ensures.clears given rs w stands (subst (Leaf (struck rs p)) (sym c.front-leaf.ensures) is_leaf) (subst (λ q. above q p ≡ true) (sym c.front-leaf.ensures) over) old is
