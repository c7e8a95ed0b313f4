use Rattle.std.proofs.Common.{false, true, [], ◌∷◌, ◌++◌, slice_index_or, None, Ok, Err, sym, refl, ◌∙◌, arith}
use Rattle.std.proofs.lemmas.Result.{err_from_is_err_and}
use Rattle.net.specs.Prefix.{row_of}
use Rattle.paint.specs.Reach.{VisitsAt, visits_none}
use Rattle.paint.proofs.Lengths.{child_longer, child_named, child_unnamed, at_most}
use Rattle.paint.proofs.Reaching.{reaches_end, reaches_both, begun_deep, begun_covered, begun_child, begun_fails, visits_one, has_of}
use Rattle.paint.proofs.reach.Reach.+each_leaf.Goals as goal

pub returns-in-End : goal.returns-in-End
returns-in-End g t c =
    let step : VisitsAt g.F.Fn c.args.visit.now c.args.state.now (row_of c.args.at.now) c.visit.result _ =
    record { from = _; at = _; left = _; starts = refl; row = refl; met = c.visit.ensures; ends = refl } in
    reaches_end (g.R.Store.content c.args.self.now.routes.now).map c.args.self.now.table.now.slots (row_of c.args.at.now) _ c.args.edge _ _ _ c.in-End.is
    (visits_one _ _ _ _ _ step)

pub loop-one-init : goal.loop-one-init
loop-one-init g t c = λ t h. visits_none

pub loop-one-preserved-in_default-child : goal.loop-one-preserved-in_default-child
loop-one-preserved-in_default-child g t c =
    let l = c.loop-one in
    let child = row_of c.args.at.now ++ (slice_index_or (false ∷ true ∷ []) l.one-index false ∷ []) in
    let step : VisitsAt g.F.Fn c.args.visit.now l.state child (Ok tt) _ =
    record { from = _; at = None; left = _; starts = refl; row = child_unnamed c.args.at.now _ c.in_default-child.ensures; met = c.in_ok-visit.ensures; ends = refl } in
    begun_deep (g.R.Store.content c.args.self.now.routes.now).map c.args.self.now.table.now.slots (row_of c.args.at.now) _ c.args.edge l.one-index _ (omega arith) refl _ _ l.invariant
    c.in_default-child.ensures _ _ step

pub returns-in_err-visit : goal.returns-in_err-visit
returns-in_err-visit g t c =
    let routes = (g.R.Store.content c.args.self.now.routes.now).map in
    let slots = c.args.self.now.table.now.slots in
    let row = row_of c.args.at.now in
    let l = c.loop-one in
    let child = row ++ (slice_index_or (false ∷ true ∷ []) l.one-index false ∷ []) in
    let p = err_from_is_err_and c.from_residual.result c.from_residual.ensures.1 in
    let step : VisitsAt g.F.Fn c.args.visit.now l.state child (Err c.in_err-visit.field-0.0) _ =
    record { from = _; at = None; left = _; starts = refl; row = child_unnamed c.args.at.now _ c.in_default-child.ensures; met = c.in_err-visit.ensures; ends = refl } in
    reaches_both routes slots row _ c.args.edge _ 2 _ _ _ (at_most c.args.at.now) c.in_default.is (omega arith)
    (rw (p.1, p.2) (begun_fails routes slots row _ c.args.edge l.one-index _ _ _ (omega arith)
    (begun_deep routes slots row _ c.args.edge l.one-index _ (omega arith) refl _ _ l.invariant c.in_default-child.ensures _ _ step)))

pub loop-one-preserved-then-is_some : goal.loop-one-preserved-then-is_some
loop-one-preserved-then-is_some g t c =
    let routes = (g.R.Store.content c.args.self.now.routes.now).map in
    let l = c.loop-one in
    begun_covered routes c.args.self.now.table.now.slots (row_of c.args.at.now) _ c.args.edge l.one-index _ (omega arith) refl _ _ l.invariant
    (child_named c.args.at.now c.in-Some.below _ c.in-Some.ensures)
    (has_of routes _ _ c.get.result _ c.get.ensures c.in-Some.ensures (sym c.is_some.ensures ∙ c.if-is_some.true))

pub each_leaf-requires : goal.each_leaf-requires
each_leaf-requires g t c κs within =
    (omega (arith, child_longer c.args.at.now c.in-Some.below _ c.in-Some.ensures, c.decreases), (within.0, (within.1.0, (within.1.1.0, (within.1.1.1, c.requires)))))

pub returns-in_err-each_leaf : goal.returns-in_err-each_leaf
returns-in_err-each_leaf g t c =
    let routes = (g.R.Store.content c.args.self.now.routes.now).map in
    let slots = c.args.self.now.table.now.slots in
    let row = row_of c.args.at.now in
    let l = c.loop-one in
    let p = err_from_is_err_and c.from_residual-in_err-each_leaf.result c.from_residual-in_err-each_leaf.ensures.1 in
    reaches_both routes slots row _ c.args.edge _ 2 _ _ _ (at_most c.args.at.now) c.in_default.is (omega arith)
    (rw (p.1, p.2) (begun_fails routes slots row _ c.args.edge l.one-index _ _ _ (omega arith)
    (begun_child routes slots row _ c.args.edge l.one-index _ (omega arith) refl _ _ l.invariant (child_named c.args.at.now c.in-Some.below _ c.in-Some.ensures) _ c.follow.ensures
    (has_of routes _ _ c.get.result _ c.get.ensures c.in-Some.ensures (sym c.is_some.ensures ∙ c.if-is_some.false))
    _ _ (rw c.in-Some.ensures at c.in_err-each_leaf.ensures))))

pub loop-one-preserved : goal.loop-one-preserved
loop-one-preserved g t c =
    let routes = (g.R.Store.content c.args.self.now.routes.now).map in
    let l = c.loop-one in
    begun_child routes c.args.self.now.table.now.slots (row_of c.args.at.now) _ c.args.edge l.one-index _ (omega arith) refl _ _ l.invariant
    (child_named c.args.at.now c.in-Some.below _ c.in-Some.ensures) _ c.follow.ensures
    (has_of routes _ _ c.get.result _ c.get.ensures c.in-Some.ensures (sym c.is_some.ensures ∙ c.if-is_some.false))
    _ _ (rw c.in-Some.ensures at c.in_ok-each_leaf.ensures)

pub returns : goal.returns
returns g t c =
    let l = c.loop-one in
    reaches_both (g.R.Store.content c.args.self.now.routes.now).map c.args.self.now.table.now.slots (row_of c.args.at.now) _ c.args.edge _ l.one-index _ _ _ (at_most c.args.at.now) c.in_default.is
    (omega (arith, c.loop-one-test.false)) l.invariant
