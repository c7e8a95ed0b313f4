-- The walk of a row in the tree that an edge unfolds to. Assumes nothing.
use Rattle.std.proofs.Common.{◌≡◌, ℕ, ◌≤◌, true, false, List, [], ◌∷◌, ◌++◌, length, take, drop, Some, None, sym, refl, ap, ◌∙◌, subst, inl, inr, arith}
use mathlib.Core.Logic.{∥∥₁_elim}
use denote.Struct.Props.{props}
use Rattle.std.proofs.lemmas.Bool.{true≢false}
use Rattle.std.proofs.lemmas.List.{take_all, take-append-drop, length-take-le}
use Rattle.bits.specs.Rows.{Bits}
use Rattle.tree.specs.Tree.{Shape, leaf, has_node, shape_at}
use Rattle.tree.specs.Graph.{walk, more}
use Rattle.graph.specs.Descend.{SpotOf, Descends}
use Rattle.graph.specs.Slots.{Sound, is_end, led, Unfolds, unfolds_end, unfolds_to}
use Rattle.graph.specs.View.{way, out}
use Rattle.graph.specs.declared.edge.Edge.{Edge}
use Rattle.graph.specs.declared.edge.Edge.TheVariants.{End, To}
use Rattle.graph.specs.declared.spot.Spot.{Spot}
use Rattle.graph.specs.declared.vertex.Vertex.{Vertex}
use Rattle.graph.proofs.Unfold.{each_unfolds}
use Rattle.graph.proofs.Descending.{is_leaf, leaf_is, end_leaf, vertex_forks}

-- to a leaf, whatever bits come after it
pub walk_to_leaf : {xs : List Vertex} {e : Edge} {t : Shape} (q r : Bits) → Unfolds xs e t → has_node t q ≡ true → shape_at t q ≡ leaf → walk (out xs) (way e) (q ++ r) ≡ Some (length q)
walk_to_leaf [] r unfolds_end node end = refl
walk_to_leaf [] r (unfolds_to u l k) node end = absurd (true≢false (ap is_leaf (sym end)))
walk_to_leaf (c ∷ q) r unfolds_end node end = absurd (true≢false (sym node))
walk_to_leaf (false ∷ q) r (unfolds_to u l k) node end = ap more (walk_to_leaf q r l node end)
walk_to_leaf (true ∷ q) r (unfolds_to u l k) node end = ap more (walk_to_leaf q r k node end)

-- to a node that branches
pub walk_to_fork : {xs : List Vertex} {e : Edge} {t : Shape} (q : Bits) → Unfolds xs e t → is_leaf (shape_at t q) ≡ false → walk (out xs) (way e) q ≡ None
walk_to_fork [] unfolds_end forks = absurd (true≢false forks)
walk_to_fork [] (unfolds_to u l k) forks = refl
walk_to_fork (c ∷ q) unfolds_end forks = absurd (true≢false forks)
walk_to_fork (false ∷ q) (unfolds_to u l k) forks = ap more (walk_to_fork q l forks)
walk_to_fork (true ∷ q) (unfolds_to u l k) forks = ap more (walk_to_fork q k forks)

-- the walk of a whole row, by the spot that its bits lead to
module _ (xs : List Vertex) (start : Edge) (row p : Bits) (width : ℕ) (s : Spot) (sound : ∥ Sound xs ∥₁) (front : p ≡ take width row) (long : length row ≤ width) (descends : Descends xs start p s) where
  at_spot : (t : Shape) → Unfolds xs (led xs start) t → SpotOf xs t row s
  at_spot t h = subst (λ q. SpotOf xs t q s) (front ∙ take_all width row long) (descends t h)

  pub walk_ends : s.edge ≡ End → Some s.depth ≡ walk (out xs) (way (led xs start)) row
  walk_ends is = ∥∥₁_elim (each_unfolds xs start sound) (hlevel props) λ (t, h). sym (ends t h (at_spot t h))
    where
      ends : (t : Shape) → Unfolds xs (led xs start) t → SpotOf xs t row s → walk (out xs) (way (led xs start)) row ≡ Some s.depth
      ends t h spot =
          let at_leaf : shape_at t (take s.depth row) ≡ leaf = leaf_is _ (sym (end_leaf spot.unfolds) ∙ ap is_end is) in
          ap (walk (out xs) (way (led xs start))) (sym (take-append-drop s.depth row)) ∙ walk_to_leaf (take s.depth row) (drop s.depth row) h spot.node at_leaf ∙ ap Some (length-take-le s.depth row spot.within)

  pub walk_goes_on : (n : ℕ) → s.edge ≡ To n → None ≡ walk (out xs) (way (led xs start)) row
  walk_goes_on n is = ∥∥₁_elim (each_unfolds xs start sound) (hlevel props) λ (t, h). sym (on t h (at_spot t h))
    where
      on : (t : Shape) → Unfolds xs (led xs start) t → SpotOf xs t row s → walk (out xs) (way (led xs start)) row ≡ None
      on t h spot =
          let whole : take s.depth row ≡ row = elim spot.stops [ inl all ↦ take_all s.depth row (omega arith) | inr short ↦ absurd (true≢false (ap is_end (sym short.2 ∙ is))) ] in
          ap (walk (out xs) (way (led xs start))) (sym whole) ∙ walk_to_fork (take s.depth row) h (vertex_forks n is spot.unfolds)
