-- A descent along a node's own row ends at the node. Assumes nothing.
use Rattle.std.proofs.Common.{◌≡◌, ℕ, zero, suc, ◌<◌, true, false, List, [], ◌∷◌, length, take, refl, ap, ◌∙◌, subst, inl, inr, arith, take_all}
use Rattle.std.proofs.lemmas.Bool.{both_ways}
use Rattle.bits.specs.Rows.{Bits}
use Rattle.tree.specs.Tree.{Shape, leaf, fork, has_node, shape_at}
use Rattle.graph.specs.Slots.{Unfolds}
use Rattle.graph.specs.declared.vertex.Vertex.{Vertex}
use Rattle.graph.specs.Descend.{SpotOf}
use Rattle.graph.specs.declared.spot.Spot.{Spot}

-- no node lies below a leaf
nothing_below : (t : Shape) (q : Bits) (d : ℕ) → d < length q → shape_at t (take d q) ≡ leaf → has_node t q ≡ false
nothing_below t [] d less e = absurd (omega arith)
nothing_below leaf (c ∷ q) d less e = refl
nothing_below (fork a b) (c ∷ q) zero less e = absurd (let k : ◌≡◌ {A = ℕ} 0 1 = cc in omega arith)
nothing_below (fork a b) (false ∷ q) (suc d) less e = nothing_below a q d (omega arith) e
nothing_below (fork a b) (true ∷ q) (suc d) less e = nothing_below b q d (omega arith) e

module _ (xs : List Vertex) (t : Shape) (q : Bits) (s : Spot) (at : SpotOf xs t q s) (node : has_node t q ≡ true) where
  pub at_node : s.depth ≡ length q
  at_node = elim at.stops [
    | inl e ↦ e
    | inr k ↦ absurd (both_ways _ (nothing_below t q s.depth k.0 k.1) node)
  ]

  pub node_edge : Unfolds xs s.edge (shape_at t q)
  node_edge = subst (λ r. Unfolds xs s.edge (shape_at t r)) (ap (λ n. take n q) at_node ∙ take_all (length q) q (omega arith)) at.unfolds
