-- How many nodes, leaves and branching nodes a tree has, and how many more once it is grown. Assumes nothing.
use Rattle.std.proofs.Common.{◌≡◌, ℕ, zero, suc, ◌+◌, ◌-◌, ◌≤◌, true, false, List, [], ◌∷◌, ◌++◌, length, take, drop, sym, refl, ap, inl, inr, arith, length-append, length-drop}
use Rattle.std.proofs.lemmas.List.{drop_all}
use Rattle.std.proofs.lemmas.Bool.{true≢false}
use mathlib.Core.Logic.{∥∥₁_elim}
use denote.Struct.Props.{props}
use Rattle.bits.specs.Rows.{Bits}
use Rattle.tree.specs.Tree.{Shape, leaf, fork, has_node, shape_at, grown, leaves, shapes}
use Rattle.graph.specs.Slots.{Sound}
use Rattle.graph.specs.Descend.{SpotOf, Descends}
use Rattle.graph.specs.declared.edge.Edge.{Edge}
use Rattle.graph.specs.declared.spot.Spot.{Spot}
use Rattle.graph.specs.declared.vertex.Vertex.{Vertex}
use Rattle.graph.proofs.Unfold.{each_unfolds}
use Rattle.sizing.specs.Census.{added, nodes}

added_leaf : (p : Bits) → added p leaf ≡ length p
added_leaf [] = refl
added_leaf (b ∷ p) = refl

pub shapes_grown : (p : Bits) (t : Shape) → length (shapes (grown p t)) ≡ length (shapes t) + added p t
shapes_grown [] t = omega arith
shapes_grown (false ∷ p) leaf = omega (arith, length-append (shapes (grown p leaf)) [], shapes_grown p leaf, added_leaf p)
shapes_grown (true ∷ p) leaf = omega (arith, shapes_grown p leaf, added_leaf p)
shapes_grown (false ∷ p) (fork l r) = omega (arith, length-append (shapes (grown p l)) (shapes r), length-append (shapes l) (shapes r), shapes_grown p l)
shapes_grown (true ∷ p) (fork l r) = omega (arith, length-append (shapes l) (shapes (grown p r)), length-append (shapes l) (shapes r), shapes_grown p r)

pub leaves_number : (t : Shape) (q : Bits) → length (leaves t q) ≡ length (shapes t) + 1
leaves_number leaf q = omega arith
leaves_number (fork l r) q =
    let left = leaves_number l (q ++ (false ∷ [])) in
    let right = leaves_number r (q ++ (true ∷ [])) in
    omega (arith, length-append (leaves l (q ++ (false ∷ []))) (leaves r (q ++ (true ∷ []))), length-append (shapes l) (shapes r))

pub nodes_number : (t : Shape) → nodes t ≡ length (shapes t) + length (shapes t) + 1
nodes_number leaf = omega arith
nodes_number (fork l r) = omega (arith, nodes_number l, nodes_number r, length-append (shapes l) (shapes r))

-- a spot on the way down a prefix: what it lacks of the prefix is missing
added_at : (t : Shape) (p : Bits) (d : ℕ) → has_node t (take d p) ≡ true → added p t ≡ added (drop d p) (shape_at t (take d p))
added_at t p zero node = refl
added_at t [] (suc d) node = refl
added_at leaf (b ∷ p) (suc d) node = absurd (true≢false (sym node))
added_at (fork l r) (false ∷ p) (suc d) node = added_at l p d node
added_at (fork l r) (true ∷ p) (suc d) node = added_at r p d node

pub missing_at : (xs : List Vertex) (t : Shape) (p : Bits) (s : Spot) → SpotOf xs t p s → length p - s.depth ≡ added p t
missing_at xs t p s spot = elim spot.stops [
  | inl all ↦ omega (arith, added_at t p s.depth spot.node, ap (λ q. added q (shape_at t (take s.depth p))) (drop_all s.depth p (omega arith)))
  | inr short ↦ omega (arith, added_at t p s.depth spot.node, ap (added (drop s.depth p)) short.1, added_leaf (drop s.depth p), length-drop s.depth p)
]

-- no spot lies deeper than the prefix
pub spot_within : (xs : List Vertex) (start : Edge) (p : Bits) (s : Spot) → ∥ Sound xs ∥₁ → Descends xs start p s → s.depth ≤ length p
spot_within xs start p s sound descends = ∥∥₁_elim (each_unfolds xs start sound) (hlevel props) λ (t, h). (descends t h).within
