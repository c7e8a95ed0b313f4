-- What the calls on a path come to, where a map has exactly the standing routes. Assumes nothing.
use Rattle.std.proofs.Common.{◌≡◌, ℕ, zero, suc, ◌+◌, ◌<◌, Bool, true, false, cond, not, ◌&&◌, List, [], ◌∷◌, ◌++◌, length, get_or, take, drop, is_some, Some, None, sym, refl, ap, ◌∙◌, subst, inl, inr, arith}
use mathlib.Core.Path.{fun_ext}
use Rattle.std.proofs.lemmas.List.{take_all, take-append-drop, drop_more}
use Rattle.bits.specs.Rows.{Bits, same}
use Rattle.bits.proofs.Members.{same_swap}
use Rattle.tree.specs.Tree.{Routes, Shape, leaf, fork, above, forks_at, has_node, shape_at, pushed}
use Rattle.tree.specs.Ledger.{stands, struck}
use Rattle.tree.specs.Changes.{pruned}
use Rattle.tree.specs.HopLaws.{leaf_hop, Leaf}
use Rattle.tree.specs.LedgerLaws.{Once}
use Rattle.tree.specs.StoreLaws.{hop_at}
use Rattle.tree.proofs.Above.{over, above_is}
use Rattle.tree.proofs.Leaves.{leaf_ends}
use Rattle.tree.proofs.Nodes.{ends_is}
use Rattle.tree.proofs.Changes.{striking}
use Rattle.tree.proofs.Lengths.{next_shorter, none_shorter}
use Rattle.tree.proofs.Stores.{routes_held, struck_hop}
use Rattle.store.specs.Content.{Map, Told, present}
use Rattle.graph.specs.Slots.{Unfolds}
use Rattle.graph.specs.declared.vertex.Vertex.{Vertex}
use Rattle.graph.specs.declared.spot.Spot.{Spot}
use Rattle.graph.specs.Descend.{SpotOf}
use Rattle.path.specs.Shorter.{NextShorter}
use Rattle.path.specs.Prune.{others}
use Rattle.graph.proofs.Descending.{is_leaf, forks_shape}

over_take : (d : ℕ) (p : Bits) → d < length p → over (take d p) p ≡ true
over_take d [] less = absurd (omega arith)
over_take zero (c ∷ p) less = refl
over_take (suc d) (true ∷ p) less = over_take d p (omega arith)
over_take (suc d) (false ∷ p) less = over_take d p (omega arith)

-- the nodes below a node are those of its tree
nodes_below : (t : Shape) (q : Bits) (c : Bool) (w : Bits) → has_node t (q ++ (c ∷ w)) ≡ has_node (shape_at t q) (c ∷ w)
nodes_below t [] c w = refl
nodes_below leaf (b ∷ q) c w = refl
nodes_below (fork l r) (false ∷ q) c w = nodes_below l q c w
nodes_below (fork l r) (true ∷ q) c w = nodes_below r q c w

module _ (xs : List Vertex) (rs : Routes) (p : Bits) (s : Spot) (spot : SpotOf xs (pushed rs) p s) where
  -- the spot's bits
  abbrev q : Bits
  q = take s.depth p

  pub at_node : s.depth ≡ length p → (has_node (pushed rs) p ≡ true) × Unfolds xs s.edge (shape_at (pushed rs) p)
  at_node deep =
      let all : take s.depth p ≡ p = take_all s.depth p (omega arith) in
      (ap (has_node (pushed rs)) (sym all) ∙ spot.node, subst (λ q. Unfolds xs s.edge (shape_at (pushed rs) q)) all spot.unfolds)

  pub at_leaf : s.depth < length p → Leaf rs (take s.depth p) × (above (take s.depth p) p ≡ true) × (has_node (pushed rs) p ≡ false)
  at_leaf less = ((leaf_ends (pushed rs) q).1 (ends_is (pushed rs) q ∙ listed), above_is q p ∙ over_take s.depth p less, gone)
    where
      bare : shape_at (pushed rs) q ≡ leaf
      bare = elim spot.stops [ inl deep ↦ absurd (omega arith) | inr (_, is, _) ↦ is ]

      listed : (has_node (pushed rs) q && not (forks_at (pushed rs) q)) ≡ true
      listed = let n = spot.node in let f : forks_at (pushed rs) q ≡ false = forks_shape (pushed rs) q ∙ ap (λ t. not (is_leaf t)) bare in grind arith

      rest : p ≡ q ++ (get_or p s.depth false ∷ drop (s.depth + 1) p)
      rest = sym (take-append-drop s.depth p) ∙ ap (λ w. q ++ w) (drop_more p s.depth false less)

      gone : has_node (pushed rs) p ≡ false
      gone = ap (has_node (pushed rs)) rest ∙ nodes_below (pushed rs) q _ _ ∙ ap (λ t. has_node t (get_or p s.depth false ∷ drop (s.depth + 1) p)) bare

module _ (rs : Routes) (m : Map) (p : Bits) (told : (q : Bits) → m q ≡ hop_at rs q) where
  no_route : (q : Bits) → m q ≡ None → stands rs q ≡ false
  no_route q none = sym (routes_held rs q) ∙ ap is_some (sym (told q) ∙ none)

  pub left_hop : (r : Told) → Once rs → NextShorter m p r → leaf_hop (struck rs p) p ≡ r
  left_hop None once none = none_shorter rs p (λ k less. no_route (take k p) (none k less))
  left_hop (Some h) once (n, less, is, none) = next_shorter rs p n h once less (sym (told (take n p)) ∙ is) (λ k least most. no_route (take k p) (none k least most))

  -- the routes other than p's are those that are left
  left_routes : (q : Bits) → others m p q ≡ stands (struck rs p) q
  left_routes q = ap (λ o. present o && not (same q p)) (told q) ∙ cut (hop_at rs q) (same q p) ∙ ap (λ b. present (cond b None (hop_at rs q))) (same_swap q p) ∙ ap is_some (sym (struck_hop rs p q)) ∙ routes_held (struck rs p) q
    where
      cut : (o : Told) (b : Bool) → (present o && not b) ≡ present (cond b None o)
      cut None true = refl
      cut None false = refl
      cut (Some h) true = refl
      cut (Some h) false = refl

  pub left_tree : pruned (others m p) (pushed rs) p ≡ pushed (struck rs p)
  left_tree = ap (λ own. pruned own (pushed rs) p) (fun_ext left_routes) ∙ sym (striking rs p)
