-- What a change does to each leaf's hop. Assumes nothing.
use Rattle.std.proofs.Common.{◌≡◌, ℕ, ◌≤◌, Bool, true, false, not, ◌&&◌, ◌||◌, ltb, ◌⊎◌, ◌↔◌, [], ◌∷◌, ◌++◌, length, drop, Some, sym, refl, ap, ◌∙◌, inl, inr, arith}
use mathlib.Core.Logic.{∥∥₁_elim}
use mathlib.Core.List.{Mem}
use mathlib.Core.Bool.{Bool-set}
use Rattle.std.proofs.lemmas.Bool.{cases_Bool, both_ways, and_parts, or_cases, and_right, ltb-false, le-ltb}
use Rattle.bits.specs.Lists.{any}
use Rattle.bits.specs.Rows.{Bits, same, begins}
use Rattle.tree.specs.Tree.{Route, Routes, Shape, leaf, above, has_node, shape_at, grown, pushed, leaves, hop_of}
use Rattle.tree.specs.Ledger.{stands, struck, entered}
use Rattle.tree.specs.Changes.{painted, reach}
use Rattle.tree.specs.HopLaws.{leaf_hop, Leaf, Repaints, Splits, Folds}
use Rattle.bits.proofs.Tests.{never, same_is, any_none, all_none}
use Rattle.bits.proofs.Members.{has_row, same_self}
use Rattle.bits.proofs.Begins.{begins_self, begins_trans, begins_rest, begins_cancel}
use Rattle.tree.proofs.Above.{over, above_is}
use Rattle.tree.proofs.Leaves.{ends_at, leaf_ends}
use Rattle.tree.proofs.Nodes.{grown_node, ends_is}
use Rattle.tree.proofs.Pushed.{forks_grown}
use Rattle.tree.proofs.Changes.{entering, entering_node, standing_node, undoing}
use Rattle.tree.proofs.Lookup.{longest_by_leaf}
use Rattle.tree.proofs.Covers.{covered, covered_none, painted_is, struck_elsewhere, struck_under, struck_here, entered_elsewhere, entered_under, entered_here}
use Rattle.tree.proofs.Twigs.{listed_below, ends_below, leaf_one, node_or_leaf, ends_grown, path_end}

pub node_or_below : (rs : Routes) (p : Bits) → (has_node (pushed rs) p ≡ true) ⊎ ((q : Bits) × Leaf rs q × (above q p ≡ true))
node_or_below rs p = elim (node_or_leaf (pushed rs) p) [ inl h ↦ inl h | inr (q, e, o) ↦ inr (q, (leaf_ends (pushed rs) q).1 e, above_is q p ∙ o) ]

-- at a node p of the tree
module _ (rs : Routes) (p : Bits) (node : has_node (pushed rs) p ≡ true) where
  -- a leaf in p's reach is a leaf below p that no longer route covers
  record Reached (u : Bits) : Type 0 where
    is_leaf : Leaf rs u
    front : begins p u ≡ true
    free : covered rs p u ≡ false

  reached : (u : Bits) → Mem u (reach rs p) → Reached u
  reached u m =
      let t = shape_at (pushed rs) p in
      let parts = and_parts (any (same u) (leaves t p)) (not (covered rs p u)) (sym (painted_is rs t p u) ∙ (has_row u _).0 m) in
      let under = and_parts (begins p u) (ends_at t (drop (length p) u)) ((listed_below t p u).0 ((has_row u _).1 parts.0)) in
      record {
        is_leaf = (leaf_ends (pushed rs) u).1 (ap (ends_at (pushed rs)) (begins_rest p u under.0) ∙ ends_below (pushed rs) p (drop (length p) u) node ∙ under.1);
        front = under.0;
        free = (let k = parts.1 in grind arith);
      }

  -- any other leaf is not below p or is covered
  spared : (u : Bits) → Leaf rs u → (Mem u (reach rs p) → ⊥) → begins p u ≡ true → covered rs p u ≡ true
  spared u l out front =
      let t = shape_at (pushed rs) p in
      let ends : ends_at t (drop (length p) u) ≡ true = sym (ends_below (pushed rs) p (drop (length p) u) node) ∙ ap (ends_at (pushed rs)) (sym (begins_rest p u front)) ∙ (leaf_ends (pushed rs) u).0 l in
      let listed = (has_row u _).0 ((listed_below t p u).1 (grind arith)) in
      let is = painted_is rs t p u in
      let no : any (same u) (painted (stands rs) t p) ≡ false = never _ (λ h. out ((has_row u _).1 h)) in
      grind arith

  pub reach_is : (u : Bits) → Mem u (reach rs p) ↔ (Leaf rs u × (begins p u ≡ true) × ((r : Route) → Mem r rs → begins r.at u ≡ true → length r.at ≤ length p))
  reach_is u = (
    λ m. let x = reached u m in
        (x.is_leaf, x.front, λ r k b. (let n = any_none (λ s. ltb (length p) (length s.at) && begins s.at u) rs x.free r k in ltb-false _ _ (grind arith))),
    λ (l, front, short). elim (cases_Bool (any (same u) (reach rs p))) [
      | inl k ↦ (has_row u _).1 k
      | inr k ↦ absurd (both_ways _ (all_none (λ s. ltb (length p) (length s.at) && begins s.at u) rs (λ r m. uncovering r (short r m))) (spared u l (λ m. both_ways _ k ((has_row u _).0 m)) front))
    ],
  )
    where
      uncovering : (r : Route) → (begins r.at u ≡ true → length r.at ≤ length p) → (ltb (length p) (length r.at) && begins r.at u) ≡ false
      uncovering r h = elim (cases_Bool (begins r.at u)) [
        | inl b ↦ (let k = le-ltb _ _ (h b) in grind arith)
        | inr b ↦ and_right _ _ b
      ]

  pub enters_node : (h : ℕ) → Repaints rs (entered rs p h) p (Some h)
  enters_node h = record {
    tree = entering_node rs p h node;
    leaf = λ u m. (reached u m).is_leaf;
    painted = λ u m. ap hop_of (entered_here rs p h u (reached u m).front (reached u m).free);
    stays = λ u l out. elim (cases_Bool (begins p u)) [
      | inl b ↦ ap hop_of (entered_under rs p h u b (spared u l out b))
      | inr b ↦ ap hop_of (entered_elsewhere rs p h u b)
    ];
  }

pub rehops : (rs : Routes) (p : Bits) (h : ℕ) → stands rs p ≡ true → Repaints rs (entered rs p h) p (Some h)
rehops rs p h s = enters_node rs p (standing_node rs p s) h

pub strikes_node : (rs : Routes) (p : Bits) → stands rs p ≡ true → has_node (pushed (struck rs p)) p ≡ true → Repaints rs (struck rs p) p (leaf_hop (struck rs p) p)
strikes_node rs p s after =
    let node = standing_node rs p s in
    record {
      tree = sym (grown_node p (pushed (struck rs p)) after) ∙ undoing rs p s;
      leaf = λ u m. (reached rs p node u m).is_leaf;
      painted = λ u m. ap hop_of (struck_here rs p u (reached rs p node u m).front (reached rs p node u m).free);
      stays = λ u l out. elim (cases_Bool (begins p u)) [
        | inl b ↦ ap hop_of (struck_under rs p u (spared rs p node u l out b))
        | inr b ↦ ap hop_of (struck_elsewhere rs p u b)
      ];
    }

-- the tree t, grown from its leaf q to p below it
module _ (t : Shape) (q p : Bits) (l : ends_at t q ≡ true) (o : over q p ≡ true) where
  abbrev w : Bits
  w = drop (length q) p

  pub front : begins q p ≡ true
  front = over_begins q p o
    where
      over_begins : (q p : Bits) → over q p ≡ true → begins q p ≡ true
      over_begins [] p h = refl
      over_begins (b ∷ q) [] h = h
      over_begins (b ∷ q) (c ∷ p) h = let ih = over_begins q p in grind arith

  pub whole : p ≡ q ++ w
  whole = begins_rest q p front

  abbrev twig : Bits → Bool
  twig u = begins q u && ends_at (grown w leaf) (drop (length q) u)

  grown_ends : (u : Bits) → ends_at (grown p t) u ≡ ((ends_at t u && not (same u q)) || twig u)
  grown_ends u = ap (λ r. ends_at (grown r t) u) whole ∙ ends_grown q w t u l

  pub leaf_gone : ends_at (grown p t) q ≡ true → ⊥
  leaf_gone e = let is = ends_is (grown p t) q in let f = forks_grown p t q in both_ways (over q p && ends_at (grown p t) q) (grind arith) (grind arith)

  pub twig_end : twig p ≡ true
  twig_end = let f = front in let e = path_end w in grind arith

  -- another leaf does not begin with p
  pub other_leaf : (u : Bits) → ends_at t u ≡ true → (u ≡ q → ⊥) → begins p u ≡ false
  other_leaf u e n = never _ (λ h. n (leaf_one t u q e l (begins_trans q p u front h)))

  -- nor does another leaf of the new path
  pub other_twig : (u : Bits) → twig u ≡ true → (u ≡ p → ⊥) → begins p u ≡ false
  other_twig u e n = never _ (λ h.
      let parts = and_parts (begins q u) (ends_at (grown w leaf) (drop (length q) u)) e in
      let rest = begins_rest q u parts.0 in
      let below : begins w (drop (length q) u) ≡ true = sym (begins_cancel q w (drop (length q) u)) ∙ rw (← whole, ← rest) h in
      n (rest ∙ ap (λ v. q ++ v) (leaf_one (grown w leaf) (drop (length q) u) w parts.1 (path_end w) below) ∙ sym whole))

  -- a twig is no other leaf of the tree
  pub twig_apart : (u : Bits) → twig u ≡ true → ends_at t u ≡ true → u ≡ q
  twig_apart u e k = leaf_one t u q k l (and_parts (begins q u) _ e).0

  apart : (u : Bits) → same u q ≡ false → u ≡ q → ⊥
  apart u s e = both_ways _ s (rw e (same_self q))

  pub split : (u : Bits) → ends_at (grown p t) u ≡ true → ((ends_at t u ≡ true) × (u ≡ q → ⊥)) ⊎ (twig u ≡ true)
  split u e = elim (or_cases (ends_at t u && not (same u q)) (twig u) (sym (grown_ends u) ∙ e)) [
    | inl k ↦ (let parts = and_parts (ends_at t u) (not (same u q)) k in let other : same u q ≡ false = (let n = parts.1 in grind arith) in inl (parts.0, apart u other))
    | inr k ↦ inr k
  ]

  pub split_back : (u : Bits) → ((ends_at t u ≡ true) × (u ≡ q → ⊥)) ⊎ (twig u ≡ true) → ends_at (grown p t) u ≡ true
  split_back u (inl (e, n)) = let other : same u q ≡ false = never _ (λ h. n (same_is u q h)) in grown_ends u ∙ grind arith
  split_back u (inr k) = grown_ends u ∙ grind arith

  pub fold : (u : Bits) → ends_at t u ≡ true → ((ends_at (grown p t) u ≡ true) × (twig u ≡ true → ⊥)) ⊎ (u ≡ q)
  fold u e = elim (cases_Bool (same u q)) [
    | inl s ↦ inr (same_is u q s)
    | inr s ↦ inl (split_back u (inl (e, apart u s)), λ k. apart u s (twig_apart u k e))
  ]

  pub fold_back : (u : Bits) → ((ends_at (grown p t) u ≡ true) × (twig u ≡ true → ⊥)) ⊎ (u ≡ q) → ends_at t u ≡ true
  fold_back u (inl (e, n)) = elim (split u e) [ inl k ↦ k.0 | inr k ↦ absurd (n k) ]
  fold_back u (inr e) = rw e l

-- to enter p below the leaf q
module _ (rs : Routes) (q p : Bits) (h : ℕ) (is_leaf : Leaf rs q) (o : above q p ≡ true) where
  entered_end : ends_at (pushed rs) q ≡ true
  entered_end = (leaf_ends (pushed rs) q).0 is_leaf

  entered_over : over q p ≡ true
  entered_over = sym (above_is q p) ∙ o

  new_leaf_ends : (u : Bits) → Leaf (entered rs p h) u ↔ (ends_at (grown p (pushed rs)) u ≡ true)
  new_leaf_ends u = rw (← entering rs p h) (leaf_ends (pushed (entered rs p h)) u)

  pub enters_below : Splits rs (entered rs p h) q p (Some h)
  enters_below = record {
    was_leaf = is_leaf;
    no_leaf = λ m. leaf_gone (pushed rs) q p entered_end entered_over ((new_leaf_ends q).0 m);
    new_leaf = (listed_below _ q p).1 (twig_end (pushed rs) q p entered_end entered_over);
    leaves = λ u. (
      λ m. ∣ elim (split (pushed rs) q p entered_end entered_over u ((new_leaf_ends u).0 m)) [ inl (e, n) ↦ inl ((leaf_ends (pushed rs) u).1 e, n) | inr k ↦ inr ((listed_below _ q u).1 k) ] ∣₁,
      λ m. (new_leaf_ends u).1 (∥∥₁_elim m (Bool-set _ _) (λ s. split_back (pushed rs) q p entered_end entered_over u (elim s [ inl (e, n) ↦ inl ((leaf_ends (pushed rs) u).0 e, n) | inr k ↦ inr ((listed_below _ q u).0 k) ]))),
    );
    painted = ap hop_of (entered_here rs p h p (begins_self p) (covered_none rs p));
    beside = λ u m n. (let e = (listed_below _ q u).0 m in
        ap hop_of (entered_elsewhere rs p h u (other_twig (pushed rs) q p entered_end entered_over u e n) ∙ longest_by_leaf rs q is_leaf u (and_parts (begins q u) _ e).0));
    stays = λ u m n. ap hop_of (entered_elsewhere rs p h u (other_leaf (pushed rs) q p entered_end entered_over u ((leaf_ends (pushed rs) u).0 m) n));
  }

-- to strike p, so that the tree folds back to the leaf q
module _ (rs : Routes) (q p : Bits) (stood : stands rs p ≡ true) (is_leaf : Leaf (struck rs p) q) (o : above q p ≡ true) where
  abbrev folded_tree : Shape
  folded_tree = pushed (struck rs p)

  struck_end : ends_at folded_tree q ≡ true
  struck_end = (leaf_ends folded_tree q).0 is_leaf

  struck_over : over q p ≡ true
  struck_over = sym (above_is q p) ∙ o

  old_leaf_ends : (u : Bits) → Leaf rs u ↔ (ends_at (grown p folded_tree) u ≡ true)
  old_leaf_ends u = rw (undoing rs p stood) (leaf_ends (pushed rs) u)

  pub strikes_below : Folds rs (struck rs p) q p
  strikes_below = record {
    no_leaf = λ m. leaf_gone folded_tree q p struck_end struck_over ((old_leaf_ends q).0 m);
    is_leaf = is_leaf;
    leaves = λ u. (
      λ m. ∣ elim (fold folded_tree q p struck_end struck_over u ((leaf_ends folded_tree u).0 m)) [ inl (e, n) ↦ inl ((old_leaf_ends u).1 e, λ j. n ((listed_below _ q u).0 j)) | inr e ↦ inr e ] ∣₁,
      λ m. (leaf_ends folded_tree u).1 (∥∥₁_elim m (Bool-set _ _) (λ x. fold_back folded_tree q p struck_end struck_over u (elim x [ inl (e, n) ↦ inl ((old_leaf_ends u).0 e, λ j. n ((listed_below _ q u).1 j)) | inr e ↦ inr e ]))),
    );
    painted = ap hop_of (sym (longest_by_leaf (struck rs p) q is_leaf p (front folded_tree q p struck_end struck_over)));
    beside = λ u m n. (let e = (listed_below _ q u).0 m in
        ap hop_of (sym (longest_by_leaf (struck rs p) q is_leaf u (and_parts (begins q u) _ e).0) ∙ struck_elsewhere rs p u (other_twig folded_tree q p struck_end struck_over u e n)));
    stays = λ u m n. elim (split folded_tree q p struck_end struck_over u ((old_leaf_ends u).0 m)) [
      | inl (e, other) ↦ ap hop_of (struck_elsewhere rs p u (other_leaf folded_tree q p struck_end struck_over u e other))
      | inr j ↦ absurd (n ((listed_below _ q u).1 j))
    ];
  }
