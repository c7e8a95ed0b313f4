-- What a change does to each leaf's hop. Assumes nothing.
--   leaf_hop rs q            the hop of the leaf q: that of its longest match
--   Leaf rs q                q is a leaf
--   BesideWay q p u         u is the sibling of a node on the way from q to p, q left out
--   Repaints rs ss p o       from rs to ss the tree stays, the leaves that p's route decides have the hop o now, and all others stay
--   Splits rs ss q p o       the leaf q gives way to p and the leaves beside the way to p; p has the hop o, they have q's, and all others stay
--   Folds rs ss q p          p and the leaves beside the way to it give way to the leaf q, which has the longest match that is left, as they had; all others stay
use Rattle.std.specs.Prelude.{◌≡◌, ℕ, ◌≤◌, Bool, true, not, ◌⊎◌, ◌↔◌, [], ◌∷◌, ◌++◌, length, Some, Option, ◌≢◌}
use mathlib.Core.List.{Mem}
use Rattle.bits.specs.Rows.{Bits, begins}
use Rattle.tree.specs.Tree.{Route, Routes, above, has_node, pushed, leaves, longest, hop_of}
use Rattle.tree.specs.Ledger.{stands, struck, entered}
use Rattle.tree.specs.Changes.{reach, twigs}

abbrev pub leaf_hop : Routes → Bits → Option ℕ
leaf_hop rs q = hop_of (longest rs q)

abbrev pub BesideWay : Bits → Bits → Bits → Type 0
BesideWay q p u = (v : Bits) × (b : Bool) × (begins q v ≡ true) × (begins (v ++ (b ∷ [])) p ≡ true) × (u ≡ v ++ (not b ∷ []))

abbrev pub Leaf : Routes → Bits → Type 0
Leaf rs q = Mem q (leaves (pushed rs) [])

pub record Repaints (rs ss : Routes) (p : Bits) (o : Option ℕ) : Type 0 where
  pub tree : pushed ss ≡ pushed rs
  pub leaf : (u : Bits) → Mem u (reach rs p) → Leaf rs u
  pub painted : (u : Bits) → Mem u (reach rs p) → leaf_hop ss u ≡ o
  pub stays : (u : Bits) → Leaf rs u → (Mem u (reach rs p) → ⊥) → leaf_hop ss u ≡ leaf_hop rs u

pub record Splits (rs ss : Routes) (q p : Bits) (o : Option ℕ) : Type 0 where
  pub was_leaf : Leaf rs q
  pub no_leaf : Leaf ss q → ⊥
  pub new_leaf : Mem p (twigs q p)
  pub leaves : (u : Bits) → Leaf ss u ↔ ∥ ((Leaf rs u × (u ≢ q)) ⊎ Mem u (twigs q p)) ∥₁
  pub painted : leaf_hop ss p ≡ o
  pub beside : (u : Bits) → Mem u (twigs q p) → (u ≢ p) → leaf_hop ss u ≡ leaf_hop rs q
  pub stays : (u : Bits) → Leaf rs u → (u ≢ q) → leaf_hop ss u ≡ leaf_hop rs u

pub record Folds (rs ss : Routes) (q p : Bits) : Type 0 where
  pub no_leaf : Leaf rs q → ⊥
  pub is_leaf : Leaf ss q
  pub leaves : (u : Bits) → Leaf ss u ↔ ∥ ((Leaf rs u × (Mem u (twigs q p) → ⊥)) ⊎ (u ≡ q)) ∥₁
  pub painted : leaf_hop ss q ≡ leaf_hop ss p
  pub beside : (u : Bits) → Mem u (twigs q p) → (u ≢ p) → leaf_hop ss q ≡ leaf_hop rs u
  pub stays : (u : Bits) → Leaf rs u → (Mem u (twigs q p) → ⊥) → leaf_hop ss u ≡ leaf_hop rs u

pub record HopLaws : Type 0 where
  -- a row is a node of the tree, or lies strictly below one of its leaves
  pub node_or_below : (rs : Routes) (p : Bits) → (has_node (pushed rs) p ≡ true) ⊎ ((q : Bits) × Leaf rs q × (above q p ≡ true))
  -- the leaves that the route of a node p decides, in words: those below p that no route longer than p is a beginning of
  pub reach_is : (rs : Routes) (p : Bits) → has_node (pushed rs) p ≡ true → (u : Bits)
      → Mem u (reach rs p) ↔ (Leaf rs u × (begins p u ≡ true) × ((r : Route) → Mem r rs → begins r.at u ≡ true → length r.at ≤ length p))
  -- what a leaf q gives way to, in words: p, and the sibling of each node on the way from q to p
  pub twigs_are : (q p : Bits) → begins q p ≡ true → (u : Bits) → Mem u (twigs q p) ↔ ∥ ((u ≡ p) ⊎ BesideWay q p u) ∥₁
  -- a new route at a node, or a standing route's new hop
  pub enters_node : (rs : Routes) (p : Bits) (h : ℕ) → has_node (pushed rs) p ≡ true → Repaints rs (entered rs p h) p (Some h)
  pub rehops : (rs : Routes) (p : Bits) (h : ℕ) → stands rs p ≡ true → Repaints rs (entered rs p h) p (Some h)
  -- a new route below a leaf
  pub enters_below : (rs : Routes) (q p : Bits) (h : ℕ) → Leaf rs q → above q p ≡ true → Splits rs (entered rs p h) q p (Some h)
  -- a route struck: its leaves take the hop of the next shorter route, if there is one, and none else
  pub strikes_node : (rs : Routes) (p : Bits) → stands rs p ≡ true → has_node (pushed (struck rs p)) p ≡ true → Repaints rs (struck rs p) p (leaf_hop (struck rs p) p)
  pub strikes_below : (rs : Routes) (q p : Bits) → stands rs p ≡ true → Leaf (struck rs p) q → above q p ≡ true → Folds rs (struck rs p) q p
