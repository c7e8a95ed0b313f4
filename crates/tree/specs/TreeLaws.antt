-- The laws of the pushed tree: where it branches, which nodes it has, and what a change does to it. Assumes nothing.
--   Held rs q              the tree holds the node q: it is the root, or a child of a branching node
--   SamePrefixes rs ss    both lists have the same prefixes, in any order, any number of times, to any hops
use Rattle.std.specs.Prelude.{◌≡◌, ℕ, ◌≤◌, Bool, true, false, ◌||◌, ◌⊎◌, ◌↔◌, [], ◌∷◌, ◌++◌, length}
use mathlib.Core.List.{Mem}
use Rattle.bits.specs.Rows.{Bits}
use Rattle.tree.specs.Tree.{Routes, Shape, above, branching, forks_at, has_node, shape_at, Pushed, grown, pushed, leaves, shapes}
use Rattle.tree.specs.Ledger.{stands, struck, entered}
use Rattle.tree.specs.Changes.{pruned}
use Rattle.tree.specs.LeafLaws.{AtMost}

abbrev pub Held : Routes → Bits → Type 0
Held rs q = (q ≡ []) ⊎ ((u : Bits) × (b : Bool) × (branching rs u ≡ true) × (q ≡ u ++ (b ∷ [])))

abbrev pub SamePrefixes : Routes → Routes → Type 0
SamePrefixes rs ss = (p : Bits) → stands rs p ≡ stands ss p

pub record TreeLaws : Type 0 where
  -- the tree forks exactly where the routes branch, and only one tree does
  pub pushed_is : (rs : Routes) → Pushed rs (pushed rs)
  pub one_tree : (rs : Routes) (t : Shape) → Pushed rs t → t ≡ pushed rs
  -- its nodes are the root and both children of each branching node; the leaves are those that do not branch
  pub nodes : (rs : Routes) (q : Bits) → (has_node (pushed rs) q ≡ true) ↔ ∥ Held rs q ∥₁
  pub leaf_nodes : (rs : Routes) (q : Bits) → Mem q (leaves (pushed rs) []) ↔ ((has_node (pushed rs) q ≡ true) × (branching rs q ≡ false))
  pub nodes_short : (W : ℕ) (rs : Routes) (q : Bits) → AtMost W rs → has_node (pushed rs) q ≡ true → length q ≤ W
  -- a node's shape is the tree below it; the branching shapes are the shapes of the branching nodes
  pub shape_below : (rs : Routes) (q v : Bits) → forks_at (shape_at (pushed rs) q) v ≡ branching rs (q ++ v)
  pub branching_shapes : (rs : Routes) (s : Shape) → Mem s (shapes (pushed rs)) ↔ ∥ ((q : Bits) × (branching rs q ≡ true) × (shape_at (pushed rs) q ≡ s)) ∥₁
  -- neither order nor repetition nor hops make a difference
  pub by_prefixes : (rs ss : Routes) → SamePrefixes rs ss → pushed rs ≡ pushed ss

pub record ChangeLaws : Type 0 where
  -- to enter a route makes every node above its prefix branch, and no other
  pub entering : (rs : Routes) (p : Bits) (h : ℕ) → pushed (entered rs p h) ≡ grown p (pushed rs)
  pub entering_forks : (rs : Routes) (p : Bits) (h : ℕ) (q : Bits) → branching (entered rs p h) q ≡ (above q p || branching rs q)
  -- to strike one folds the tree back on the way up from its prefix
  pub striking : (rs : Routes) (p : Bits) → pushed (struck rs p) ≡ pruned (stands (struck rs p)) (pushed rs) p
  -- a node branches exactly when a child of it branches or has a route of its own
  pub children : (rs : Routes) (q : Bits) → branching rs q ≡ ((stands rs (q ++ (false ∷ [])) || branching rs (q ++ (false ∷ []))) || (stands rs (q ++ (true ∷ [])) || branching rs (q ++ (true ∷ []))))
  -- to strike a standing route undoes its entering
  pub undoing : (rs : Routes) (p : Bits) → stands rs p ≡ true → grown p (pushed (struck rs p)) ≡ pushed rs
  -- a node that is not above p branches as it did, and so keeps the whole tree below it
  pub entering_beside : (rs : Routes) (p : Bits) (h : ℕ) (q : Bits) → above q p ≡ false
      → (branching (entered rs p h) q ≡ branching rs q) × (shape_at (pushed (entered rs p h)) q ≡ shape_at (pushed rs) q)
  pub striking_beside : (rs : Routes) (p : Bits) (q : Bits) → above q p ≡ false
      → (branching (struck rs p) q ≡ branching rs q) × (shape_at (pushed (struck rs p)) q ≡ shape_at (pushed rs) q)
  -- the tree stays whole where p is a node of it already, so where a standing route gets a new hop
  pub entering_node : (rs : Routes) (p : Bits) (h : ℕ) → has_node (pushed rs) p ≡ true → pushed (entered rs p h) ≡ pushed rs
  pub standing_node : (rs : Routes) (p : Bits) → stands rs p ≡ true → has_node (pushed rs) p ≡ true
