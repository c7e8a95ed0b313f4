-- The nodes of a tree, the trees below them, and the leaves and shapes in their words. Assumes nothing.
use Rattle.std.proofs.Common.{◌≡◌, ℕ, ◌≤◌, Bool, true, false, not, ◌&&◌, ◌↔◌, [], ◌∷◌, ◌++◌, length, sym, refl, ap, ◌∙◌, inl, inr, arith}
use mathlib.Core.Logic.{∥∥₁_elim, ∥∥₁_map}
use mathlib.Core.List.Memᴰ
use mathlib.Core.List.{Mem, Mem-prop, Memᴰ, mem-cons_self, mem-cons_of_mem, mem-append_left, mem-append_right}
use mathlib.Core.Bool.{Bool-set}
use Rattle.std.proofs.lemmas.Bool.{true≢false}
use Rattle.bits.specs.Rows.{Bits}
use Rattle.tree.specs.Tree.{Routes, Shape, leaf, fork, branching, forks_at, has_node, shape_at, grown, pushed, leaves, shapes}
use Rattle.tree.specs.TreeLaws.{Held}
use Rattle.tree.specs.LeafLaws.{AtMost}
use Rattle.tree.proofs.Above.{over}
use Rattle.tree.proofs.Pushed.{pushed_is, one_tree}
use Rattle.tree.proofs.Leaves.{ends_at, leaf_ends, depth, depth_pushed}

pub child_node : (t : Shape) (q : Bits) (b : Bool) → has_node t (q ++ (b ∷ [])) ≡ forks_at t q
child_node leaf [] b = refl
child_node leaf (c ∷ q) b = refl
child_node (fork l r) [] true = refl
child_node (fork l r) [] false = refl
child_node (fork l r) (true ∷ q) b = child_node r q b
child_node (fork l r) (false ∷ q) b = child_node l q b

-- a row's last bit
last : (c : Bool) (q : Bits) → (u : Bits) × (b : Bool) × (c ∷ q ≡ u ++ (b ∷ []))
last c [] = ([], c, refl)
last c (d ∷ q) = let (u, b, e) = last d q in (c ∷ u, b, ap (λ k. c ∷ k) e)

pub nodes : (rs : Routes) (q : Bits) → (has_node (pushed rs) q ≡ true) ↔ ∥ Held rs q ∥₁
nodes rs q = (λ h. ∣ forth q h ∣₁, λ h. ∥∥₁_elim h (Bool-set _ _) (back q))
  where
    forth : (q : Bits) → has_node (pushed rs) q ≡ true → Held rs q
    forth [] h = inl refl
    forth (c ∷ q) h = let (u, b, e) = last c q in inr (u, b, sym (pushed_is rs u) ∙ sym (child_node (pushed rs) u b) ∙ ap (has_node (pushed rs)) (sym e) ∙ h, e)

    back : (q : Bits) → Held rs q → has_node (pushed rs) q ≡ true
    back q (inl e) = rw e
    back q (inr (u, b, h, e)) = ap (has_node (pushed rs)) e ∙ child_node (pushed rs) u b ∙ pushed_is rs u ∙ h

node_depth : (t : Shape) (q : Bits) → has_node t q ≡ true → length q ≤ depth t
node_depth t [] h = omega arith
node_depth leaf (c ∷ q) h = absurd (true≢false (sym h))
node_depth (fork l r) (true ∷ q) h = omega (arith, node_depth r q h)
node_depth (fork l r) (false ∷ q) h = omega (arith, node_depth l q h)

pub nodes_short : (W : ℕ) (rs : Routes) (q : Bits) → AtMost W rs → has_node (pushed rs) q ≡ true → length q ≤ W
nodes_short W rs q short h = omega (arith, node_depth (pushed rs) q h, depth_pushed rs W short)

pub ends_is : (t : Shape) (q : Bits) → ends_at t q ≡ (has_node t q && not (forks_at t q))
ends_is leaf [] = refl
ends_is leaf (c ∷ q) = refl
ends_is (fork l r) [] = refl
ends_is (fork l r) (true ∷ q) = ends_is r q
ends_is (fork l r) (false ∷ q) = ends_is l q

pub leaf_nodes : (rs : Routes) (q : Bits) → Mem q (leaves (pushed rs) []) ↔ ((has_node (pushed rs) q ≡ true) × (branching rs q ≡ false))
leaf_nodes rs q =
    let is = ends_is (pushed rs) q in
    let forks = pushed_is rs q in (
      λ m. (let e = (leaf_ends (pushed rs) q).0 m in (grind arith, grind arith)),
      λ h. (leaf_ends (pushed rs) q).1 (let a = h.0 in let b = h.1 in grind arith),
    )

-- each branching node's shape is listed
shape_listed : (t : Shape) (q : Bits) → forks_at t q ≡ true → Mem (shape_at t q) (shapes t)
shape_listed leaf q h = absurd (true≢false (sym h))
shape_listed (fork l r) [] h = mem-cons_self
shape_listed (fork l r) (false ∷ q) h = mem-cons_of_mem _ (mem-append_left _ (shape_listed l q h))
shape_listed (fork l r) (true ∷ q) h = mem-cons_of_mem _ (mem-append_right _ (shape_listed r q h))

listed_shape : (t s : Shape) → Memᴰ s (shapes t) → (q : Bits) × (forks_at t q ≡ true) × (shape_at t q ≡ s)
listed_shape leaf s m = absurd (Memᴰ.not-nil m)
listed_shape (fork l r) s (Memᴰ.head e) = ([], refl, sym e)
listed_shape (fork l r) s (Memᴰ.tail m) =
    elim (Memᴰ.append_cases (shapes l) m) [
      | inl k ↦ (let (q, h, e) = listed_shape l s k in (false ∷ q, h, e))
      | inr k ↦ (let (q, h, e) = listed_shape r s k in (true ∷ q, h, e))
    ]

pub shapes_are : (t s : Shape) → Mem s (shapes t) ↔ ∥ ((q : Bits) × (forks_at t q ≡ true) × (shape_at t q ≡ s)) ∥₁
shapes_are t s = (λ m. ∥∥₁_map m (listed_shape t s), λ h. ∥∥₁_elim h Mem-prop (λ (q, f, e). rw (← e) (shape_listed t q f)))

pub branching_shapes : (rs : Routes) (s : Shape) → Mem s (shapes (pushed rs)) ↔ ∥ ((q : Bits) × (branching rs q ≡ true) × (shape_at (pushed rs) q ≡ s)) ∥₁
branching_shapes rs s = (
  λ m. ∥∥₁_map ((shapes_are (pushed rs) s).0 m) (λ (q, f, e). (q, sym (pushed_is rs q) ∙ f, e)),
  λ h. (shapes_are (pushed rs) s).1 (∥∥₁_map h (λ (q, f, e). (q, pushed_is rs q ∙ f, e))),
)

-- the tree below a node branches where the whole does
pub forks_below : (t : Shape) (u v : Bits) → forks_at (shape_at t u) v ≡ forks_at t (u ++ v)
forks_below t [] v = refl
forks_below leaf (c ∷ u) v = refl
forks_below (fork l r) (true ∷ u) v = forks_below r u v
forks_below (fork l r) (false ∷ u) v = forks_below l u v

pub shape_below : (rs : Routes) (q v : Bits) → forks_at (shape_at (pushed rs) q) v ≡ branching rs (q ++ v)
shape_below rs q v = forks_below (pushed rs) q v ∙ pushed_is rs (q ++ v)

pub shape_by_forks : (t t' : Shape) (u : Bits) → ((v : Bits) → forks_at t (u ++ v) ≡ forks_at t' (u ++ v)) → shape_at t u ≡ shape_at t' u
shape_by_forks t t' u h = one_tree _ _ (λ v. forks_below t u v ∙ h v ∙ sym (forks_below t' u v))

-- what is not above p has nothing above p below it
pub beside_below : (u v p : Bits) → over u p ≡ false → over (u ++ v) p ≡ false
beside_below u v [] h = refl
beside_below [] v (c ∷ p) h = absurd (true≢false h)
beside_below (b ∷ u) v (c ∷ p) h = let ih = beside_below u v p in grind arith

pub grown_node : (p : Bits) (t : Shape) → has_node t p ≡ true → grown p t ≡ t
grown_node [] t h = refl
grown_node (b ∷ p) leaf h = absurd (true≢false (sym h))
grown_node (true ∷ p) (fork l r) h = ap (λ k. fork l k) (grown_node p r h)
grown_node (false ∷ p) (fork l r) h = ap (λ k. fork k r) (grown_node p l h)

pub node_grown : (p : Bits) (t : Shape) → has_node (grown p t) p ≡ true
node_grown [] t = refl
node_grown (true ∷ p) leaf = node_grown p leaf
node_grown (false ∷ p) leaf = node_grown p leaf
node_grown (true ∷ p) (fork l r) = node_grown p r
node_grown (false ∷ p) (fork l r) = node_grown p l
