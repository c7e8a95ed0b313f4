-- What a call does to the pushed tree: an entered prefix grows it, a struck one prunes it. Assumes nothing.
use Rattle.std.proofs.Common.{◌≡◌, ℕ, Bool, true, false, not, ◌&&◌, ◌||◌, [], ◌∷◌, ◌++◌, sym, refl, ap, ◌∙◌, ap₂, arith}
use Rattle.bits.specs.Lists.{any}
use Rattle.bits.specs.Rows.{Bits, same}
use Rattle.tree.specs.Tree.{Routes, Shape, leaf, fork, above, branching, forks_at, has_node, shape_at, grown, pushed}
use Rattle.tree.specs.Ledger.{stands, struck, entered}
use Rattle.tree.specs.Changes.{below, folded, pruned}
use Rattle.bits.proofs.Tests.{same_is, any_like, any_only, any_fewer, any_or}
use Rattle.tree.proofs.Above.{over, above_is, branching_is}
use Rattle.tree.proofs.Pushed.{one_tree, forks_grown, pushed_is}
use Rattle.tree.proofs.Prefixes.{pushed_by_prefixes, restored}
use Rattle.tree.proofs.Nodes.{shape_by_forks, beside_below, grown_node, node_grown}

-- a node that is not over p branches after p is struck as it did before
pub beside : (rs : Routes) (p q : Bits) → over q p ≡ false → branching (struck rs p) q ≡ branching rs q
beside rs p q h = branching_is (struck rs p) q ∙ any_only _ _ rs ∙ any_like _ _ (λ r. each r.at) rs ∙ sym (branching_is rs q)
  where
    each : (a : Bits) → (not (same a p) && over q a) ≡ over q a
    each a = let e = same_is a p in grind arith

-- to enter a route of p grows the tree to p
pub entering : (rs : Routes) (p : Bits) (h : ℕ) → pushed (entered rs p h) ≡ grown p (pushed rs)
entering rs p h = one_tree _ _ (λ q.
    let before = forks_grown p (pushed rs) q in
    let after = forks_grown p (pushed (struck rs p)) q in
    let e = beside rs p q in
    grind (arith, pushed_is rs q, pushed_is (struck rs p) q))

-- a node branches where a child of its has a route or branches
pub children : (rs : Routes) (q : Bits) → branching rs q ≡ ((stands rs (q ++ (false ∷ [])) || branching rs (q ++ (false ∷ []))) || (stands rs (q ++ (true ∷ [])) || branching rs (q ++ (true ∷ []))))
children rs q = branching_is rs q ∙ any_like _ _ (λ r. each q r.at) rs ∙ any_or _ _ rs ∙ ap₂ ◌||◌ (side false) (side true)
  where
    each : (q a : Bits) → over q a ≡ ((same a (q ++ (false ∷ [])) || over (q ++ (false ∷ [])) a) || (same a (q ++ (true ∷ [])) || over (q ++ (true ∷ [])) a))
    each [] [] = refl
    each (b ∷ q) [] = refl
    each [] (b ∷ []) = grind arith
    each [] (b ∷ c ∷ a) = grind arith
    each (b ∷ q) (c ∷ a) = let ih = each q a in grind arith

    side : (b : Bool) → any (λ r. same r.at (q ++ (b ∷ [])) || over (q ++ (b ∷ [])) r.at) rs ≡ (stands rs (q ++ (b ∷ [])) || branching rs (q ++ (b ∷ [])))
    side b = any_or _ _ rs ∙ ap (λ x. stands rs (q ++ (b ∷ [])) || x) (sym (branching_is rs _))

-- where a folded fork branches, by where its sides do
folds : (is : Bits → Bool) (x y : Bool) (a b : Shape) → ((q : Bits) → forks_at a q ≡ is (false ∷ q)) → ((q : Bits) → forks_at b q ≡ is (true ∷ q))
    → is [] ≡ ((x || is (false ∷ [])) || (y || is (true ∷ []))) → (q : Bits) → forks_at (folded (x || y) a b) q ≡ is q
folds is x y a b ha hb here [] = grind (arith, ha [], hb [])
folds is x y a b ha hb here (c ∷ q) = grind (arith, ha q, hb q)

-- where the tree branches before and after p is struck, `was` and `is`, and which nodes have a route after it, `own`
record Strike (own was is : Bits → Bool) (p : Bits) : Type 0 where
  fewer : (q : Bits) → was q ≡ false → is q ≡ false
  beside : (q : Bits) → over q p ≡ false → was q ≡ is q
  held_up : (q : Bits) → is q ≡ ((own (q ++ (false ∷ [])) || is (q ++ (false ∷ []))) || (own (q ++ (true ∷ [])) || is (q ++ (true ∷ []))))

-- the same, seen from the child on the way to p
under : (b : Bool) (own was is : Bits → Bool) (p : Bits) → Strike own was is (b ∷ p) → Strike (below b own) (below b was) (below b is) p
under b own was is p s = record { fewer = λ q. s.fewer (b ∷ q); beside = λ q e. s.beside (b ∷ q) (grind arith); held_up = λ q. s.held_up (b ∷ q) }

forks_pruned : (own was is : Bits → Bool) (t : Shape) (p : Bits) → Strike own was is p → ((q : Bits) → forks_at t q ≡ was q) → (q : Bits) → forks_at (pruned own t p) q ≡ is q
forks_pruned own was is t [] s h = λ q. h q ∙ s.beside q refl
forks_pruned own was is leaf (c ∷ p) s h = λ q. sym (s.fewer q (sym (h q)))
forks_pruned own was is (fork a b) (false ∷ p) s h =
    folds is _ _ (pruned (below false own) a p) b
    (forks_pruned (below false own) (below false was) (below false is) a p (under false own was is p s) (λ k. h (false ∷ k)))
    (λ k. h (true ∷ k) ∙ s.beside (true ∷ k) refl) (s.held_up [])
forks_pruned own was is (fork a b) (true ∷ p) s h =
    folds is _ _ a (pruned (below true own) b p)
    (λ k. h (false ∷ k) ∙ s.beside (false ∷ k) refl)
    (forks_pruned (below true own) (below true was) (below true is) b p (under true own was is p s) (λ k. h (true ∷ k))) (s.held_up [])

-- to strike the routes of p prunes the tree on the way to p
pub striking : (rs : Routes) (p : Bits) → pushed (struck rs p) ≡ pruned (stands (struck rs p)) (pushed rs) p
striking rs p = one_tree _ _ (λ q. pushed_is (struck rs p) q ∙ sym (forks_pruned _ (branching rs) (branching (struck rs p)) (pushed rs) p strike (pushed_is rs) q))
  where
    strike : Strike (stands (struck rs p)) (branching rs) (branching (struck rs p)) p
    strike = record { fewer = λ q. any_fewer _ _ rs; beside = λ q e. sym (beside rs p q e); held_up = children (struck rs p) }

-- a node that is not above p branches after p is entered as it did before
pub entering_forks : (rs : Routes) (p : Bits) (h : ℕ) (q : Bits) → branching (entered rs p h) q ≡ (above q p || branching rs q)
entering_forks rs p h q = let e = beside rs p q in let a = above_is q p in grind arith

module _ (rs ss : Routes) (p : Bits) (same_forks : (q : Bits) → over q p ≡ false → branching ss q ≡ branching rs q) where
  -- so it keeps the whole tree below it
  pub keeps_below : (q : Bits) → above q p ≡ false → (branching ss q ≡ branching rs q) × (shape_at (pushed ss) q ≡ shape_at (pushed rs) q)
  keeps_below q h =
      let k = sym (above_is q p) ∙ h in
      (same_forks q k, shape_by_forks _ _ q (λ v. pushed_is ss (q ++ v) ∙ same_forks (q ++ v) (beside_below q v p k) ∙ sym (pushed_is rs (q ++ v))))

pub entering_beside : (rs : Routes) (p : Bits) (h : ℕ) (q : Bits) → above q p ≡ false
    → (branching (entered rs p h) q ≡ branching rs q) × (shape_at (pushed (entered rs p h)) q ≡ shape_at (pushed rs) q)
entering_beside rs p h = keeps_below rs (entered rs p h) p (λ q k. entering_forks rs p h q ∙ let a = above_is q p in grind arith)

pub striking_beside : (rs : Routes) (p : Bits) (q : Bits) → above q p ≡ false
    → (branching (struck rs p) q ≡ branching rs q) × (shape_at (pushed (struck rs p)) q ≡ shape_at (pushed rs) q)
striking_beside rs p = keeps_below rs (struck rs p) p (beside rs p)

-- to strike a standing route undoes its entering
pub undoing : (rs : Routes) (p : Bits) → stands rs p ≡ true → grown p (pushed (struck rs p)) ≡ pushed rs
undoing rs p s = pushed_by_prefixes (record { at = p; hop = 0 } ∷ struck rs p) rs (restored rs p 0 s)

pub entering_node : (rs : Routes) (p : Bits) (h : ℕ) → has_node (pushed rs) p ≡ true → pushed (entered rs p h) ≡ pushed rs
entering_node rs p h n = entering rs p h ∙ grown_node p (pushed rs) n

pub standing_node : (rs : Routes) (p : Bits) → stands rs p ≡ true → has_node (pushed rs) p ≡ true
standing_node rs p s = ap (λ t. has_node t p) (sym (undoing rs p s)) ∙ node_grown p (pushed (struck rs p))
