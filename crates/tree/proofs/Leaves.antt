-- The leaves of a tree: which rows they are, that none occurs twice, and that each long row begins with one. Assumes nothing.
use Rattle.std.proofs.Common.{◌≡◌, ℕ, suc, ◌<◌, ◌≤◌, max, Bool, true, false, ◌↔◌, List, [], ◌∷◌, ◌++◌, map, length, refl, subst, ap₂, append_assoc, append-nil, arith}
use mathlib.Core.Logic.Or
use mathlib.Core.Logic.{∥∥₁_elim}
use mathlib.Core.List.Memᴰ
use mathlib.Core.List.{map-map, map-append, Mem, mem-cons_self, mem-cons_of_mem, mem-append, mem-append_left, mem-append_right, mem-map_of_mem, exists_of_mem-map, Nodup, Nodup-append}
use mathlib.Core.Bool.{false≢true, Bool-set}
use mathlib.Mathlib.Data.List.Nodup.{Nodup-singleton, Nodup-map_iff}
use Rattle.std.proofs.lemmas.Bool.{both_ways}
use Rattle.std.proofs.lemmas.Bool.Decides.{nat_tests}
use Rattle.bits.specs.Rows.{Bits, begins}
use Rattle.tree.specs.Tree.{Routes, Shape, leaf, fork, forks_at, grown, pushed, leaves}
use Rattle.tree.specs.LeafLaws.{LeafOf, AtMost}
use Rattle.tree.proofs.Above.{over, above_is}

-- the length of the longest leaf
abbrev pub depth : Shape → ℕ
depth leaf = 0
depth (fork a b) = suc (max (depth a) (depth b))

-- the node does not fork, and every node above it does
pub record IsLeaf (t : Shape) (q : Bits) : Type 0 where
  pub ends : forks_at t q ≡ false
  pub before : (p : Bits) → begins p q ≡ true → length p < length q → forks_at t p ≡ true

abbrev after : Bool → List Bits → List Bits
after b = map (λ w. b ∷ w)

-- the leaves' rows, seen from the top
abbrev ways : Shape → List Bits
ways leaf = [] ∷ []
ways (fork a b) = after false (ways a) ++ after true (ways b)

-- what holds of b ∷ w for each member w holds of each member of `after b`
of_after : (P : Bits → Type 0) → ((q : Bits) → IsProp (P q)) → (b : Bool) (l : List Bits) → ((w : Bits) → Mem w l → P (b ∷ w)) → (q : Bits) → Mem q (after b l) → P q
of_after P one b l h q m = ∥∥₁_elim (exists_of_mem-map {f = λ w. b ∷ w} m) (one q) (λ x. subst P x.2 (h x.0 x.1))

leaves_below : (t : Shape) (q : Bits) → leaves t q ≡ map (λ w. q ++ w) (ways t)
leaves_below leaf q = rw append-nil
leaves_below (fork a b) q = simp (leaves_below a, leaves_below b, map-append, map-map, append_assoc)

leaves_are : (t : Shape) → leaves t [] ≡ ways t
leaves_are leaf = refl
leaves_are (fork a b) = ap₂ ◌++◌ (leaves_below a (false ∷ [])) (leaves_below b (true ∷ []))

-- whether the row is a leaf's
abbrev pub ends_at : Shape → Bits → Bool
ends_at leaf [] = true
ends_at leaf (c ∷ q) = false
ends_at (fork a b) [] = false
ends_at (fork a b) (false ∷ q) = ends_at a q
ends_at (fork a b) (true ∷ q) = ends_at b q

way : (t : Shape) (q : Bits) → ends_at t q ≡ true → Mem q (ways t)
way leaf [] e = mem-cons_self
way leaf (c ∷ q) e = absurd (false≢true e)
way (fork a b) [] e = absurd (false≢true e)
way (fork a b) (false ∷ q) e = mem-append_left _ (mem-map_of_mem _ (way a q e))
way (fork a b) (true ∷ q) e = mem-append_right _ (mem-map_of_mem _ (way b q e))

way_ends : (t : Shape) (q : Bits) → Mem q (ways t) → ends_at t q ≡ true
way_ends leaf q m = ∥∥₁_elim m (Bool-set _ _) (λ d. rw (Memᴰ.eq_of_singleton d))
way_ends (fork a b) q m = Or.elim (Bool-set _ _) ((mem-append {s = after false (ways a)} {t = after true (ways b)}).0 m)
    (of_after (λ k. ends_at (fork a b) k ≡ true) (λ k. Bool-set _ _) false (ways a) (way_ends a) q)
    (of_after (λ k. ends_at (fork a b) k ≡ true) (λ k. Bool-set _ _) true (ways b) (way_ends b) q)

pub leaf_ends : (t : Shape) (q : Bits) → Mem q (leaves t []) ↔ (ends_at t q ≡ true)
leaf_ends t q = (λ m. way_ends t q (rw leaves_are at m), λ e. rw leaves_are (way t q e))

ends_forks : (t : Shape) (q : Bits) → ends_at t q ≡ true → forks_at t q ≡ false
ends_forks leaf q e = refl
ends_forks (fork a b) q e = let left = ends_forks a in let right = ends_forks b in grind arith

ends_over : (t : Shape) (q : Bits) → ends_at t q ≡ true → (p : Bits) → over p q ≡ true → forks_at t p ≡ true
ends_over leaf q e p h = grind arith
ends_over (fork a b) q e p h = let left = ends_over a in let right = ends_over b in grind arith

forks_ends : (t : Shape) (q : Bits) → forks_at t q ≡ false → ((p : Bits) → over p q ≡ true → forks_at t p ≡ true) → ends_at t q ≡ true
forks_ends leaf [] e h = refl
forks_ends leaf (c ∷ q) e h = h [] refl
forks_ends (fork a b) [] e h = grind arith
forks_ends (fork a b) (false ∷ q) e h = forks_ends a q e (λ p. h (false ∷ p))
forks_ends (fork a b) (true ∷ q) e h = forks_ends b q e (λ p. h (true ∷ p))

pub leaf_is : (t : Shape) (q : Bits) → Mem q (leaves t []) ↔ IsLeaf t q
leaf_is t q = (
  λ m. let e = (leaf_ends t q).0 m in record { ends = ends_forks t q e; before = λ p h l. ends_over t q e p (grind (arith, nat_tests, above_is p q)) },
  λ l. (leaf_ends t q).1 (forks_ends t q l.ends (λ p h. l.before p (grind (arith, above_is p q)) (grind (arith, nat_tests, above_is p q)))),
)

abbrev top : Bits → Bool
top [] = false
top (b ∷ q) = b

-- no leaf occurs twice
pub leaves_once : (t : Shape) → Nodup (leaves t [])
leaves_once t = rw leaves_are (go t)
  where
    first : (b : Bool) (l : List Bits) (q : Bits) → Mem q (after b l) → top q ≡ b
    first b l = of_after (λ k. top k ≡ b) (λ k. Bool-set _ _) b l (λ w m. refl)

    go : (t : Shape) → Nodup (ways t)
    go leaf = Nodup-singleton []
    go (fork a b) = (Nodup-append {l₁ = after false (ways a)}).1 ((Nodup-map_iff (λ v w e. cc)).1 (go a), (Nodup-map_iff (λ v w e. cc)).1 (go b), λ q m n. both_ways (top q) (first false (ways a) q m) (first true (ways b) q n))

-- the leaf that a long row begins with
abbrev pub down : Shape → Bits → Bits
down leaf a = []
down (fork l r) [] = []
down (fork l r) (false ∷ a) = false ∷ down l a
down (fork l r) (true ∷ a) = true ∷ down r a

down_ends : (t : Shape) (a : Bits) → depth t ≤ length a → ends_at t (down t a) ≡ true
down_ends leaf a h = refl
down_ends (fork l r) a h = let left = down_ends l in let right = down_ends r in grind arith

down_begins : (t : Shape) (a : Bits) → begins (down t a) a ≡ true
down_begins leaf a = refl
down_begins (fork l r) a = let left = down_begins l in let right = down_begins r in grind arith

down_only : (t : Shape) (a u : Bits) → ends_at t u ≡ true → begins u a ≡ true → u ≡ down t a
down_only leaf a u e h = grind arith
down_only (fork l r) a u e h = let left = down_only l in let right = down_only r in grind arith

-- every row that is long enough begins with exactly one leaf
pub one_leaf : (t : Shape) (a : Bits) → depth t ≤ length a → LeafOf t a (down t a)
one_leaf t a h = record {
  member = (leaf_ends t (down t a)).1 (down_ends t a h);
  front = down_begins t a;
  only_one = λ u m b. down_only t a u ((leaf_ends t u).0 m) b;
}

depth_grown : (p : Bits) (t : Shape) → depth (grown p t) ≡ max (length p) (depth t)
depth_grown [] t = omega arith
depth_grown (b ∷ p) t = let ih = depth_grown p in grind arith

-- rows as long as every route are long enough
pub depth_pushed : (rs : Routes) (n : ℕ) → AtMost n rs → depth (pushed rs) ≤ n
depth_pushed [] n h = omega arith
depth_pushed (r ∷ rs) n h = rw depth_grown (omega (arith, h r mem-cons_self, depth_pushed rs n (λ s m. h s (mem-cons_of_mem r m))))
