-- The shapes on the path to a prefix: what a change brings lies on it. Assumes nothing.
use Rattle.std.proofs.Common.{◌≡◌, ℕ, suc, ◌+◌, ◌≤◌, Bool, true, false, cond, not, ◌||◌, ◌↔◌, List, [], ◌∷◌, ◌++◌, length, sym, refl, ◌∙◌, arith}
use mathlib.Core.Logic.{∥∥₁_elim, ∥∥₁_map}
use mathlib.Core.List.Memᴰ
use mathlib.Core.List.{Mem, Mem-prop, Memᴰ, mem-cons_self, mem-cons_of_mem}
use Rattle.std.proofs.lemmas.Bool.{true≢false}
use Rattle.bits.specs.Lists.{any, different}
use Rattle.bits.specs.Rows.{Bits}
use Rattle.tree.specs.Tree.{Routes, Shape, leaf, fork, above, alike, forks_at, shape_at, grown, pushed, shapes}
use Rattle.tree.specs.Ledger.{stands, entered, vertices, new_shapes, together}
use Rattle.tree.specs.Changes.{on_path}
use Rattle.tree.specs.ShapeLaws.{Changed, by_entering, by_striking, brought}
use Rattle.bits.proofs.Tests.{never}
use Rattle.bits.proofs.Members.{any_join, has_member}
use Rattle.bits.proofs.Sets.{any_only, different_by_members, different_mono, different_append}
use Rattle.tree.proofs.Above.{over, above_is}
use Rattle.tree.proofs.Shapes.{alike_equality}
use Rattle.tree.proofs.Changes.{entering_beside, striking_beside}
use Rattle.tree.proofs.Prefixes.{pushed_by_prefixes, rehopped}

path_node : (t : Shape) (p q : Bits) → over q p ≡ true → forks_at t q ≡ true → Mem (shape_at t q) (on_path t p)
path_node t [] q a f = absurd (true≢false (sym a))
path_node leaf (c ∷ p) q a f = absurd (true≢false (sym f))
path_node (fork l r) (false ∷ p) [] a f = mem-cons_self
path_node (fork l r) (true ∷ p) [] a f = mem-cons_self
path_node (fork l r) (false ∷ p) (false ∷ q) a f = mem-cons_of_mem _ (path_node l p q a f)
path_node (fork l r) (true ∷ p) (true ∷ q) a f = mem-cons_of_mem _ (path_node r p q a f)
path_node (fork l r) (false ∷ p) (true ∷ q) a f = absurd (true≢false (sym a))
path_node (fork l r) (true ∷ p) (false ∷ q) a f = absurd (true≢false (sym a))

node_path : (t : Shape) (p : Bits) (s : Shape) → Memᴰ s (on_path t p) → (q : Bits) × (over q p ≡ true) × (forks_at t q ≡ true) × (shape_at t q ≡ s)
node_path t [] s m = absurd (Memᴰ.not-nil m)
node_path leaf (c ∷ p) s m = absurd (Memᴰ.not-nil m)
node_path (fork l r) (false ∷ p) s (Memᴰ.head e) = ([], refl, refl, sym e)
node_path (fork l r) (false ∷ p) s (Memᴰ.tail m) = let (q, a, f, e) = node_path l p s m in (false ∷ q, a, f, e)
node_path (fork l r) (true ∷ p) s (Memᴰ.head e) = ([], refl, refl, sym e)
node_path (fork l r) (true ∷ p) s (Memᴰ.tail m) = let (q, a, f, e) = node_path r p s m in (true ∷ q, a, f, e)

pub on_path_is : (t : Shape) (p : Bits) (s : Shape) → Mem s (on_path t p) ↔ ∥ ((q : Bits) × (above q p ≡ true) × (forks_at t q ≡ true) × (shape_at t q ≡ s)) ∥₁
on_path_is t p s = (
  λ m. ∥∥₁_map m (λ d. let (q, a, f, e) = node_path t p s d in (q, above_is q p ∙ a, f, e)),
  λ h. ∥∥₁_elim h Mem-prop (λ (q, a, f, e). rw (← e) (path_node t p q (sym (above_is q p) ∙ a) f)),
)

pub on_path_length : (t : Shape) (p : Bits) → length (on_path t p) ≤ length p
on_path_length t [] = omega arith
on_path_length leaf (c ∷ p) = omega arith
on_path_length (fork l r) (false ∷ p) = let ih = on_path_length l p in omega arith
on_path_length (fork l r) (true ∷ p) = let ih = on_path_length r p in omega arith

-- whether the tree has the shape
abbrev has : Shape → Shape → Bool
has s t = any (alike s) (shapes t)

has_fork : (s a b : Shape) → has s (fork a b) ≡ (alike s (fork a b) || (has s a || has s b))
has_fork s a b = let j = any_join (alike s) (shapes a) (shapes b) in grind arith

pub path_within : (s t : Shape) (p : Bits) → any (alike s) (on_path t p) ≡ true → has s t ≡ true
path_within s t [] h = absurd (true≢false (sym h))
path_within s leaf (c ∷ p) h = absurd (true≢false (sym h))
path_within s (fork a b) (false ∷ p) h = let ih = path_within s a p in let j = has_fork s a b in grind arith
path_within s (fork a b) (true ∷ p) h = let ih = path_within s b p in let j = has_fork s a b in grind arith

-- the trees t and u are one beside the way to p
abbrev pub OneBeside : Shape → Shape → Bits → Type 0
OneBeside t u p = (q : Bits) → over q p ≡ false → shape_at u q ≡ shape_at t q

nothing_below : (q : Bits) → shape_at leaf q ≡ leaf
nothing_below [] = refl
nothing_below (c ∷ q) = refl

-- so what u has and t has not is on the way
pub on_the_way : (p : Bits) (t u : Shape) → OneBeside t u p → (s : Shape) → has s u ≡ true → (has s t || any (alike s) (on_path u p)) ≡ true
on_the_way [] t u one s h = let e : u ≡ t = one [] refl in grind arith
on_the_way (c ∷ p) t leaf one s h = absurd (true≢false (sym h))
on_the_way (false ∷ p) leaf (fork a b) one s h =
    let off : b ≡ leaf = one (true ∷ []) refl in
    let ih = on_the_way p leaf a (λ q k. one (false ∷ q) k ∙ sym (nothing_below q)) s in
    let j = has_fork s a b in
    let none : has s b ≡ false = rw off in
    grind arith
on_the_way (true ∷ p) leaf (fork a b) one s h =
    let off : a ≡ leaf = one (false ∷ []) refl in
    let ih = on_the_way p leaf b (λ q k. one (true ∷ q) k ∙ sym (nothing_below q)) s in
    let j = has_fork s a b in
    let none : has s a ≡ false = rw off in
    grind arith
on_the_way (false ∷ p) (fork c d) (fork a b) one s h =
    let off : b ≡ d = one (true ∷ []) refl in
    let ih = on_the_way p c a (λ q k. one (false ∷ q) k) s in
    let j = has_fork s a b in
    let k = has_fork s c d in
    let stays : has s b ≡ has s d = rw off in
    grind arith
on_the_way (true ∷ p) (fork c d) (fork a b) one s h =
    let off : a ≡ c = one (false ∷ []) refl in
    let ih = on_the_way p d b (λ q k. one (true ∷ q) k) s in
    let j = has_fork s a b in
    let k = has_fork s c d in
    let stays : has s a ≡ has s c = rw off in
    grind arith

changed_beside : (rs ss : Routes) (p : Bits) → Changed rs p ss → OneBeside (pushed rs) (pushed ss) p
changed_beside rs ss p (by_entering h) q k = (entering_beside rs p h q (above_is q p ∙ k)).1
changed_beside rs ss p by_striking q k = (striking_beside rs p q (above_is q p ∙ k)).1

module _ (rs ss : Routes) (p : Bits) (change : Changed rs p ss) where
  way : (s : Shape) → has s (pushed ss) ≡ true → (has s (pushed rs) || any (alike s) (on_path (pushed ss) p)) ≡ true
  way = on_the_way p (pushed rs) (pushed ss) (changed_beside rs ss p change)

  pub only_on_path : (s : Shape) → Mem s (shapes (pushed ss)) → (Mem s (shapes (pushed rs)) → ⊥) → Mem s (on_path (pushed ss) p)
  only_on_path s there before =
      let w = way s ((has_member alike_equality s _).0 there) in
      let n : has s (pushed rs) ≡ false = never _ (λ h. before ((has_member alike_equality s _).1 h)) in
      (has_member alike_equality s _).1 (grind arith)

  abbrev new : Shape → Bool
  new s = not (has s (pushed rs))

  pub new_on_path : new_shapes rs ss ≡ different alike (brought rs ss p)
  new_on_path = different_by_members alike_equality _ _
      (λ s h. let a = any_only alike_equality new s (shapes (pushed ss)) in let b = any_only alike_equality new s (on_path (pushed ss) p) in let w = way s in grind arith)
      (λ s h. let a = any_only alike_equality new s (shapes (pushed ss)) in let b = any_only alike_equality new s (on_path (pushed ss) p) in let w = path_within s (pushed ss) p in grind arith)

  pub together_by_path : together rs ss ≡ different alike (on_path (pushed ss) p ++ shapes (pushed rs))
  together_by_path = different_by_members alike_equality _ _
      (λ s h. let a = any_join (alike s) (shapes (pushed rs)) (shapes (pushed ss)) in let b = any_join (alike s) (on_path (pushed ss) p) (shapes (pushed rs)) in let w = way s in grind arith)
      (λ s h. let a = any_join (alike s) (shapes (pushed rs)) (shapes (pushed ss)) in let b = any_join (alike s) (on_path (pushed ss) p) (shapes (pushed rs)) in let w = path_within s (pushed ss) p in grind arith)

pub together_is : (rs ss : Routes) → together rs ss ≡ vertices rs + new_shapes rs ss
together_is rs ss = different_append alike_equality (shapes (pushed rs)) (shapes (pushed ss))

pub after_within : (rs ss : Routes) → vertices ss ≤ together rs ss
after_within rs ss = different_mono alike_equality _ _ (λ s h. let a = any_join (alike s) (shapes (pushed rs)) (shapes (pushed ss)) in grind arith)

-- lists of the same tree bring nothing
pub nothing_new : (rs ss : Routes) → pushed ss ≡ pushed rs → new_shapes rs ss ≡ 0
nothing_new rs ss e =
    let both : together rs ss ≡ vertices rs = rw e (different_by_members alike_equality _ _
    (λ s h. let a = any_join (alike s) (shapes (pushed rs)) (shapes (pushed rs)) in grind arith) (λ s h. let a = any_join (alike s) (shapes (pushed rs)) (shapes (pushed rs)) in grind arith)) in
    omega (arith, together_is rs ss)

pub rehopping : (rs : Routes) (p : Bits) (h : ℕ) → stands rs p ≡ true → new_shapes rs (entered rs p h) ≡ 0
rehopping rs p h s = nothing_new rs (entered rs p h) (pushed_by_prefixes (entered rs p h) rs (rehopped rs p h s))

pub one_step : (s : Shape) (ss : List Shape) → different alike (s ∷ ss) ≡ cond (any (alike s) ss) (different alike ss) (suc (different alike ss))
one_step s ss = grind arith

pub never_fewer : (ss ts : List Shape) → different alike ts ≤ different alike (ss ++ ts)
never_fewer ss ts = different_mono alike_equality _ _ (λ s h. let a = any_join (alike s) ss ts in grind arith)

-- the path of a grown tree is its top and the path below
pub path_step : (b : Bool) (p : Bits) (t : Shape) → on_path (grown (b ∷ p) t) (b ∷ p) ≡ grown (b ∷ p) t ∷ on_path (grown p (shape_at t (b ∷ []))) p
path_step true p leaf = refl
path_step false p leaf = refl
path_step true p (fork l r) = refl
path_step false p (fork l r) = refl
