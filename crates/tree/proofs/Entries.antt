-- What a change does to the leaf store, row by row. Assumes nothing.
use Rattle.std.proofs.Common.{◌≡◌, ℕ, Bool, true, false, cond, ◌↔◌, [], None, Option, sym, refl, ◌∙◌, inl, inr}
use mathlib.Core.Logic.{∥∥₁_elim}
use mathlib.Core.HLevel.{⊥_prop}
use mathlib.Core.List.{Mem}
use mathlib.Core.Bool.{Bool-set}
use Rattle.std.proofs.lemmas.Bool.{cases_Bool, both_ways}
use Rattle.bits.specs.Lists.{any}
use Rattle.bits.specs.Rows.{Bits, same}
use Rattle.tree.specs.Tree.{Routes, pushed, leaves}
use Rattle.tree.specs.Changes.{reach, twigs}
use Rattle.tree.specs.HopLaws.{leaf_hop, Leaf, Repaints, Splits, Folds}
use Rattle.tree.specs.StoreLaws.{leaf_entry}
use Rattle.bits.proofs.Tests.{never, same_is}
use Rattle.bits.proofs.Members.{has_row, same_self}

-- the entry of a leaf, and of what is none
pub entry_leaf : (rs : Routes) (u : Bits) → Leaf rs u → leaf_entry rs u ≡ leaf_hop rs u
entry_leaf rs u l = let h = (has_row u _).0 l in rw h

pub entry_none : (rs : Routes) (u : Bits) → (Leaf rs u → ⊥) → leaf_entry rs u ≡ None
entry_none rs u n = let h : any (same u) (leaves (pushed rs) []) ≡ false = never _ (λ k. n ((has_row u _).1 k)) in rw h

-- a row that is a leaf of both with one hop, or of neither
entry_same : (rs ss : Routes) (u : Bits) → (Leaf rs u → Leaf ss u) → (Leaf ss u → Leaf rs u) → (Leaf rs u → leaf_hop ss u ≡ leaf_hop rs u) → leaf_entry ss u ≡ leaf_entry rs u
entry_same rs ss u there back hops = elim (cases_Bool (any (same u) (leaves (pushed rs) []))) [
  | inl k ↦ (let l = (has_row u _).1 k in entry_leaf ss u (there l) ∙ hops l ∙ sym (entry_leaf rs u l))
  | inr k ↦ (let n : Leaf rs u → ⊥ = λ l. both_ways _ k ((has_row u _).0 l) in entry_none ss u (λ l. n (back l)) ∙ sym (entry_none rs u n))
]

-- by a test of rows: what it says where it holds, and where it does not
by_test : (b : Bool) (x y z : Option ℕ) → (b ≡ true → x ≡ y) → (b ≡ false → x ≡ z) → x ≡ cond b y z
by_test true x y z f g = f refl
by_test false x y z f g = g refl

differ : (u p : Bits) → same u p ≡ false → u ≡ p → ⊥
differ u p n e = both_ways _ n (rw e (same_self p))

pub repainted : (rs ss : Routes) (p : Bits) (o : Option ℕ) → Repaints rs ss p o → (u : Bits) → leaf_entry ss u ≡ cond (any (same u) (reach rs p)) o (leaf_entry rs u)
repainted rs ss p o change u = by_test (any (same u) (reach rs p)) _ _ _
    (λ k. let m = (has_row u _).1 k in entry_leaf ss u (moved.0 (change.leaf u m)) ∙ change.painted u m)
    (λ k. entry_same rs ss u moved.0 moved.1 (λ l. change.stays u l (λ m. both_ways _ k ((has_row u _).0 m))))
  where
    moved : Leaf rs u ↔ Leaf ss u
    moved = (λ l. rw change.tree l, λ l. rw (← change.tree) l)

pub split_entries : (rs ss : Routes) (q p : Bits) (o : Option ℕ) → Splits rs ss q p o → (u : Bits)
    → leaf_entry ss u ≡ cond (same u p) o (cond (any (same u) (twigs q p)) (leaf_entry rs q) (cond (same u q) None (leaf_entry rs u)))
split_entries rs ss q p o change u =
    by_test (same u p) _ _ _
    (λ k. rw (same_is u p k) (entry_leaf ss p ((change.leaves p).1 ∣ inr change.new_leaf ∣₁) ∙ change.painted))
    (λ other. by_test (any (same u) (twigs q p)) _ _ _
    (λ k. let m = (has_row u _).1 k in entry_leaf ss u ((change.leaves u).1 ∣ inr m ∣₁) ∙ change.beside u m (differ u p other) ∙ sym (entry_leaf rs q change.was_leaf))
    (λ out. by_test (same u q) _ _ _
    (λ k. entry_none ss u (λ l. change.no_leaf (rw (same_is u q k) at l)))
    (λ far. entry_same rs ss u
    (λ l. (change.leaves u).1 ∣ inl (l, differ u q far) ∣₁)
    (λ l. (has_row u _).1 (∥∥₁_elim ((change.leaves u).0 l) (Bool-set _ _) (λ s. elim s [ inl x ↦ (has_row u _).0 x.0 | inr m ↦ absurd (both_ways _ out ((has_row u _).0 m)) ])))
    (λ l. change.stays u l (differ u q far)))))

pub fold_entries : (rs ss : Routes) (q p : Bits) → Folds rs ss q p → (u : Bits)
    → leaf_entry ss u ≡ cond (same u q) (leaf_hop ss p) (cond (any (same u) (twigs q p)) None (leaf_entry rs u))
fold_entries rs ss q p change u =
    by_test (same u q) _ _ _
    (λ k. rw (same_is u q k) (entry_leaf ss q change.is_leaf ∙ change.painted))
    (λ other. by_test (any (same u) (twigs q p)) _ _ _
    (λ k. entry_none ss u (λ l. ∥∥₁_elim ((change.leaves u).0 l) ⊥_prop (λ s. elim s [ inl x ↦ x.1 ((has_row u _).1 k) | inr e ↦ differ u q other e ])))
    (λ out. let far : Mem u (twigs q p) → ⊥ = λ m. both_ways _ out ((has_row u _).0 m) in entry_same rs ss u
    (λ l. (change.leaves u).1 ∣ inl (l, far) ∣₁)
    (λ l. (has_row u _).1 (∥∥₁_elim ((change.leaves u).0 l) (Bool-set _ _) (λ s. elim s [ inl x ↦ (has_row u _).0 x.0 | inr e ↦ absurd (differ u q other e) ])))
    (λ l. change.stays u l far)))
