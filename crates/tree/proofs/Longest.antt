-- The longest match, in words. Assumes nothing.
use Rattle.std.proofs.Common.{◌≡◌, ℕ, ◌≤◌, Bool, true, false, cond, ltb, ◌↔◌, [], ◌∷◌, length, Some, None, Option, refl, subst, arith}
use mathlib.Core.HLevel.{Π_prop, ⊥_prop}
use mathlib.Core.List.{Mem, not-mem-nil, mem-cons_self, mem-cons_of_mem, forall_mem-cons}
use native.Mathlib.Bridge.{le_prop}
use Rattle.std.proofs.lemmas.Bool.{cond_both, both_ways, ltb-true, ltb-false}
use Rattle.bits.specs.Rows.{Bits, begins}
use Rattle.tree.specs.Tree.{Route, Routes, longer, longest}
use Rattle.tree.specs.LeafLaws.{Best, Unmatched}

abbrev pub Says : Routes → Bits → Option Route → Type 0
Says rs q None = Unmatched rs q
Says rs q (Some r) = Best rs q r

pub says : (rs : Routes) (q : Bits) → Says rs q (longest rs q)
says [] q = λ s m e. not-mem-nil m
says (r ∷ rs) q = go (begins r.at q) refl (longest rs q) (says rs q)
  where
    -- what holds of r and of each other member
    both : (n : ℕ) → (begins r.at q ≡ true → length r.at ≤ n) → ((s : Route) → Mem s rs → begins s.at q ≡ true → length s.at ≤ n)
        → (s : Route) → Mem s (r ∷ rs) → begins s.at q ≡ true → length s.at ≤ n
    both n h k = (forall_mem-cons (λ s. Π_prop (λ e. le_prop))).1 (h, k)

    go : (b : Bool) → begins r.at q ≡ b → (o : Option Route) → Says rs q o → Says (r ∷ rs) q (longer (cond b (Some r) None) o)
    go true e None k = record { member = mem-cons_self; front = e; most = both _ (λ x. omega arith) (λ s m x. absurd (k s m x)) }
    go true e (Some s) k =
        cond_both (ltb (length r.at) (length s.at)) (Some s) (Some r) (Says (r ∷ rs) q)
        (λ l. record { member = mem-cons_of_mem r k.member; front = k.front; most = both _ (λ x. omega (arith, ltb-true _ _ l)) k.most })
        (λ l. record { member = mem-cons_self; front = e; most = both _ (λ x. omega arith) (λ u m x. omega (arith, k.most u m x, ltb-false _ _ l)) })
    go false e None k = (forall_mem-cons (λ s. Π_prop (λ x. ⊥_prop))).1 (both_ways _ e, k)
    go false e (Some s) k = record { member = mem-cons_of_mem r k.member; front = k.front; most = both _ (λ x. absurd (both_ways _ e x)) k.most }

pub longest_some : (rs : Routes) (q : Bits) (r : Route) → longest rs q ≡ Some r → Best rs q r
longest_some rs q r e = subst (Says rs q) e (says rs q)

pub longest_none : (rs : Routes) (q : Bits) → (longest rs q ≡ None) ↔ Unmatched rs q
longest_none rs q = (λ e. subst (Says rs q) e (says rs q), go (longest rs q) (says rs q))
  where
    go : (o : Option Route) → Says rs q o → Unmatched rs q → o ≡ None
    go None k u = refl
    go (Some r) k u = absurd (u r k.member k.front)
