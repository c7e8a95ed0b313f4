-- The leaf of an address, and the matched leaves. Assumes nothing.
use Rattle.std.proofs.Common.{◌≡◌, ℕ, Bool, true, false, ◌↔◌, List, [], ◌∷◌, length, is_some, Some, None, Option, sym, refl, ap, ◌∙◌, inl, inr, arith}
use mathlib.Core.List.{Mem, Nodup, Nodup-cons}
use Rattle.std.proofs.lemmas.Bool.{both_ways, cases_Bool}
use Rattle.bits.specs.Lists.{only}
use Rattle.bits.specs.Rows.{Bits, begins}
use Rattle.tree.specs.Tree.{Route, Routes, pushed, leaves, matches, matched, longest, hop_of}
use Rattle.tree.specs.LeafLaws.{AtMost, LeafOf, Unmatched}
use Rattle.bits.proofs.Tests.{never, any_none, all_none, only_is}
use Rattle.tree.proofs.Longest.{longest_none}
use Rattle.tree.proofs.Leaves.{down, one_leaf, leaves_once, depth_pushed}
use Rattle.tree.proofs.Lookup.{longest_by_leaf}

-- every address begins with exactly one leaf
pub address_leaf : (W : ℕ) (rs : Routes) (a : Bits) → AtMost W rs → length a ≡ W → (q : Bits) × LeafOf (pushed rs) a q
address_leaf W rs a short e = (down (pushed rs) a, one_leaf (pushed rs) a (omega (arith, depth_pushed rs W short)))

only_once : (A : Type 0) (t : A → Bool) (xs : List A) → Nodup xs → Nodup (only t xs)
only_once A t [] once = once
only_once A t (x ∷ xs) once = go (t x) (only_once A t xs (Nodup-cons.0 once).1)
  where
    go : (b : Bool) → Nodup {A = A} (only t xs) → Nodup {A = A} (elim b [ true ↦ x ∷ only t xs | false ↦ only t xs ])
    go true rest = Nodup-cons.1 (λ m. (Nodup-cons.0 once).0 ((only_is t xs x).0 m).0, rest)
    go false rest = rest

pub matched_once : (rs : Routes) → Nodup (matched rs)
matched_once rs = only_once Bits (matches rs) (leaves (pushed rs) []) (leaves_once (pushed rs))

pub matched_is : (rs : Routes) (q : Bits) → Mem q (matched rs) ↔ (Mem q (leaves (pushed rs) []) × (matches rs q ≡ true))
matched_is rs q = only_is (matches rs) (leaves (pushed rs) []) q

no_hop : (o : Option Route) → hop_of o ≡ None → o ≡ None
no_hop None e = refl
no_hop (Some r) e = cc

-- without a match, without a hop
pub unmatched_is : (rs : Routes) (q : Bits) → (hop_of (longest rs q) ≡ None) ↔ (matches rs q ≡ false)
unmatched_is rs q = (
  λ e. all_none _ rs (λ s m. never _ ((longest_none rs q).0 (no_hop _ e) s m)),
  λ h. ap hop_of ((longest_none rs q).1 (λ s m. both_ways _ (any_none _ rs h s m))),
)

-- a row has a hop exactly if it is matched
pub some_hop : (rs : Routes) (q : Bits) → is_some (hop_of (longest rs q)) ≡ matches rs q
some_hop rs q = go (hop_of (longest rs q)) refl
  where
    go : (o : Option ℕ) → hop_of (longest rs q) ≡ o → is_some o ≡ matches rs q
    go None e = sym ((unmatched_is rs q).0 e)
    go (Some h) e = elim (cases_Bool (matches rs q)) [ inl k ↦ sym k | inr k ↦ (let n = (unmatched_is rs q).1 k in cc) ]

module _ (rs : Routes) (a q : Bits) (is_leaf : Mem q (leaves (pushed rs) [])) (front : begins q a ≡ true) where
  pub match_by_leaf : longest rs q ≡ longest rs a
  match_by_leaf = sym (longest_by_leaf rs q is_leaf a front)

  pub none_by_leaf : (hop_of (longest rs q) ≡ None) ↔ Unmatched rs a
  none_by_leaf = (λ e. (longest_none rs a).0 (sym match_by_leaf ∙ no_hop _ e), λ u. ap hop_of (match_by_leaf ∙ (longest_none rs a).1 u))
