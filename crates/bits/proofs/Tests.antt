-- Lists with a test, and rows that are the same. Assumes nothing.
use Rattle.std.proofs.Common.{◌≡◌, Bool, true, false, ◌&&◌, ◌||◌, ◌↔◌, List, [], ◌∷◌, refl, arith}
use mathlib.Core.HLevel.{Π_prop, ×_prop}
use mathlib.Core.List.{Mem, Mem-prop, not-mem-nil, mem-cons_self, mem-cons_of_mem, forall_mem-cons}
use mathlib.Core.Bool.{Bool-set}
use Rattle.std.proofs.lemmas.Bool.{both_ways, or_parts, or_from}
use Rattle.bits.specs.Lists.{any, only}
use Rattle.bits.specs.Rows.{Bits, same}

pub same_is : (p q : Bits) → same p q ≡ true → p ≡ q
same_is [] q e = grind arith
same_is (b ∷ p) q e = let ih = same_is p in grind arith

pub never : (b : Bool) → (b ≡ true → ⊥) → b ≡ false
never b h = grind arith

module _ {A : Type 0} where
  pub any_like : (f g : A → Bool) → ((x : A) → f x ≡ g x) → (xs : List A) → any f xs ≡ any g xs
  any_like f g h [] = refl
  any_like f g h (x ∷ xs) = cc (h x, any_like f g h xs)

  pub any_or : (f g : A → Bool) (xs : List A) → any (λ x. f x || g x) xs ≡ (any f xs || any g xs)
  any_or f g [] = refl
  any_or f g (x ∷ xs) = let ih = any_or f g xs in grind arith

  pub any_only : (f t : A → Bool) (xs : List A) → any f (only t xs) ≡ any (λ x. t x && f x) xs
  any_only f t [] = refl
  any_only f t (x ∷ xs) = let ih = any_only f t xs in grind arith

  pub any_fewer : (f t : A → Bool) (xs : List A) → any f xs ≡ false → any f (only t xs) ≡ false
  any_fewer f t [] h = refl
  any_fewer f t (x ∷ xs) h = let ih = any_fewer f t xs in grind arith

  pub any_none : (f : A → Bool) (xs : List A) → any f xs ≡ false → (x : A) → Mem x xs → f x ≡ false
  any_none f [] h = λ x m. absurd (not-mem-nil m)
  any_none f (x ∷ xs) h = (forall_mem-cons (λ y. Bool-set _ _)).1 ((or_parts (f x) _ h).0, any_none f xs (or_parts (f x) _ h).1)

  pub all_none : (f : A → Bool) (xs : List A) → ((x : A) → Mem x xs → f x ≡ false) → any f xs ≡ false
  all_none f [] h = refl
  all_none f (x ∷ xs) h = or_from (f x) _ (h x mem-cons_self) (all_none f xs (λ y m. h y (mem-cons_of_mem x m)))

  only_passes : (t : A → Bool) (xs : List A) (x : A) → Mem x (only t xs) → Mem x xs × (t x ≡ true)
  only_passes t [] = λ x m. absurd (not-mem-nil m)
  only_passes t (y ∷ ys) = go (t y) refl (only_passes t ys)
    where
      go : (b : Bool) → t y ≡ b → ((x : A) → Mem x (only t ys) → Mem x ys × (t x ≡ true))
          → (x : A) → Mem x (elim b [ true ↦ y ∷ only t ys | false ↦ only t ys ]) → Mem x (y ∷ ys) × (t x ≡ true)
      go true e rest = (forall_mem-cons (λ x. ×_prop Mem-prop (Bool-set _ _))).1 ((mem-cons_self, e), λ x m. (mem-cons_of_mem y (rest x m).0, (rest x m).1))
      go false e rest = λ x m. (mem-cons_of_mem y (rest x m).0, (rest x m).1)

  passes_only : (t : A → Bool) (xs : List A) (x : A) → Mem x xs → t x ≡ true → Mem x (only t xs)
  passes_only t [] = λ x m h. absurd (not-mem-nil m)
  passes_only t (y ∷ ys) = go (t y) refl (passes_only t ys)
    where
      go : (b : Bool) → t y ≡ b → ((x : A) → Mem x ys → t x ≡ true → Mem x (only t ys))
          → (x : A) → Mem x (y ∷ ys) → t x ≡ true → Mem x (elim b [ true ↦ y ∷ only t ys | false ↦ only t ys ])
      go true e rest = (forall_mem-cons (λ x. Π_prop (λ h. Mem-prop))).1 (λ h. mem-cons_self, λ x m h. mem-cons_of_mem y (rest x m h))
      go false e rest = (forall_mem-cons (λ x. Π_prop (λ h. Mem-prop))).1 (λ h. absurd (both_ways (t y) e h), rest)

  pub only_is : (t : A → Bool) (xs : List A) (x : A) → Mem x (only t xs) ↔ (Mem x xs × (t x ≡ true))
  only_is t xs x = (only_passes t xs x, λ h. passes_only t xs x h.0 h.1)
