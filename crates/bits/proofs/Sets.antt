-- Lists as sets, by a test that tells equality. Assumes nothing.
use Rattle.std.proofs.Common.{◌≡◌, suc, ◌+◌, ◌≤◌, Bool, true, false, cond, not, ◌&&◌, ◌||◌, ◌⊎◌, ◌↔◌, List, [], ◌∷◌, ◌++◌, length, sym, refl, ap, ◌∙◌, subst, inl, inr, arith}
use mathlib.Core.Logic.{⊎_map, ∥∥₁_elim, ∥∥₁_map, ∥∥₁_prop}
use mathlib.Core.List.{Mem, Memᴰ, mem-cons_self, mem-cons_of_mem}
use mathlib.Core.Bool.{Bool-set}
use native.Mathlib.Bridge.{le_prop}
use Rattle.std.proofs.lemmas.Bool.{cases_Bool, or_left, or_right, or_cases, true≢false, both_ways}
use Rattle.bits.specs.Lists.{any, only, different}

-- the test decides equality
pub record Equality {A : Type 0} (t : A → A → Bool) : Type 0 where
  pub sound : {x y : A} → t x y ≡ true → x ≡ y
  pub self : (x : A) → t x x ≡ true

module _ {A : Type 0} (t : A → A → Bool) where
  -- the members other than x
  abbrev pub without : A → List A → List A
  without x ys = only (λ y. not (t y x)) ys

  -- every member of the one is in the other
  abbrev pub Within : List A → List A → Type 0
  Within xs ys = (x : A) → any (t x) xs ≡ true → any (t x) ys ≡ true

  abbrev pub NoRepeats : List A → Type 0
  NoRepeats [] = Unit {0}
  NoRepeats (x ∷ xs) = (any (t x) xs ≡ false) × NoRepeats xs

-- each member of xs has a partner in ys by R
abbrev pub Partners : {A B : Type 0} → (A → B → Type 0) → List A → List B → Type 0
Partners {A} {B} R xs ys = (x : A) → Mem x xs → ∥ ((y : B) × Mem y ys × R x y) ∥₁

-- the list without one member, at its place
abbrev pub less : {B : Type 0} {y : B} {ys : List B} → Memᴰ y ys → List B
less (Memᴰ.head {xs = ys} e) = ys
less (Memᴰ.tail {x = z} m) = z ∷ less m

pub length_less : {B : Type 0} {y : B} {ys : List B} (m : Memᴰ y ys) → length ys ≡ suc (length (less m))
length_less (Memᴰ.head e) = refl
length_less (Memᴰ.tail m) = ap suc (length_less m)

pub member_less : {B : Type 0} {y z : B} {ys : List B} (m : Memᴰ y ys) → Memᴰ z ys → (z ≡ y) ⊎ Memᴰ z (less m)
member_less (Memᴰ.head e) (Memᴰ.head f) = inl (f ∙ sym e)
member_less (Memᴰ.head e) (Memᴰ.tail n) = inr n
member_less (Memᴰ.tail m) (Memᴰ.head f) = inr (Memᴰ.head f)
member_less (Memᴰ.tail m) (Memᴰ.tail n) = ⊎_map (λ e. e) (λ k. Memᴰ.tail k) (member_less m n)

module _ {A : Type 0} {t : A → A → Bool} (eq : Equality t) where
  pub test_of_path : {x y : A} → x ≡ y → t x y ≡ true
  test_of_path {x} e = rw (← e) (eq.self x)

  pub any_of_member : {x : A} {xs : List A} → Memᴰ x xs → any (t x) xs ≡ true
  any_of_member {x} (Memᴰ.head {x = y} e) = or_left (t x y) _ (test_of_path e)
  any_of_member {x} (Memᴰ.tail {x = y} m) = or_right (t x y) _ (any_of_member m)

  pub member_of_any : {x : A} (xs : List A) → any (t x) xs ≡ true → Memᴰ x xs
  member_of_any [] h = absurd (true≢false (sym h))
  member_of_any {x} (y ∷ ys) h =
      elim (or_cases (t x y) _ h) [ inl e ↦ Memᴰ.head (eq.sound e) | inr m ↦ Memᴰ.tail (member_of_any ys m) ]

  -- what passes p and is y, is there if y passes p and is there
  pub any_only : (p : A → Bool) (y : A) (zs : List A) → any (t y) (only p zs) ≡ (p y && any (t y) zs)
  any_only p y [] = grind arith
  any_only p y (z ∷ zs) =
      let ih = any_only p y zs in
      grind (arith, eq.sound)

  pub test_swap : (x y : A) → t x y ≡ t y x
  test_swap x y =
      grind (arith, eq.sound, eq.self)

  pub different_without : (x : A) (ys : List A) → different t ys ≡ cond (any (t x) ys) 1 0 + different t (without t x ys)
  different_without x [] = refl
  different_without x (y ∷ ys) =
      let ih = different_without x ys in
      let swap = test_swap x y in
      let there = any_only (λ z. not (t z x)) y ys in
      grind (arith, eq.sound)

  pub within_tail : (x : A) (xs ys : List A) → Within t (x ∷ xs) ys → Within t xs ys
  within_tail x xs ys sub y h = sub y (or_right (t y x) _ h)

  pub within_without : (x : A) (xs ys : List A) → any (t x) xs ≡ false → Within t (x ∷ xs) ys → Within t xs (without t x ys)
  within_without x xs ys new sub y h =
      let there = sub y (or_right (t y x) _ h) in
      let both = any_only (λ z. not (t z x)) y ys in
      grind (arith, eq.sound)

  pub within_of_members : (xs ys : List A) → ((x : A) → Mem x xs → Mem x ys) → Within t xs ys
  within_of_members xs ys sub x h = ∥∥₁_elim (sub x ∣ member_of_any xs h ∣₁) (Bool-set _ _) any_of_member

  -- fewer members, fewer different ones
  pub different_mono : (xs ys : List A) → Within t xs ys → different t xs ≤ different t ys
  different_mono [] ys sub = omega arith
  different_mono (x ∷ xs) ys sub =
      elim (cases_Bool (any (t x) xs)) [
        | inl old ↦ (let ih = different_mono xs ys (within_tail x xs ys sub) in grind arith)
        | inr new ↦ (let ih = different_mono xs (without t x ys) (within_without x xs ys new sub) in
            let here = sub x (or_left (t x x) _ (eq.self x)) in
            let more = different_without x ys in grind arith)
      ]

  -- (1) the same members, as many different ones
  pub different_by_members : (xs ys : List A) → Within t xs ys → Within t ys xs → different t xs ≡ different t ys
  different_by_members xs ys there back = omega (arith, different_mono xs ys there, different_mono ys xs back)

  pub different_by_mem : (xs ys : List A) → ((x : A) → Mem x xs ↔ Mem x ys) → different t xs ≡ different t ys
  different_by_mem xs ys same = different_by_members xs ys (within_of_members xs ys (λ x. (same x).0)) (within_of_members ys xs (λ x. (same x).1))

  pub any_append : (p : A → Bool) (xs ys : List A) → any p (xs ++ ys) ≡ (any p xs || any p ys)
  any_append p [] ys = refl
  any_append p (x ∷ xs) ys = let ih = any_append p xs ys in grind arith

  pub only_all : (ys : List A) → only (λ y. true) ys ≡ ys
  only_all [] = refl
  only_all (y ∷ ys) = ap (λ zs. y ∷ zs) (only_all ys)

  -- the members that pass neither p nor q
  pub only_neither : (p q : A → Bool) (ys : List A) → only (λ y. not (p y || q y)) ys ≡ only (λ y. not (p y)) (only (λ y. not (q y)) ys)
  only_neither p q [] = refl
  only_neither p q (y ∷ ys) = let ih = only_neither p q ys in grind arith

  -- (2) the different members of two lists, and those of the second that are new
  pub different_append : (xs ys : List A) → different t (xs ++ ys) ≡ different t xs + different t (only (λ y. not (any (t y) xs)) ys)
  different_append [] ys = rw only_all (omega arith)
  different_append (x ∷ xs) ys =
      let ih = different_append xs ys in
      let rest = only_neither (λ y. t y x) (λ y. any (t y) xs) ys in
      let found = any_append (t x) xs ys in
      let left = different_without x (only (λ y. not (any (t y) xs)) ys) in
      let there = any_only (λ y. not (any (t y) xs)) x ys in
      grind arith

  -- (3) without repeats all are different
  pub different_no_repeats : (xs : List A) → NoRepeats t xs → different t xs ≡ length xs
  different_no_repeats [] h = refl
  different_no_repeats (x ∷ xs) h = let ih = different_no_repeats xs h.1 in grind arith

  pub different_at_most : (xs : List A) → different t xs ≤ length xs
  different_at_most [] = omega arith
  different_at_most (x ∷ xs) = let ih = different_at_most xs in grind arith

  -- (4) no two members have one partner, so there are at least as many partners as different members
  module _ {B : Type 0} (R : A → B → Type 0) (injective : (x w : A) (y : B) → R x y → R w y → x ≡ w) where
    -- the partner of x taken away, each other member has still its own
    pub partners_less : (x : A) (xs : List A) (y : B) (ys : List B) (m : Memᴰ y ys) → R x y → any (t x) xs ≡ false → Partners R (x ∷ xs) ys → Partners R xs (less m)
    partners_less x xs y ys m r new partners w k =
        ∥∥₁_elim k ∥∥₁_prop λ there. ∥∥₁_elim (partners w (mem-cons_of_mem x k)) ∥∥₁_prop λ (z, n, s). ∥∥₁_map n λ d. go there z s (member_less m d)
      where
        go : Memᴰ w xs → (z : B) → R w z → (z ≡ y) ⊎ Memᴰ z (less m) → (z : B) × Mem z (less m) × R w z
        go there z s (inl e) = absurd (both_ways _ new (rw (injective x w y r (subst (R w) e s)) (any_of_member there)))
        go there z s (inr d) = (z, ∣ d ∣₁, s)

    pub different_injected : (xs : List A) (ys : List B) → Partners R xs ys → different t xs ≤ length ys
    different_injected [] ys partners = omega arith
    different_injected (x ∷ xs) ys partners =
        elim (cases_Bool (any (t x) xs)) [
          | inl old ↦ (let ih = different_injected xs ys (λ w k. partners w (mem-cons_of_mem x k)) in grind arith)
          | inr new ↦ ∥∥₁_elim (partners x mem-cons_self) le_prop λ (y, k, r). ∥∥₁_elim k le_prop λ m.
              let ih = different_injected xs (less m) (partners_less x xs y ys m r new partners) in
              let one = length_less m in
              grind arith
        ]
