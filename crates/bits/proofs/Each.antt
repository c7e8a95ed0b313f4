-- A list with each member once, as many as it has different ones. Assumes nothing.
use Rattle.std.proofs.Common.{◌≡◌, Bool, true, false, List, [], ◌∷◌, length, refl, arith}
use mathlib.Core.List.{Nodup, Nodup-cons}
use Rattle.bits.specs.Lists.{any, different}
use Rattle.bits.proofs.Tests.{never}
use Rattle.bits.proofs.Sets.{Equality, NoRepeats}
use Rattle.bits.proofs.Members.{has_member}

abbrev pub each_once : {A : Type 0} → (A → A → Bool) → List A → List A
each_once t [] = []
each_once t (x ∷ xs) = elim (any (t x) xs) [ true ↦ each_once t xs | false ↦ x ∷ each_once t xs ]

module _ {A : Type 0} {t : A → A → Bool} (eq : Equality t) where
  pub length_each : (xs : List A) → length (each_once t xs) ≡ different t xs
  length_each [] = refl
  length_each (x ∷ xs) = let ih = length_each xs in grind arith

  pub any_each : (y : A) (xs : List A) → any (t y) (each_once t xs) ≡ any (t y) xs
  any_each y [] = refl
  any_each y (x ∷ xs) =
      let ih = any_each y xs in
      let e : t y x ≡ true → any (t y) xs ≡ any (t x) xs = λ h. rw (eq.sound h) in
      grind arith

  pub no_repeats : (xs : List A) → Nodup xs → NoRepeats t xs
  no_repeats [] once = tt
  no_repeats (x ∷ xs) once = (never _ (λ h. (Nodup-cons.0 once).0 ((has_member eq x xs).1 h)), no_repeats xs (Nodup-cons.0 once).1)
