-- A list without its repeats. Assumes nothing.
use Rattle.std.proofs.Common.{◌≡◌, Bool, true, false, List, [], ◌∷◌, length, refl, arith}
use mathlib.Core.List.{Memᴰ}
use Rattle.bits.specs.Lists.{any, different}
use Rattle.bits.proofs.Sets.{Equality, any_of_member, member_of_any}

module _ {A : Type 0} {t : A → A → Bool} (eq : Equality t) where
  abbrev pub once_each : List A → List A
  once_each [] = []
  once_each (x ∷ xs) = elim (any (t x) xs) [ true ↦ once_each xs | false ↦ x ∷ once_each xs ]

  pub length_once_each : (xs : List A) → length (once_each xs) ≡ different t xs
  length_once_each [] = refl
  length_once_each (x ∷ xs) = let ih = length_once_each xs in grind arith

  pub member_once_each : {x : A} (xs : List A) → Memᴰ x xs → Memᴰ x (once_each xs)
  member_once_each {x} xs m = member_of_any eq (once_each xs) (kept x xs (any_of_member eq m))
    where
      kept : (x : A) (xs : List A) → any (t x) xs ≡ true → any (t x) (once_each xs) ≡ true
      kept x [] h = h
      kept x (y ∷ ys) h = let ih = kept x ys in grind (arith, eq.sound)
