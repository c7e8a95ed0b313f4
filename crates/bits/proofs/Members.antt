-- Members of lists that are joined or picked, and how many pass a test. Assumes nothing.
use Rattle.std.proofs.Common.{◌≡◌, ◌+◌, ◌≤◌, Bool, true, false, not, ◌&&◌, ◌||◌, ◌↔◌, List, [], ◌∷◌, ◌++◌, length, refl, arith}
use mathlib.Core.Logic.{∥∥₁_elim}
use mathlib.Core.List.{Mem}
use mathlib.Core.Bool.{Bool-set}
use Rattle.bits.specs.Lists.{any, only, count}
use Rattle.bits.specs.Rows.{Bits, same}
use Rattle.bits.proofs.Tests.{same_is}
use Rattle.bits.proofs.Sets.{Equality, any_of_member, member_of_any}

module _ {A : Type 0} where
  pub any_join : (p : A → Bool) (xs ys : List A) → any p (xs ++ ys) ≡ (any p xs || any p ys)
  any_join p [] ys = refl
  any_join p (x ∷ xs) ys = let ih = any_join p xs ys in grind arith

  pub count_join : (p : A → Bool) (xs ys : List A) → count p (xs ++ ys) ≡ count p xs + count p ys
  count_join p [] ys = omega arith
  count_join p (x ∷ xs) ys = omega (arith, count_join p xs ys)

  pub count_like : (f g : A → Bool) → ((x : A) → f x ≡ g x) → (xs : List A) → count f xs ≡ count g xs
  count_like f g h [] = refl
  count_like f g h (x ∷ xs) = cc (h x, count_like f g h xs)

  -- those that pass either: those that pass f, and those that pass g only
  pub count_either : (f g : A → Bool) (xs : List A) → count (λ x. f x || g x) xs ≡ count f xs + count (λ x. not (f x) && g x) xs
  count_either f g [] = refl
  count_either f g (x ∷ xs) = let ih = count_either f g xs in grind arith

  pub count_none : (xs : List A) → count (λ x. false) xs ≡ 0
  count_none [] = refl
  count_none (x ∷ xs) = omega (arith, count_none xs)

  pub length_only : (f : A → Bool) (xs : List A) → length (only f xs) ≡ count f xs
  length_only f [] = refl
  length_only f (x ∷ xs) = let ih = length_only f xs in grind arith

  pub count_most : (f : A → Bool) (xs : List A) → count f xs ≤ length xs
  count_most f [] = omega arith
  count_most f (x ∷ xs) = let ih = count_most f xs in grind arith

-- membership, as a test
pub has_member : {A : Type 0} {t : A → A → Bool} → Equality t → (x : A) (xs : List A) → Mem x xs ↔ (any (t x) xs ≡ true)
has_member eq x xs = (λ m. ∥∥₁_elim m (Bool-set _ _) (any_of_member eq), λ h. ∣ member_of_any eq xs h ∣₁)

pub same_self : (p : Bits) → same p p ≡ true
same_self [] = refl
same_self (true ∷ p) = same_self p
same_self (false ∷ p) = same_self p

pub same_swap : (p q : Bits) → same p q ≡ same q p
same_swap [] q = grind arith
same_swap (b ∷ p) q = let ih = same_swap p in grind arith

pub same_equality : Equality same
same_equality = record { sound = λ {x} {y} h. same_is x y h; self = same_self }

pub has_row : (q : Bits) (xs : List Bits) → Mem q xs ↔ (any (same q) xs ≡ true)
has_row = has_member same_equality
