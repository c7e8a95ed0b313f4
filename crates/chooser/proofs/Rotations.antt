-- A rotation of 64 bits as a sum, and a product of what is reduced. Assumes nothing.
use Rattle.std.proofs.Common.{◌≡◌, ℕ, ◌+◌, ◌-◌, ◌*◌, ◌/◌, ◌%◌, ◌^◌, ◌<◌, sym, refl, ap, ◌∙◌, inl, inr, add-zero, mod-eq_of_lt, mul_assoc, add-mul, mul-one, div-one, arith}
use native.Mathlib.Nat.{mod-add-div, mul-mod_left, add-mul-mod_self_left}
use lib.Bits.{bit_or, or_shifted, or_self}
use Rattle.std.proofs.lemmas.Nat.{mod-pow-add, shl-shr, shr_below}
use Rattle.std.proofs.lemmas.Bool.{cases_eq}
use Rattle.chooser.specs.Fold.{rotated, multiplier}

-- what `rotate_left` answers
pub rotated_is : (k x : ℕ) → k < 64 → x < 2 ^ 64 → bit_or ((x * 2 ^ (k % 64)) % 2 ^ 64) (x / 2 ^ ((64 - k % 64) % 64)) ≡ rotated k x
rotated_is k x h s = elim (cases_eq k 0) [ inl e ↦ still e | inr n ↦ moved n ]
  where
    still : k ≡ 0 → bit_or ((x * 2 ^ (k % 64)) % 2 ^ 64) (x / 2 ^ ((64 - k % 64) % 64)) ≡ rotated k x
    still e =
        let fits : x % 2 ^ 64 ≡ x = mod-eq_of_lt s in
        let none : x / 2 ^ 64 ≡ 0 = omega arith in
        rw (e, mul-one, fits, div-one, or_self, none, add-zero) refl

    moved : (k ≡ 0 → ⊥) → bit_or ((x * 2 ^ (k % 64)) % 2 ^ 64) (x / 2 ^ ((64 - k % 64) % 64)) ≡ rotated k x
    moved n =
        let by : k % 64 ≡ k = mod-eq_of_lt h in
        let rest : (64 - k) % 64 ≡ 64 - k = mod-eq_of_lt (omega arith) in
        let sum : 64 - k + k ≡ 64 = omega arith in
        let top : (x * 2 ^ k) % 2 ^ 64 ≡ (x % 2 ^ (64 - k)) * 2 ^ k =
        ap (λ m. (x * 2 ^ k) % 2 ^ m) (sym sum) ∙ mod-pow-add (x * 2 ^ k) (64 - k) k
        ∙ ap (λ m. (m % 2 ^ (64 - k)) * 2 ^ k + (x * 2 ^ k) % 2 ^ k) (shl-shr x k)
        ∙ ap (λ m. (x % 2 ^ (64 - k)) * 2 ^ k + m) (mul-mod_left x (2 ^ k)) ∙ add-zero _ in
        let low : x / 2 ^ (64 - k) < 2 ^ k = shr_below x k (64 - k) (let back : k + (64 - k) ≡ 64 = omega arith in rw back s) in
        rw (by, rest, top) (or_shifted (x % 2 ^ (64 - k)) k (x / 2 ^ (64 - k)) low)

-- a factor may be reduced before the product is
product_mod : (t k m : ℕ) → ((t % m) * k) % m ≡ (t * k) % m
product_mod t k m =
    sym (ap (λ x. (x * k) % m) (sym (mod-add-div t m))
    ∙ ap (λ x. x % m) (add-mul (t % m) (m * (t / m)) k ∙ ap (λ x. (t % m) * k + x) (mul_assoc m (t / m) k))
    ∙ add-mul-mod_self_left ((t % m) * k) m (t / m * k))

pub product_is : (t : ℕ) → ((t % 2 ^ 64) * multiplier) % 2 ^ 64 ≡ (t * multiplier) % 2 ^ 64
product_is t = product_mod t multiplier (2 ^ 64)
