-- Beginnings of rows, and rows filled up with zeros. Assumes nothing.
use Rattle.std.proofs.Common.{◌≡◌, ℕ, zero, suc, ◌+◌, ◌-◌, ◌<◌, ◌≤◌, false, ◌&&◌, leb, [], ◌∷◌, ◌++◌, length, get_or, take, drop, replicate, refl, ap, ◌∙◌, inl, inr, arith}
use Rattle.std.proofs.lemmas.List.{append-nil, append_assoc, length-append, length-take, length-replicate, take_all, take-append-le, take_at, drop_at, replicate-append-replicate}
use Rattle.std.proofs.lemmas.Bool.{cases_lt}
use Rattle.std.proofs.lemmas.Bool.Decides.{nat_tests}
use Rattle.bits.specs.Rows.{Bits, same, begins, any_one, padded}
pub use Rattle.bits.proofs.Members.{same_self}

-- q begins with p: it is no shorter, and its first bits are p
pub begins_is : (p q : Bits) → begins p q ≡ (leb (length p) (length q) && same p (take (length p) q))
begins_is [] q = grind (arith, nat_tests)
begins_is (b ∷ p) [] = grind (arith, nat_tests)
begins_is (b ∷ p) (c ∷ q) = let ih = begins_is p q in grind (arith, nat_tests)

pub no_one_zeros : (n : ℕ) → any_one (replicate n false) ≡ false
no_one_zeros zero = refl
no_one_zeros (suc n) = no_one_zeros n

pub all_zeros : (p : Bits) → any_one p ≡ false → p ≡ replicate (length p) false
all_zeros [] h = refl
all_zeros (b ∷ p) h = let ih = all_zeros p in grind arith

pub take_two : (n : ℕ) (p q : Bits) → take n (p ++ q) ≡ take n p ++ take (n - length p) q
take_two zero p q = let e : 0 - length p ≡ 0 = omega arith in rw e refl
take_two (suc n) [] q = let e : suc n - 0 ≡ suc n = omega arith in rw e refl
take_two (suc n) (b ∷ p) q = let ih = take_two n p q in let e : suc n - suc (length p) ≡ n - length p = omega arith in rw e (ap (λ r. b ∷ r) ih)

-- no bit from the place d on is 1
pub clear_is : (d : ℕ) (p : Bits) → any_one (drop d p) ≡ false → p ≡ padded (length p) (take d p)
clear_is zero p h = let e : length p - 0 ≡ length p = omega arith in rw e (all_zeros p h)
clear_is (suc d) [] h = refl
clear_is (suc d) (b ∷ p) h =
    let ih = clear_is d p h in
    let e : suc (length p) - suc (length (take d p)) ≡ length p - length (take d p) = omega arith in
    rw e (ap (λ r. b ∷ r) ih)

pub padded_clear : (w d : ℕ) (p : Bits) → length p ≡ d → any_one (drop d (padded w p)) ≡ false
padded_clear w d p e = rw (drop_at p _ d e) (no_one_zeros (w - length p))

pub padded_front : (w d : ℕ) (p : Bits) → length p ≡ d → take d (padded w p) ≡ p
padded_front w d p e = take_at p _ d e

-- zeros behind a row don't show: a bit past its end is 0 as well
pub bit_zeros : (i : ℕ) (p : Bits) (n : ℕ) → get_or (p ++ replicate n false) i false ≡ get_or p i false
bit_zeros i [] zero = refl
bit_zeros zero [] (suc n) = refl
bit_zeros (suc i) [] (suc n) = bit_zeros i [] n
bit_zeros zero (b ∷ p) n = refl
bit_zeros (suc i) (b ∷ p) n = bit_zeros i p n

pub length_padded : (w : ℕ) (p : Bits) → length p ≤ w → length (padded w p) ≡ w
length_padded w p h = simp (length-append, length-replicate) (omega arith)

-- a row of two words that is cut and filled up is each word cut and filled up
pub padded_two : (v w d : ℕ) (p q : Bits) → length p ≡ v → length q ≡ w → padded v (take d p) ++ padded w (take (d - v) q) ≡ padded (v + w) (take d (p ++ q))
padded_two v w d p q e f = elim (cases_lt d v) [ inl h ↦ short h | inr h ↦ long h ]
  where
    short : d < v → padded v (take d p) ++ padded w (take (d - v) q) ≡ padded (v + w) (take d (p ++ q))
    short h =
        let none : d - v ≡ 0 = omega arith in
        let front : take d (p ++ q) ≡ take d p = take-append-le d p q (omega arith) in
        let n : length (take d p) ≤ v = simp length-take (omega arith) in
        let zeros : (v - length (take d p)) + (w - 0) ≡ v + w - length (take d p) = omega arith in
        rw (none, front, append_assoc, replicate-append-replicate, zeros) refl

    long : v ≤ d → padded v (take d p) ++ padded w (take (d - v) q) ≡ padded (v + w) (take d (p ++ q))
    long h =
        let whole : take d p ≡ p = take_all d p (omega arith) in
        let front : take d (p ++ q) ≡ p ++ take (d - v) q = take_two d p q ∙ ap (λ r. r ++ take (d - length p) q) whole ∙ ap (λ k. p ++ take (d - k) q) e in
        let zeros : v - length p ≡ 0 = omega arith in
        let m : length (p ++ take (d - v) q) ≡ v + length (take (d - v) q) = length-append p _ ∙ ap (λ k. k + length (take (d - v) q)) e in
        let left : v + w - (v + length (take (d - v) q)) ≡ w - length (take (d - v) q) = omega arith in
        rw (whole, zeros, append-nil, front, m, left, append_assoc) refl
