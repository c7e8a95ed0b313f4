-- Two halves as one row of 128 bits. Assumes nothing.
use Rattle.std.specs.Prelude.{◌≡◌, ℕ, ◌-◌, ◌^◌, ◌<◌, ◌≤◌, min, false, ◌++◌, length, take, drop, slice_index_or, refl}
use Rattle.std.proofs.Common.{sym, ap, ◌∙◌, inl, inr, arith}
use Rattle.std.proofs.lemmas.List.{append-nil, length-append, length-take, take_at, drop_at, take_all, take-take, get_or_append_left, get_or-append_right, get_or_past}
use Rattle.std.proofs.lemmas.Bool.{cases_lt}
use Rattle.bits.specs.Rows.{Bits, halves, padded, word}
use Rattle.bits.proofs.Words.{length_word, word_injective}
use Rattle.bits.proofs.Fronts.{padded_two}

pub length_halves : (a b : ℕ) → length (halves a b) ≡ 128
length_halves a b = omega (arith, length-append (word 64 a) (word 64 b), length_word 64 a, length_word 64 b)

-- two halves leave no room for zeros behind them
pub halves_padded : (a b : ℕ) → halves a b ≡ padded 128 (halves a b)
halves_padded a b = let none : 128 - length (halves a b) ≡ 0 = omega (arith, length_halves a b) in rw (none, append-nil) refl

-- there is one pair of halves for a row
pub halves_injective : (a b x y : ℕ) → (a < 2 ^ 64) × (b < 2 ^ 64) → (x < 2 ^ 64) × (y < 2 ^ 64) → halves a b ≡ halves x y → (a ≡ x) × (b ≡ y)
halves_injective a b x y f g e = (word_injective 64 a x f.0 g.0 firsts, word_injective 64 b y f.1 g.1 seconds)
  where
    firsts : word 64 a ≡ word 64 x
    firsts = sym (take_at (word 64 a) (word 64 b) 64 (length_word 64 a)) ∙ ap (λ r. take 64 r) e ∙ take_at (word 64 x) (word 64 y) 64 (length_word 64 x)

    seconds : word 64 b ≡ word 64 y
    seconds = sym (drop_at (word 64 a) (word 64 b) 64 (length_word 64 a)) ∙ ap (λ r. drop 64 r) e ∙ drop_at (word 64 x) (word 64 y) 64 (length_word 64 x)

pub take_min : (d n : ℕ) (p : Bits) → length p ≤ n → take (min d n) p ≡ take d p
take_min d n p h = elim (cases_lt d n) [
  | inl s ↦ (let e : min d n ≡ d = omega arith in rw e refl)
  | inr s ↦ (let e : min d n ≡ n = omega arith in rw (e, take_all n p h) (sym (take_all d p (omega arith))))
]

pub take_both : (d n : ℕ) (p : Bits) → take d (take n p) ≡ take (min d n) p
take_both d n p = elim (cases_lt d n) [
  | inl s ↦ (let e : min d n ≡ d = omega arith in rw e (take-take d n p (omega arith)))
  | inr s ↦ (let e : min d n ≡ n = omega arith in let short : length (take n p) ≤ d = simp length-take (omega arith) in rw e (take_all d (take n p) short))
]

-- the first d bits of two halves, each cut by itself
pub halves_kept : (a b x y d : ℕ) → word 64 x ≡ padded 64 (take d (word 64 a)) → word 64 y ≡ padded 64 (take (d - 64) (word 64 b)) → halves x y ≡ padded 128 (take d (halves a b))
halves_kept a b x y d e f = ap (λ r. r ++ word 64 y) e ∙ ap (λ r. padded 64 (take d (word 64 a)) ++ r) f ∙ padded_two 64 64 d (word 64 a) (word 64 b) (length_word 64 a) (length_word 64 b)

-- the bits of two halves, in each half and past both
pub bit_first : (a b i : ℕ) → i < 64 → slice_index_or (halves a b) i false ≡ slice_index_or (word 64 a) i false
bit_first a b i h = get_or_append_left (word 64 a) (word 64 b) false i (omega (arith, length_word 64 a))

pub bit_second : (a b i : ℕ) → 64 ≤ i → slice_index_or (halves a b) i false ≡ slice_index_or (word 64 b) (i - 64) false
bit_second a b i h = get_or-append_right (word 64 a) (word 64 b) 64 i false (length_word 64 a) h

pub bit_past : (a b i : ℕ) → 128 ≤ i → slice_index_or (halves a b) i false ≡ false
bit_past a b i h = get_or_past (halves a b) i false (omega (arith, length_halves a b))
