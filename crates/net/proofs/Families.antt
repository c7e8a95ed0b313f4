-- Addresses as the beginning of two halves. Assumes nothing.
use Rattle.std.proofs.Common.{◌≡◌, ℕ, ◌+◌, ◌-◌, ◌*◌, ◌/◌, ◌%◌, ◌^◌, ◌<◌, ◌≤◌, min, false, ◌||◌, [], ◌∷◌, ◌++◌, length, get_or, take, drop, replicate, Ok, Err, Result, sym, refl, ap, ◌∙◌, mod-eq_of_lt, arith}
use Rattle.std.proofs.lemmas.List.{append_assoc, drop-append-le, take-append-le, replicate-append-replicate}
use Rattle.std.proofs.lemmas.Nat.{shl_below}
use Rattle.std.proofs.lemmas.Bool.{le-ltb}
use Rattle.bits.specs.Rows.{Bits, any_one, halves, padded, word}
use Rattle.bits.proofs.Words.{length_word, take_word, word_shl, word_zeros}
use Rattle.bits.proofs.Fronts.{no_one_zeros, bit_zeros}
use Rattle.bits.proofs.Pairs.{take_min}
use Rattle.refusal.specs.declared.Refusal.{Refusal}
use Rattle.net.specs.declared.prefix.Prefix.{Prefix}
use Rattle.net.specs.Prefix.{refusal_of, Makes}

-- a number of w bits, moved to the top of the first half
pub top_half : (w n : ℕ) → w ≤ 64 → n < 2 ^ w → halves ((n * 2 ^ (64 - w)) % 2 ^ 64) 0 ≡ padded 128 (word w n)
top_half w n s h =
    let all : w + (64 - w) ≡ 64 = omega arith in
    let fits : n * 2 ^ (64 - w) < 2 ^ 64 = rw all at (shl_below n w (64 - w) h) in
    let zeros : 64 - w + 64 ≡ 128 - length (word w n) = omega (arith, length_word w n) in
    let shifted : word 64 (n * 2 ^ (64 - w)) ≡ word w n ++ replicate (64 - w) false =
    ap (λ k. word k (n * 2 ^ (64 - w))) (sym all) ∙ word_shl w (64 - w) n in
    ap (λ k. halves k 0) (mod-eq_of_lt fits) ∙ ap (λ r. r ++ word 64 0) shifted ∙ ap (λ r. (word w n ++ replicate (64 - w) false) ++ r) (word_zeros 64 0)
    ∙ append_assoc (word w n) (replicate (64 - w) false) (replicate 64 false) ∙ ap (λ r. word w n ++ r) (replicate-append-replicate (64 - w) 64 false)
    ∙ ap (λ k. word w n ++ replicate k false) zeros

-- so what it answers is what the number's own row answers
pub top_bit : (w n i : ℕ) → w ≤ 64 → n < 2 ^ w → get_or (halves ((n * 2 ^ (64 - w)) % 2 ^ 64) 0) i false ≡ get_or (word w n) i false
top_bit w n i s h = ap (λ r. get_or r i false) (top_half w n s h) ∙ bit_zeros i (word w n) (128 - length (word w n))

pub top_front : (w n d : ℕ) → w ≤ 64 → n < 2 ^ w → take (min d w) (halves ((n * 2 ^ (64 - w)) % 2 ^ 64) 0) ≡ take d (word w n)
top_front w n d s h =
    ap (λ r. take (min d w) r) (top_half w n s h)
    ∙ take-append-le (min d w) (word w n) (replicate (128 - length (word w n)) false) (omega (arith, length_word w n))
    ∙ take_min d w (word w n) (omega (arith, length_word w n))

-- the number of the first w bits of two halves
pub top_word : (w a b : ℕ) → w ≤ 64 → word w (a / 2 ^ (64 - w)) ≡ take w (halves a b)
top_word w a b s =
    let all : w + (64 - w) ≡ 64 = omega arith in
    sym (take-append-le w (word 64 a) (word 64 b) (omega (arith, length_word 64 a)) ∙ ap (λ k. take w (word k a)) (sym all) ∙ take_word w (64 - w) a)

-- the checks of a prefix within a row that is filled up are those within the row
pub refusal_padded : (w n : ℕ) (a : Bits) → length a ≡ w → w ≤ 128 → n ≤ w → refusal_of 128 (padded 128 a) n ≡ refusal_of w a n
refusal_padded w n a e s h =
    let zeros : any_one (drop n (padded 128 a)) ≡ any_one (drop n a) =
    ap any_one (drop-append-le n a (replicate (128 - length a) false) (omega arith)) ∙ tail (drop n a) (128 - length a) in
    rw (le-ltb 128 n (omega arith), le-ltb w n h, zeros) refl
  where
    tail : (q : Bits) (k : ℕ) → any_one (q ++ replicate k false) ≡ any_one q
    tail [] k = no_one_zeros k
    tail (b ∷ q) k = ap (λ t. b || t) (tail q k)

pub makes_padded : (w n : ℕ) (a : Bits) (r : Result Prefix Refusal) → length a ≡ w → w ≤ 128 → n ≤ w → Makes 128 (padded 128 a) n r → Makes w a n r
makes_padded w n a (Ok p) e s h m = (sym (refusal_padded w n a e s h) ∙ m.0, m.1 ∙ take-append-le n a (replicate (128 - length a) false) (omega arith))
makes_padded w n a (Err x) e s h m = sym (refusal_padded w n a e s h) ∙ m
