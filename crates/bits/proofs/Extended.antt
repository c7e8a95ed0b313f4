-- The first bits of two halves, and one bit more. Assumes nothing.
use Rattle.std.proofs.Common.{◌≡◌, ℕ, suc, ◌+◌, ◌-◌, ◌<◌, ◌≤◌, true, false, [], ◌∷◌, ◌++◌, length, take, replicate, sym, refl, ap, ◌∙◌, arith}
use Rattle.std.proofs.lemmas.List.{append_assoc, length_push, length-take-le, take-append-le, take_all, replicate-append-replicate}
use Rattle.bits.specs.Rows.{Bits, halves, padded, word}
use Rattle.bits.proofs.Words.{length_word, word_zeros}
use Rattle.bits.proofs.Fronts.{take_two}
use Rattle.bits.proofs.Pairs.{length_halves, halves_padded}

pub length_front : (a b i : ℕ) → i ≤ 128 → length (take i (halves a b)) ≡ i
length_front a b i h = length-take-le i (halves a b) (omega (arith, length_halves a b))

-- a row that is filled up has a 0 behind it
padded_zero : (w : ℕ) (q : Bits) → length q < w → padded w q ≡ padded w (q ++ (false ∷ []))
padded_zero w q h =
    let n : length (q ++ (false ∷ [])) ≡ length q + 1 = length_push q false in
    let e : w - length q ≡ suc (w - (length q + 1)) = omega arith in
    rw (n, append_assoc, e) refl

-- a 1 behind a row, and zeros behind that
padded_one : (w k : ℕ) (q : Bits) → length q < w → k ≡ w - 1 - length q → q ++ (true ∷ replicate k false) ≡ padded w (q ++ (true ∷ []))
padded_one w k q h f =
    let n : length (q ++ (true ∷ [])) ≡ length q + 1 = length_push q true in
    let e : k ≡ w - (length q + 1) = omega arith in
    rw (n, append_assoc, e) refl

pub extended_full : (a b x y i : ℕ) → 128 ≤ i → halves x y ≡ padded 128 (take i (halves a b)) → halves x y ≡ halves a b
extended_full a b x y i h e = e ∙ ap (padded 128) (take_all i (halves a b) (omega (arith, length_halves a b))) ∙ sym (halves_padded a b)

pub extended_zero : (a b x y i : ℕ) → i < 128 → halves x y ≡ padded 128 (take i (halves a b)) → halves x y ≡ padded 128 (take i (halves a b) ++ (false ∷ []))
extended_zero a b x y i h e = e ∙ padded_zero 128 (take i (halves a b)) (omega (arith, length_front a b i (omega arith)))

pub extended_first : (a b x i : ℕ) → i < 64 → word 64 x ≡ take i (word 64 a) ++ (true ∷ replicate (63 - i) false) → halves x 0 ≡ padded 128 (take i (halves a b) ++ (true ∷ []))
extended_first a b x i h e =
    let front : take i (halves a b) ≡ take i (word 64 a) = take-append-le i (word 64 a) (word 64 b) (omega (arith, length_word 64 a)) in
    let long : length (take i (word 64 a)) ≡ i = length-take-le i (word 64 a) (omega (arith, length_word 64 a)) in
    let zeros : replicate (63 - i) false ++ word 64 0 ≡ replicate ((63 - i) + 64) false =
    ap (λ r. replicate (63 - i) false ++ r) (word_zeros 64 0) ∙ replicate-append-replicate (63 - i) 64 false in
    ap (λ r. r ++ word 64 0) e ∙ append_assoc (take i (word 64 a)) (true ∷ replicate (63 - i) false) (word 64 0)
    ∙ ap (λ r. take i (word 64 a) ++ (true ∷ r)) zeros ∙ padded_one 128 _ (take i (word 64 a)) (omega arith) (omega arith)
    ∙ ap (λ r. padded 128 (r ++ (true ∷ []))) (sym front)

pub extended_second : (a b y i : ℕ) → 64 ≤ i → i < 128 → word 64 y ≡ take (i - 64) (word 64 b) ++ (true ∷ replicate (63 - (i - 64)) false)
    → halves a y ≡ padded 128 (take i (halves a b) ++ (true ∷ []))
extended_second a b y i h s e =
    let front : take i (halves a b) ≡ word 64 a ++ take (i - 64) (word 64 b) =
    take_two i (word 64 a) (word 64 b)
    ∙ ap (λ r. r ++ take (i - length (word 64 a)) (word 64 b)) (take_all i (word 64 a) (omega (arith, length_word 64 a)))
    ∙ ap (λ k. word 64 a ++ take (i - k) (word 64 b)) (length_word 64 a) in
    let long = length_front a b i (omega arith) in
    ap (λ r. word 64 a ++ r) e ∙ sym (append_assoc (word 64 a) (take (i - 64) (word 64 b)) (true ∷ replicate (63 - (i - 64)) false))
    ∙ ap (λ r. r ++ (true ∷ replicate (63 - (i - 64)) false)) (sym front)
    ∙ padded_one 128 _ (take i (halves a b)) (omega arith) (omega arith)
