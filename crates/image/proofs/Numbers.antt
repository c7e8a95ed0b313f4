-- The number that a row of bits writes, and the edge that a row follows. Assumes nothing.
use Rattle.std.proofs.Common.{◌≡◌, ℕ, suc, ◌+◌, ◌*◌, ◌/◌, ◌%◌, ◌^◌, ◌<◌, Bool, true, false, cond, eqb, [], ◌∷◌, length, take, sym, refl, ap, ◌∙◌, div-one, add-one, one-add, arith}
use Rattle.std.proofs.lemmas.List.{length-take}
use Rattle.std.proofs.lemmas.Nat.{shr-shr, shr_split, mod_below, pow_pos}
use Rattle.std.proofs.lemmas.Bool.Decides.{nat_tests}
use Rattle.bits.specs.Rows.{Bits, word, padded}
use Rattle.bits.proofs.Words.{word_split}
use Rattle.bits.proofs.Fronts.{length_padded}
use Rattle.image.specs.Image.{number_from, number, next_edge, edges_each}

-- what stands before the bits stays before them
number_high : (q : Bits) (n : ℕ) → number_from n q / 2 ^ length q ≡ n
unfolding number_from
number_high [] n = div-one n
number_high (b ∷ q) n =
    let m : ℕ = number_from (2 * n + cond b 1 0) q in
    let half : m / 2 ^ length q / 2 ≡ m / 2 ^ suc (length q) = shr-shr m (length q) 1 ∙ ap (λ k. m / 2 ^ k) (add-one (length q)) in
    sym half ∙ ap (λ k. k / 2) (number_high q (2 * n + cond b 1 0)) ∙ halved b
  where
    halved : (b : Bool) → (2 * n + cond b 1 0) / 2 ≡ n
    halved true = omega arith
    halved false = omega arith

-- the bits of the number that a row writes are the row
word_number_from : (q : Bits) (n : ℕ) → word (length q) (number_from n q) ≡ q
unfolding number_from word
word_number_from [] n = refl
word_number_from (b ∷ q) n =
    let m : ℕ = number_from (2 * n + cond b 1 0) q in
    let ih : word (length q) m ≡ q = word_number_from q (2 * n + cond b 1 0) in
    let high : m / 2 ^ length q ≡ 2 * n + cond b 1 0 = number_high q (2 * n + cond b 1 0) in
    let split : word (suc (length q)) m ≡ eqb (m / 2 ^ length q % 2) 1 ∷ word (length q) m = ap (λ k. word k m) (sym (one-add (length q))) ∙ word_split 1 (length q) m in
    split ∙ ap (λ k. eqb (k % 2) 1 ∷ word (length q) m) high ∙ ap (λ c. c ∷ word (length q) m) (low b) ∙ ap (λ r. b ∷ r) ih
  where
    low : (b : Bool) → eqb ((2 * n + cond b 1 0) % 2) 1 ≡ b
    low true = grind (arith, nat_tests)
    low false = grind (arith, nat_tests)

pub word_number : (q : Bits) → word (length q) (number q) ≡ q
word_number q = word_number_from q 0

pub number_below : (q : Bits) → number q < 2 ^ length q
number_below q =
    let none : number q / 2 ^ length q ≡ 0 = number_high q 0 in
    let split : 0 * 2 ^ length q + number q % 2 ^ length q ≡ number q = ap (λ k. k * 2 ^ length q + number q % 2 ^ length q) (sym none) ∙ shr_split (number q) (length q) in
    omega (arith, mod_below (number q) (2 ^ length q) (pow_pos (length q)))

pub length_next : (s : ℕ) (a : Bits) → length (padded s (take s a)) ≡ s
length_next s a = length_padded s (take s a) (simp length-take (omega arith))

-- the bits of the next edge are the row's next bits, with zeros past its end
pub word_next_edge : (s : ℕ) (a : Bits) → word s (next_edge s a) ≡ padded s (take s a)
word_next_edge s a = ap (λ k. word k (next_edge s a)) (sym (length_next s a)) ∙ word_number (padded s (take s a))

pub next_edge_below : (s : ℕ) (a : Bits) → next_edge s a < edges_each s
next_edge_below s a = let h = number_below (padded s (take s a)) in rw (length_next s a) at h
