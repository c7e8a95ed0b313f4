-- The bits of a number, and numbers from their bits. Assumes nothing.
use Rattle.std.proofs.Common.{◌≡◌, ℕ, zero, suc, ◌+◌, ◌-◌, ◌*◌, ◌/◌, ◌%◌, ◌^◌, ◌<◌, ◌≤◌, max, true, false, eqb, [], ◌∷◌, ◌++◌, length, get_or, take, drop, replicate, sym, refl, ap, ◌∙◌, subst, add-zero, add-suc, pow-suc, div-one, add-one, one-add, arith}
use lib.Bits.{bit_or, or_step, or_zero_r, shifted_half, shifted_even}
use Rattle.std.proofs.lemmas.List.{append-nil, append_assoc, length_push, take_at, drop_at, get_or_at, length-take-le, take_all, same_from_push, replicate_more}
use Rattle.std.proofs.lemmas.Bool.Decides.{nat_tests}
use Rattle.std.proofs.lemmas.Nat.{shr-shr, shr_split, shr_below, shl-shr, shl_below, or_lt, pow_pos}
use Rattle.bits.specs.Rows.{word, padded}

pub length_word : (w n : ℕ) → length (word w n) ≡ w
unfolding word
length_word zero n = refl
length_word (suc w) n = omega (arith, length_push (word w (n / 2)) (eqb (n % 2) 1), length_word w (n / 2))

-- the bits of a number are those of its high part and then those of its low part
pub word_split : (a b n : ℕ) → word (a + b) n ≡ word a (n / 2 ^ b) ++ word b n
unfolding word
word_split a zero n = rw (add-zero, div-one, append-nil) refl
word_split a (suc b) n =
    let ih = word_split a b (n / 2) in
    let high : n / 2 / 2 ^ b ≡ n / 2 ^ suc b = shr-shr n 1 b ∙ ap (λ k. n / 2 ^ k) (one-add b) in
    rw (add-suc a b, ih, high, append_assoc) refl

pub take_word : (a b n : ℕ) → take a (word (a + b) n) ≡ word a (n / 2 ^ b)
take_word a b n = rw word_split (take_at _ _ a (length_word a _))

pub drop_word : (a b n : ℕ) → drop a (word (a + b) n) ≡ word b n
drop_word a b n = rw word_split (drop_at _ _ a (length_word a _))

-- one number of w bits for a row of w bits
pub word_injective : (w m n : ℕ) → m < 2 ^ w → n < 2 ^ w → word w m ≡ word w n → m ≡ n
unfolding word
word_injective zero m n s t e = omega arith
word_injective (suc w) m n s t e =
    let parts = same_from_push (word w (m / 2)) (word w (n / 2)) (eqb (m % 2) 1) (eqb (n % 2) 1) e in
    let ih = word_injective w (m / 2) (n / 2) (omega (arith, pow-suc 2 w)) (omega (arith, pow-suc 2 w)) parts.0 in
    let low : m % 2 ≡ n % 2 = odd_same m n parts.1 in
    omega arith
  where
    odd_same : (m n : ℕ) → eqb (m % 2) 1 ≡ eqb (n % 2) 1 → m % 2 ≡ n % 2
    odd_same m n h = grind (arith, nat_tests)

pub word_zeros : (w n : ℕ) → word w (n * 2 ^ w) ≡ replicate w false
unfolding word
word_zeros zero n = refl
word_zeros (suc w) n = rw (shifted_half n w, shifted_even n w, word_zeros w n, replicate_more w false, add-one w) refl

-- a number shifted left has its bits first and then zeros
pub word_shl : (a b n : ℕ) → word (a + b) (n * 2 ^ b) ≡ word a n ++ replicate b false
word_shl a b n = rw (word_split a b (n * 2 ^ b), shl-shr n b, word_zeros b n) refl

-- the first a bits of a number, and zeros behind them
pub word_kept : (a b n : ℕ) → word (a + b) (n / 2 ^ b * 2 ^ b) ≡ take a (word (a + b) n) ++ replicate b false
word_kept a b n = rw (word_shl a b (n / 2 ^ b), take_word a b n) refl

-- the bit behind the first a
pub word_bit : (a b n : ℕ) → get_or (word (a + suc b) n) a false ≡ eqb (n / 2 ^ b % 2) 1
unfolding word
word_bit a b n =
    let low : word (suc b) n ≡ eqb (n / 2 ^ b % 2) 1 ∷ word b n = ap (λ k. word k n) (sym (one-add b)) ∙ word_split 1 b n in
    rw (word_split a (suc b) n, low) (get_or_at (word a (n / 2 ^ suc b)) _ _ false a (length_word a _))

or_one : (m : ℕ) → bit_or m 1 ≡ m / 2 * 2 + 1
or_one m =
    let step : bit_or m 1 ≡ bit_or (m / 2) 0 * 2 + max (m % 2) 1 = or_step m 1 in
    let rest = or_zero_r (m / 2) in
    omega arith

word_odd : (a q : ℕ) → word (suc a) (q * 2 + 1) ≡ word a q ++ (true ∷ [])
unfolding word
word_odd a q =
    let high : (q * 2 + 1) / 2 ≡ q = omega arith in
    let low : (q * 2 + 1) % 2 ≡ 1 = omega arith in
    rw (high, low) refl

-- the first a bits of a number, a bit that is 1, and zeros behind it
pub word_marked : (a b n : ℕ) → word (a + suc b) (bit_or (n / 2 ^ b) 1 * 2 ^ b) ≡ take a (word (a + suc b) n) ++ (true ∷ replicate b false)
word_marked a b n =
    let q : ℕ = n / 2 ^ suc b in
    let half : n / 2 ^ b / 2 ≡ q = shr-shr n b 1 ∙ ap (λ k. n / 2 ^ k) (add-one b) in
    let odd : bit_or (n / 2 ^ b) 1 ≡ q * 2 + 1 = or_one (n / 2 ^ b) ∙ ap (λ k. k * 2 + 1) half in
    let move : a + suc b ≡ suc a + b = omega arith in
    let shifted : word (a + suc b) ((q * 2 + 1) * 2 ^ b) ≡ (word a q ++ (true ∷ [])) ++ replicate b false =
    ap (λ k. word k ((q * 2 + 1) * 2 ^ b)) move ∙ word_shl (suc a) b (q * 2 + 1) ∙ ap (λ xs. xs ++ replicate b false) (word_odd a q) in
    rw (odd, shifted, append_assoc, take_word a (suc b) n) refl

-- the same at a place below the width
pub bit_of_word : (w n i : ℕ) → i < w → get_or (word w n) i false ≡ eqb (n / 2 ^ (w - 1 - i) % 2) 1
bit_of_word w n i h =
    let e : w ≡ i + suc (w - 1 - i) = omega arith in
    ap (λ k. get_or (word k n) i false) e ∙ word_bit i (w - 1 - i) n

pub kept_word : (w n d : ℕ) → d ≤ w → word w (n / 2 ^ (w - d) * 2 ^ (w - d)) ≡ padded w (take d (word w n))
kept_word w n d h =
    let e : d + (w - d) ≡ w = omega arith in
    let m : length (take d (word w n)) ≡ d = length-take-le d (word w n) (omega (arith, length_word w n)) in
    rw m (subst (λ k. word k (n / 2 ^ (w - d) * 2 ^ (w - d)) ≡ take d (word k n) ++ replicate (w - d) false) e (word_kept d (w - d) n))

pub kept_whole : (w n d : ℕ) → w ≤ d → word w n ≡ padded w (take d (word w n))
kept_whole w n d h =
    let m = length_word w n in
    let whole : take d (word w n) ≡ word w n = take_all d (word w n) (omega arith) in
    let none : w - length (word w n) ≡ 0 = omega arith in
    rw (whole, none, append-nil) refl

pub marked_word : (w n i : ℕ) → i < w → word w (bit_or (n / 2 ^ (w - 1 - i)) 1 * 2 ^ (w - 1 - i)) ≡ take i (word w n) ++ (true ∷ replicate (w - 1 - i) false)
marked_word w n i h =
    let e : i + suc (w - 1 - i) ≡ w = omega arith in
    subst (λ k. word k (bit_or (n / 2 ^ (w - 1 - i)) 1 * 2 ^ (w - 1 - i)) ≡ take i (word k n) ++ (true ∷ replicate (w - 1 - i) false)) e (word_marked i (w - 1 - i) n)

-- both stay within the width
pub kept_fits : (w n k : ℕ) → n < 2 ^ w → n / 2 ^ k * 2 ^ k < 2 ^ w
kept_fits w n k h = omega (arith, shr_split n k)

pub marked_fits : (w n i : ℕ) → i < w → n < 2 ^ w → bit_or (n / 2 ^ (w - 1 - i)) 1 * 2 ^ (w - 1 - i) < 2 ^ w
marked_fits w n i h s =
    let k : ℕ = w - 1 - i in
    let e : suc i + k ≡ w = omega arith in
    let high : n / 2 ^ k < 2 ^ suc i = shr_below n (suc i) k (rw e s) in
    let low : 1 < 2 ^ suc i = omega (arith, pow-suc 2 i, pow_pos i) in
    rw e at (shl_below (bit_or (n / 2 ^ k) 1) (suc i) k (or_lt (suc i) (n / 2 ^ k) 1 high low))
