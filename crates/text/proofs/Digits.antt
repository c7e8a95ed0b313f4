-- Decimal and hexadecimal digits, read from left to right. Assumes nothing.
use Rattle.std.proofs.Common.{◌≡◌, ℕ, zero, suc, ◌+◌, ◌-◌, ◌*◌, ◌/◌, ◌%◌, ◌^◌, ◌<◌, ◌≤◌, cond, ◌⊎◌, List, [], ◌∷◌, ◌++◌, length, get_or, drop, Some, None, Option, sym, refl, ap, ◌∙◌, subst, mul_assoc, pow-suc, add-one, arith}
use native.Mathlib.Nat.{pow-le-pow_right}
use Rattle.std.proofs.lemmas.Option.{none-some}
use Rattle.std.proofs.lemmas.List.{append_assoc, append-nil, at_drop_more, at_drop_all, length-append}
use Rattle.std.proofs.lemmas.Nat.{pow-add}
use Rattle.std.proofs.lemmas.Bool.Decides.{nat_tests}
use Rattle.bits.specs.Rows.{Bits, word}
use Rattle.bits.proofs.Words.{length_word, word_split}
use Rattle.text.specs.Fields.{is_digit, decimal, decimal_from, hex_digit, joined, hex_row}

-- the digits before place i write n
pub record Written (bs : List ℕ) (i n : ℕ) : Type 0 where
  pub rest : decimal_from n (drop i bs) ≡ decimal_from 0 bs
  pub small : n < 10 ^ i

pub written_none : (bs : List ℕ) → Written bs 0 0
written_none bs = record { rest = refl; small = omega arith }

decimal_step : (bs : List ℕ) (i n : ℕ) → i < length bs
    → decimal_from n (drop i bs) ≡ cond (is_digit (get_or bs i 0)) (decimal_from (n * 10 + (get_or bs i 0 - 48)) (drop (i + 1) bs)) None
unfolding decimal_from
decimal_step bs i n h = at_drop_more (decimal_from n) bs i 0 h

-- there is room for one digit more
pub written_room : (bs : List ℕ) (i n : ℕ) → i < 5 → Written bs i n → n < 10000
written_room bs i n h w =
    let m : 10 ^ i ≤ 10 ^ 4 = pow-le-pow_right {n = 10} (omega arith) {i = i} {j = 4} (omega arith) in
    let s = w.small in
    omega arith

-- a byte is a digit of this value
abbrev pub digit_of : ℕ → Option ℕ
digit_of b = cond (is_digit b) (Some (b - 48)) None

pub written_more : (bs : List ℕ) (i n d : ℕ) → i < length bs → digit_of (get_or bs i 0) ≡ Some d → Written bs i n → Written bs (i + 1) (n * 10 + d)
written_more bs i n d h e w = record {
  rest = sym (decimal_step bs i n h ∙ chosen (get_or bs i 0) e (λ d. decimal_from (n * 10 + d) (drop (i + 1) bs))) ∙ w.rest;
  small =
      let k : 10 ^ (i + 1) ≡ 10 ^ i * 10 = ap (λ m. 10 ^ m) (add-one i) ∙ pow-suc 10 i in
      let s = w.small in
      let top : d ≤ 9 = digit_top (get_or bs i 0) e in
      rw k (omega arith);
}
  where
    chosen : (b : ℕ) → digit_of b ≡ Some d → (f : ℕ → Option ℕ) → cond (is_digit b) (f (b - 48)) None ≡ f d
    chosen b e f = grind (arith, nat_tests)

    digit_top : (b : ℕ) → digit_of b ≡ Some d → d ≤ 9
    digit_top b e = grind (arith, nat_tests)

pub written_bad : (bs : List ℕ) (i n : ℕ) → i < length bs → digit_of (get_or bs i 0) ≡ None → Written bs i n → None ≡ decimal_from 0 bs
written_bad bs i n h e w = sym (decimal_step bs i n h ∙ lost (get_or bs i 0) e (λ d. decimal_from (n * 10 + d) (drop (i + 1) bs))) ∙ w.rest
  where
    lost : (b : ℕ) → digit_of b ≡ None → (f : ℕ → Option ℕ) → cond (is_digit b) (f (b - 48)) None ≡ None
    lost b e f = grind (arith, nat_tests)

pub written_all : (bs : List ℕ) (i n : ℕ) → length bs ≤ i → Written bs i n → Some n ≡ decimal_from 0 bs
unfolding decimal_from
written_all bs i n h w = sym (at_drop_all (decimal_from n) bs i h) ∙ w.rest

-- where a field is well sized
module _ (bs : List ℕ) (few : length bs ≤ 5) (some : length bs ≡ 0 → ⊥) (lead : (get_or bs 0 0 ≡ 48 → ⊥) ⊎ (length bs ≤ 1)) where
  pub sized : decimal bs ≡ decimal_from 0 bs
  sized = grind (arith, nat_tests)

-- a row in front of another
abbrev pub behind : Bits → Option Bits → Option Bits
behind p None = None
behind p (Some q) = Some (p ++ q)

-- the hexadecimal digits before place i write n
pub record HexWritten (bs : List ℕ) (i n : ℕ) : Type 0 where
  pub rest : behind (word (4 * i) n) (hex_row (drop i bs)) ≡ hex_row bs
  pub small : n < 2 ^ (4 * i)

low_digit : (w n d : ℕ) → d < 16 → (n * 16 + d) / 2 ^ 4 ≡ n
low_digit w n d h = omega arith

-- the lowest bits of a number are those of its remainder
word_low : (k n d : ℕ) → word k (n * 2 ^ k + d) ≡ word k d
unfolding word
word_low zero n d = refl
word_low (suc k) n d =
    let e : n * 2 ^ suc k ≡ n * 2 ^ k * 2 = ap (λ m. n * m) (pow-suc 2 k) ∙ sym (mul_assoc n (2 ^ k) 2) in
    let high : (n * 2 ^ k * 2 + d) / 2 ≡ n * 2 ^ k + d / 2 = omega arith in
    let low : (n * 2 ^ k * 2 + d) % 2 ≡ d % 2 = omega arith in
    rw (e, high, low, word_low k n (d / 2)) refl

word_digit : (w n d : ℕ) → d < 16 → word (w + 4) (n * 16 + d) ≡ word w n ++ word 4 d
word_digit w n d h = word_split w 4 (n * 16 + d) ∙ ap (λ m. word w m ++ word 4 (n * 16 + d)) (low_digit w n d h) ∙ ap (λ r. word w n ++ r) (word_low 4 n d)

pub hex_none : (bs : List ℕ) → HexWritten bs 0 0
unfolding word
hex_none bs = record { rest = start (hex_row bs); small = omega arith }
  where
    start : (o : Option Bits) → behind (word (4 * 0) 0) o ≡ o
    start None = refl
    start (Some q) = refl

hex_step : (bs : List ℕ) (i : ℕ) → i < length bs → hex_row (drop i bs) ≡ joined (hex_digit (get_or bs i 0)) (hex_row (drop (i + 1) bs))
unfolding hex_row
hex_step bs i h = at_drop_more hex_row bs i 0 h

pub hex_digit_small : (b d : ℕ) → hex_digit b ≡ Some d → d < 16
hex_digit_small b d e = grind (arith, nat_tests)

pub hex_more : (bs : List ℕ) (i n d : ℕ) → i < length bs → hex_digit (get_or bs i 0) ≡ Some d → HexWritten bs i n → HexWritten bs (i + 1) (n * 16 + d)
hex_more bs i n d h e w = record {
  rest =
      let more = 4 * (i + 1) in
      let s : 4 * (i + 1) ≡ 4 * i + 4 = omega arith in
      ap (λ k. behind (word k (n * 16 + d)) (hex_row (drop (i + 1) bs))) s
      ∙ moved (hex_row (drop (i + 1) bs))
      ∙ sym (ap (behind (word (4 * i) n)) (hex_step bs i h ∙ ap (λ o. joined o (hex_row (drop (i + 1) bs))) e)) ∙ w.rest;
  small =
      let k : 2 ^ (4 * (i + 1)) ≡ 2 ^ (4 * i) * 16 = ap (λ m. 2 ^ m) (let s : 4 * (i + 1) ≡ 4 * i + 4 = omega arith in s) ∙ pow-add 2 (4 * i) 4 in
      let s = w.small in
      let digit = hex_digit_small (get_or bs i 0) d e in
      rw k (omega arith);
}
  where
    moved : (o : Option Bits) → behind (word (4 * i + 4) (n * 16 + d)) o ≡ behind (word (4 * i) n) (joined (Some d) o)
    moved None = refl
    moved (Some q) = ap (λ r. Some (r ++ q)) (word_digit (4 * i) n d (hex_digit_small (get_or bs i 0) d e)) ∙ ap Some (append_assoc (word (4 * i) n) (word 4 d) q)

pub hex_bad : (bs : List ℕ) (i n : ℕ) → i < length bs → hex_digit (get_or bs i 0) ≡ None → HexWritten bs i n → hex_row bs ≡ None
hex_bad bs i n h e w = sym w.rest ∙ ap (behind (word (4 * i) n)) (hex_step bs i h ∙ ap (λ o. joined o (hex_row (drop (i + 1) bs))) e) ∙ lost (hex_row (drop (i + 1) bs))
  where
    lost : (o : Option Bits) → behind (word (4 * i) n) (joined None o) ≡ None
    lost None = refl
    lost (Some q) = refl

pub hex_all : (bs : List ℕ) (i n : ℕ) → i ≡ length bs → HexWritten bs i n → (hex_row bs ≡ Some (word (4 * length bs) n)) × (n < 2 ^ (4 * length bs))
unfolding hex_row
hex_all bs i n h w = (
  sym w.rest ∙ ap (behind (word (4 * i) n)) (at_drop_all hex_row bs i (omega arith)) ∙ ap Some (append-nil (word (4 * i) n)) ∙ ap (λ k. Some (word (4 * k) n)) h,
  subst (λ k. n < 2 ^ (4 * k)) h w.small,
)

-- one row behind the other, where both are there
abbrev pub both : Option Bits → Option Bits → Option Bits
both None y = None
both (Some p) y = behind p y

pub hex_append : (xs ys : List ℕ) → hex_row (xs ++ ys) ≡ both (hex_row xs) (hex_row ys)
unfolding hex_row
hex_append [] ys = whole (hex_row ys)
  where
    whole : (o : Option Bits) → o ≡ behind [] o
    whole None = refl
    whole (Some q) = refl
hex_append (b ∷ xs) ys = ap (joined (hex_digit b)) (hex_append xs ys) ∙ grouped (hex_digit b) (hex_row xs) (hex_row ys)
  where
    grouped : (o : Option ℕ) (p q : Option Bits) → joined o (both p q) ≡ both (joined o p) q
    grouped None None None = refl
    grouped None None (Some q) = refl
    grouped None (Some p) None = refl
    grouped None (Some p) (Some q) = refl
    grouped (Some d) None None = refl
    grouped (Some d) None (Some q) = refl
    grouped (Some d) (Some p) None = refl
    grouped (Some d) (Some p) (Some q) = ap Some (sym (append_assoc (word 4 d) p q))

pub hex_room : (bs : List ℕ) (i n : ℕ) → i < 16 → HexWritten bs i n → n < 2 ^ 60
hex_room bs i n h w = let m : 2 ^ (4 * i) ≤ 2 ^ 60 = pow-le-pow_right {n = 2} (omega arith) {i = 4 * i} {j = 60} (omega arith) in let s = w.small in omega arith

-- four bits for each digit
pub hex_length : (bs : List ℕ) (q : Bits) → hex_row bs ≡ Some q → length q ≡ 4 * length bs
unfolding hex_row
hex_length [] q e = let z : [] ≡ q = cc in sym (ap length z)
hex_length (b ∷ bs) q e = go (hex_digit b) (hex_row bs) (λ p. hex_length bs p) e
  where
    go : (d : Option ℕ) (o : Option Bits) → ((p : Bits) → o ≡ Some p → length p ≡ 4 * length bs) → joined d o ≡ Some q → length q ≡ 4 * suc (length bs)
    go None None ih f = absurd (none-some _ f)
    go None (Some p) ih f = absurd (none-some _ f)
    go (Some d) None ih f = absurd (none-some _ f)
    go (Some d) (Some p) ih f =
        let z : word 4 d ++ p ≡ q = cc in
        let long = ih p refl in
        let sum = length-append (word 4 d) p in
        let four = length_word 4 d in
        let same : length q ≡ length (word 4 d ++ p) = ap length (sym z) in
        omega arith
