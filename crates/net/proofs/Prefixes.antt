-- A prefix and its row. Assumes nothing.
use Rattle.std.proofs.Common.{◌≡◌, ℕ, ◌-◌, ◌^◌, ◌<◌, ◌≤◌, Bool, not, ◌&&◌, true, false, eqb, length, get_or, take, drop, sym, ap, ◌∙◌, subst, inl, inr, arith}
use mathlib.Core.HLevel.{×_prop}
use mathlib.Core.Bool.{Bool-set}
use native.Mathlib.Bridge.{le_prop}
use Rattle.std.proofs.lemmas.List.{length-take-le}
use Rattle.std.proofs.lemmas.Bool.{cases_Bool, both_ways}
use Rattle.std.proofs.lemmas.Bool.Decides.{nat_tests}
use Rattle.bits.specs.Rows.{Bits, any_one, halves, padded, same}
use Rattle.bits.proofs.Tests.{same_is, never}
use Rattle.bits.proofs.Fronts.{clear_is, padded_clear, padded_front, bit_zeros}
use Rattle.bits.proofs.Members.{same_self}
use Rattle.net.specs.declared.prefix.Prefix.{Prefix}
use Rattle.net.specs.Prefix.{row_of}
use Rattle.bits.proofs.Pairs.{length_halves, halves_injective}

pub length_row : (p : Prefix) → length (row_of p) ≡ p.len
unfolding row_of
length_row p = length-take-le p.len _ (let e = length_halves p.halves.first p.halves.second in let s = p.short in omega arith)

-- both halves hold the row, and zeros behind it
pub row_padded : (p : Prefix) → halves p.halves.first p.halves.second ≡ padded 128 (row_of p)
unfolding row_of
row_padded p =
    clear_is p.len (halves p.halves.first p.halves.second) p.clear
    ∙ ap (λ n. padded n (take p.len (halves p.halves.first p.halves.second))) (length_halves p.halves.first p.halves.second)

-- what holds the row q, and zeros behind it, is the prefix of q
pub clear_padded : (a b n : ℕ) (q : Bits) → length q ≡ n → halves a b ≡ padded 128 q → any_one (drop n (halves a b)) ≡ false
clear_padded a b n q e h = rw h (padded_clear 128 n q e)

pub row_is : (p : Prefix) (q : Bits) → length q ≡ p.len → halves p.halves.first p.halves.second ≡ padded 128 q → row_of p ≡ q
unfolding row_of
row_is p q e h = rw h (padded_front 128 p.len q e)

pub same_halves : (p q : Prefix) → row_of p ≡ row_of q → (p.halves.first ≡ q.halves.first) × (p.halves.second ≡ q.halves.second)
same_halves p q e = halves_injective _ _ _ _ p.fits q.fits (row_padded p ∙ ap (padded 128) e ∙ sym (row_padded q))

pub halves_are : (p : Prefix) (a b : ℕ) → (a < 2 ^ 64) × (b < 2 ^ 64) → halves a b ≡ padded 128 (row_of p) → (a ≡ p.halves.first) × (b ≡ p.halves.second)
halves_are p a b f e = halves_injective _ _ _ _ f p.fits (e ∙ sym (row_padded p))

pub same_length : (p q : Prefix) → row_of p ≡ row_of q → p.len ≡ q.len
same_length p q e = sym (length_row p) ∙ ap length e ∙ length_row q

abbrev made : (a b n : ℕ) → n ≤ 128 → (a < 2 ^ 64) × (b < 2 ^ 64) → any_one (drop n (halves a b)) ≡ false → Prefix
made a b n x y z = record { halves = record { first = a; second = b }; len = n; short = x; fits = y; clear = z }

pub one_for_a_row : (p q : Prefix) → row_of p ≡ row_of q → p ≡ q
one_for_a_row p q e =
    let Equal : ℕ → ℕ → ℕ → Type 0 = λ a b n. (x : n ≤ 128) (y : (a < 2 ^ 64) × (b < 2 ^ 64)) (z : any_one (drop n (halves a b)) ≡ false) → p ≡ made a b n x y z in
    let here : Equal p.halves.first p.halves.second p.len = λ x y z.
    ap (λ k. made p.halves.first p.halves.second p.len k p.fits p.clear) (le_prop p.short x)
    ∙ ap (λ k. made p.halves.first p.halves.second p.len x k p.clear) (×_prop le_prop le_prop p.fits y)
    ∙ ap (λ k. made p.halves.first p.halves.second p.len x y k) (Bool-set _ _ p.clear z) in
    let firsts : Equal q.halves.first p.halves.second p.len = subst (λ a. Equal a p.halves.second p.len) (same_halves p q e).0 here in
    let seconds : Equal q.halves.first q.halves.second p.len = subst (λ b. Equal q.halves.first b p.len) (same_halves p q e).1 firsts in
    let all : Equal q.halves.first q.halves.second q.len = subst (λ n. Equal q.halves.first q.halves.second n) (same_length p q e) seconds in
    all q.short q.fits q.clear

-- `==` compares the fields, and so the rows
abbrev pub equal : Prefix → Prefix → Bool
equal p q = (eqb p.halves.first q.halves.first && eqb p.halves.second q.halves.second) && eqb p.len q.len

pub equal_by_row : (p q : Prefix) → equal p q ≡ same (row_of p) (row_of q)
unfolding row_of
equal_by_row p q =
    elim (cases_Bool (same (row_of p) (row_of q))) [
      | inl s ↦ (let e = one_for_a_row p q (same_is _ _ s) in rw (s, e) (equal_self q))
      | inr s ↦ rw s (never (equal p q) (λ e. both_ways _ s (rw (fields e) (same_self (row_of q)))))
    ]
  where
    equal_self : (q : Prefix) → equal q q ≡ true
    equal_self q = grind (arith, nat_tests)

    fields : equal p q ≡ true → row_of p ≡ row_of q
    fields e = grind (arith, nat_tests)

pub row_bit : (p : Prefix) (i : ℕ) → get_or (halves p.halves.first p.halves.second) i false ≡ get_or (row_of p) i false
row_bit p i = ap (λ r. get_or r i false) (row_padded p) ∙ bit_zeros i (row_of p) (128 - length (row_of p))

-- whether the halves a and b lose a bit when they are cut to n bits
module _ (p : Prefix) (a b n : ℕ) (f : (a < 2 ^ 64) × (b < 2 ^ 64)) (e : row_of p ≡ take n (halves a b)) (s : n ≤ 128) where
  pub none_lost : not (eqb p.halves.first a && eqb p.halves.second b) ≡ false → any_one (drop n (halves a b)) ≡ false
  none_lost t =
      let x : p.halves.first ≡ a = grind (arith, nat_tests) in
      let y : p.halves.second ≡ b = grind (arith, nat_tests) in
      let cut : length (row_of p) ≡ n = ap length e ∙ length-take-le n (halves a b) (omega (arith, length_halves a b)) in
      let whole : halves a b ≡ padded 128 (row_of p) = ap (λ k. halves k b) (sym x) ∙ ap (λ k. halves p.halves.first k) (sym y) ∙ row_padded p in
      clear_padded a b n (row_of p) cut whole

  pub some_lost : not (eqb p.halves.first a && eqb p.halves.second b) ≡ true → any_one (drop n (halves a b)) ≡ true
  some_lost t =
      elim (cases_Bool (any_one (drop n (halves a b)))) [
        | inl s ↦ s
        | inr s ↦ (let whole : halves p.halves.first p.halves.second ≡ halves a b =
            row_padded p ∙ ap (padded 128) e ∙ ap (λ m. padded m (take n (halves a b))) (sym (length_halves a b)) ∙ sym (clear_is n (halves a b) s) in
            let parts = halves_injective _ _ _ _ p.fits f whole in
            grind (arith, nat_tests))
      ]
