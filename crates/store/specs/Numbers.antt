-- How many rows a map has, and that a count of entries is that number: the law of a flat row. Assumes nothing.
use Rattle.std.proofs.Common.{◌≡◌, ℕ, zero, suc, ◌≤◌, Bool, true, false, cond, List, [], ◌∷◌, length, Some, None, Option, sym, refl, ◌∙◌, inl, inr, arith}
use Rattle.std.proofs.lemmas.Bool.{cases_Bool, cases_lt, true≢false, both_ways, lt-ltb}
use Rattle.std.proofs.lemmas.List.{get_or_past}
use Rattle.std.proofs.lemmas.List.Quantifiers.{position-Some}
use Rattle.std.proofs.lemmas.List.Sums.{count_by-le-length, fails_before_first, sum_by-cons}
use Rattle.std.specs.List.{position_or_len}
use Rattle.bits.specs.Lists.{any}
use Rattle.bits.specs.Rows.{Bits, same}
use Rattle.bits.proofs.Fronts.{same_self}
use Rattle.bits.proofs.Sets.{NoRepeats}
use Rattle.net.specs.Prefix.{row_of}
use Rattle.store.specs.Content.{Listed, Counted, Sound, present}
use Rattle.store.specs.Slots.{Slot, at, holds, taken, told_by, spot, told_in, used, Apart, row_content}

-- no slot has a row that has no spot
pub spot_absent : (xs : List Slot) (q : Bits) → spot xs q ≡ None → (i : ℕ) → holds q (at xs i) ≡ false
spot_absent xs q e i =
    elim (cases_lt i (length xs)) [
      | inl l ↦ elim (cases_lt i (position_or_len (holds q) xs)) [
        | inl m ↦ fails_before_first (holds q) xs i None m
        | inr m ↦ (let t = lt-ltb (position_or_len (holds q) xs) (length xs) (omega arith) in let z : ◌≡◌ {A = ℕ} 0 1 = cc (rw t at e) in absurd (omega arith))
      ]
      | inr m ↦ rw (get_or_past xs i None m) refl
    ]

-- the rows of the entries, in the order of the slots
abbrev pub rows : List Slot → List Bits
rows [] = []
rows (None ∷ xs) = rows xs
rows (Some e ∷ xs) = row_of e.prefix ∷ rows xs

rows_number : (xs : List Slot) → length (rows xs) ≡ used xs
rows_number [] = refl
rows_number (None ∷ xs) = omega (arith, rows_number xs)
rows_number (Some e ∷ xs) = omega (arith, rows_number xs, sum_by-cons (λ s. cond (taken s) 1 0) (Some e) xs)

row_held : (xs : List Slot) (q : Bits) → any (same q) (rows xs) ≡ true → (i : ℕ) × (holds q (at xs i) ≡ true)
row_held [] q h = absurd (true≢false (sym h))
row_held (None ∷ xs) q h = let ih = row_held xs q h in (suc ih.0, ih.1)
row_held (Some s ∷ xs) q h = go (same q (row_of s.prefix)) refl (row_held xs q)
  where
    go : (b : Bool) → same q (row_of s.prefix) ≡ b → (any (same q) (rows xs) ≡ true → (i : ℕ) × (holds q (at xs i) ≡ true)) → (i : ℕ) × (holds q (at (Some s ∷ xs) i) ≡ true)
    go true e ih = (0, e)
    go false e ih = let r = ih (grind arith) in (suc r.0, r.1)

held_row : (xs : List Slot) (q : Bits) (i : ℕ) → holds q (at xs i) ≡ true → any (same q) (rows xs) ≡ true
held_row [] q i h = absurd (true≢false (sym h))
held_row (None ∷ xs) q zero h = absurd (true≢false (sym h))
held_row (None ∷ xs) q (suc i) h = held_row xs q i h
held_row (Some e ∷ xs) q zero h = grind arith
held_row (Some e ∷ xs) q (suc i) h = let ih = held_row xs q i h in grind arith

-- a slot that holds a row tells of it
pub held_told : (q : Bits) (s : Slot) → holds q s ≡ true → present (told_by s) ≡ true
held_told q None h = absurd (true≢false (sym h))
held_told q (Some e) h = refl

rows_all : (xs : List Slot) (q : Bits) → any (same q) (rows xs) ≡ present (told_in xs q)
rows_all xs q = go (spot xs q) refl
  where
    go : (o : Option ℕ) → spot xs q ≡ o → any (same q) (rows xs) ≡ present (told_in xs q)
    go None e =
        rw e (elim (cases_Bool (any (same q) (rows xs))) [ inl t ↦ absurd (let r = row_held xs q t in both_ways _ (spot_absent xs q e r.0) r.1) | inr f ↦ f ])
    go (Some i) e = let h = (position-Some (holds q) xs i None e).1 in rw e (held_row xs q i h ∙ sym (held_told q (at xs i) h))

apart_tail : (s : Slot) (xs : List Slot) → Apart (s ∷ xs) → Apart xs
apart_tail s xs apart q i j h k = omega (arith, apart q (suc i) (suc j) h k)

rows_once : (xs : List Slot) → Apart xs → NoRepeats same (rows xs)
rows_once [] apart = tt
rows_once (None ∷ xs) apart = rows_once xs (apart_tail None xs apart)
rows_once (Some e ∷ xs) apart = (new, rows_once xs (apart_tail (Some e) xs apart))
  where
    new : any (same (row_of e.prefix)) (rows xs) ≡ false
    new =
        elim (cases_Bool (any (same (row_of e.prefix)) (rows xs))) [
          | inl t ↦ (let r = row_held xs (row_of e.prefix) t in absurd (let z : 0 ≡ suc r.0 = apart (row_of e.prefix) 0 (suc r.0) (same_self (row_of e.prefix)) r.1 in omega arith))
          | inr f ↦ f
        ]

pub rows_listed : (xs : List Slot) → Apart xs → Listed (told_in xs) (used xs) (rows xs)
rows_listed xs apart = record { once = rows_once xs apart; all = rows_all xs; long = rows_number xs }

pub used_counted : (xs : List Slot) → Apart xs → Counted (told_in xs) (used xs)
used_counted xs apart = ∣ (rows xs, rows_listed xs apart) ∣₁

-- a flat row is sound, whatever it holds
pub row_sound : (xs : List Slot) (n : ℕ) → Apart xs → n ≡ used xs → n ≤ 1048576 → Sound (row_content xs)
row_sound xs n apart counted few =
    record { within = omega (arith, count_by-le-length taken xs); most = omega arith; counted = used_counted xs apart }
