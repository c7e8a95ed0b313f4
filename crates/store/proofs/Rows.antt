-- The calls on a flat row, by the content of its slots. Assumes nothing.
use Rattle.std.proofs.Common.{◌≡◌, ℕ, zero, suc, ◌+◌, ◌<◌, min, true, false, cond, eqb, List, [], ◌∷◌, length, set, replicate, Some, None, Ok, Err, sym, refl, ap, ◌∙◌, inl, inr, arith}
use Rattle.std.proofs.lemmas.Bool.{cases_Bool, true≢false, both_ways}
use Rattle.std.proofs.lemmas.Bool.Decides.{nat_tests}
use Rattle.std.proofs.lemmas.List.Sums.{sum_by-cons}
use Rattle.std.proofs.lemmas.List.Quantifiers.{position-Some}
use Rattle.bits.specs.Rows.{Bits, same}
use Rattle.bits.proofs.Tests.{same_is}
use Rattle.net.specs.Prefix.{row_of}
use Rattle.refusal.specs.declared.Refusal.TheVariants.{Hop, StoreFull}
use Rattle.store.specs.Content.{Content, absent, present, bad_hop, Wrote, Puts, Removes, Empty}
use Rattle.store.specs.Numbers.{held_told}
use Rattle.store.specs.Slots.{Slot, at, holds, told_by, taken, spot, told_at, told_in, used, Apart, row_content}
use Rattle.store.specs.declared.slot.Entry.{Entry}
use Rattle.store.proofs.Spots.{of_free, of_entry, site_held, site_free, Written, written, spot_none, not_taken}

-- free slots, however many
pub free_at : (n i : ℕ) → at (replicate n None) i ≡ None
free_at zero i = refl
free_at (suc n) zero = refl
free_at (suc n) (suc i) = free_at n i

pub used_none : (xs : List Slot) → ((k : ℕ) → k < length xs → at xs k ≡ None) → used xs ≡ 0
used_none [] free = refl
used_none (s ∷ xs) free =
    let here = free 0 (omega arith) in
    let ih = used_none xs (λ k l. free (suc k) (omega arith)) in
    let more = sum_by-cons (λ s. cond (taken s) 1 0) s xs in
    grind arith

pub told_none : (xs : List Slot) (q : Bits) → ((k : ℕ) → k < length xs → at xs k ≡ None) → told_in xs q ≡ absent
told_none xs q free = ap (told_at xs) (spot_none xs q (λ k l. rw (free k l) refl))

pub row_empty : (xs : List Slot) → ((k : ℕ) → k < length xs → at xs k ≡ None) → Empty (row_content xs)
row_empty xs free = record { rows = λ q. told_none xs q free; number = used_none xs free }

pub apart_none : (xs : List Slot) → used xs ≡ 0 → Apart xs
apart_none xs none q i j h k = absurd (both_ways _ (not_taken q (at xs i) (free xs none i)) h)
  where
    free : (xs : List Slot) → used xs ≡ 0 → (i : ℕ) → taken (at xs i) ≡ false
    free [] e i = refl
    free (s ∷ xs) e zero = let more = sum_by-cons (λ s. cond (taken s) 1 0) s xs in grind arith
    free (s ∷ xs) e (suc i) = free xs (omega (arith, sum_by-cons (λ s. cond (taken s) 1 0) s xs)) i

row_wrote : (xs ys : List Slot) (q : Bits) (i : ℕ) (s : Slot) → Written xs q i s ys → Wrote q (told_by s) (row_content xs) (row_content ys)
row_wrote xs ys q i s w = record { rows = w.tells; number = w.number }

pub held_present : (xs : List Slot) (q : Bits) (i : ℕ) → spot xs q ≡ Some i → present (told_in xs q) ≡ true
held_present xs q i e = rw e (held_told q (at xs i) (position-Some (holds q) xs i None e).1)

module _ (xs : List Slot) (apart : Apart xs) (s : Entry) where
  pub put_held : (i : ℕ) → spot xs (row_of s.prefix) ≡ Some i → bad_hop s.hop ≡ false → Puts (row_of s.prefix) s.hop (row_content xs) (row_content (set xs i (Some s))) (Ok tt)
  put_held i e good =
      let there = held_present xs (row_of s.prefix) i e in
      (rw (good, there) refl, row_wrote xs _ (row_of s.prefix) i (Some s) (written xs (row_of s.prefix) i (site_held xs (row_of s.prefix) i apart e) (Some s) (of_entry s)))

  pub put_new : (i : ℕ) → spot xs (row_of s.prefix) ≡ None → i < length xs → taken (at xs i) ≡ false → (used xs ≡ (row_content xs).limit → ⊥) → bad_hop s.hop ≡ false
      → Puts (row_of s.prefix) s.hop (row_content xs) (row_content (set xs i (Some s))) (Ok tt)
  put_new i e l f room good =
      let full : eqb (used xs) (min (length xs) 1048576) ≡ false = grind (arith, nat_tests) in
      (rw (good, e, full) refl, row_wrote xs _ (row_of s.prefix) i (Some s) (written xs (row_of s.prefix) i (site_free xs (row_of s.prefix) i apart e l f) (Some s) (of_entry s)))

  pub put_full : spot xs (row_of s.prefix) ≡ None → used xs ≡ (row_content xs).limit → bad_hop s.hop ≡ false → Puts (row_of s.prefix) s.hop (row_content xs) (row_content xs) (Err StoreFull)
  put_full e full good =
      let t : eqb (used xs) (min (length xs) 1048576) ≡ true = grind (arith, nat_tests) in
      (rw (good, e, t) refl, refl)

  -- what a write leaves of the facts in the row's type
  pub replaced : (i : ℕ) → spot xs (row_of s.prefix) ≡ Some i → Apart (set xs i (Some s)) × (used (set xs i (Some s)) ≡ used xs)
  replaced i e =
      let w = written xs (row_of s.prefix) i (site_held xs (row_of s.prefix) i apart e) (Some s) (of_entry s) in
      let there = held_present xs (row_of s.prefix) i e in
      let n = w.number in
      (w.apart, grind arith)

  pub entered : (i : ℕ) → spot xs (row_of s.prefix) ≡ None → i < length xs → taken (at xs i) ≡ false → Apart (set xs i (Some s)) × (used (set xs i (Some s)) ≡ used xs + 1)
  entered i e l f =
      let w = written xs (row_of s.prefix) i (site_free xs (row_of s.prefix) i apart e l f) (Some s) (of_entry s) in
      let none : told_in xs (row_of s.prefix) ≡ absent = rw e refl in
      let n = w.number in
      (w.apart, grind arith)

pub put_bad : (c : Content) (q : Bits) (h : ℕ) → bad_hop h ≡ true → Puts q h c c (Err Hop)
put_bad c q h bad = (rw bad refl, refl)

-- a row whose slots all have an entry is full
pub all_taken : (xs : List Slot) → ((i : ℕ) → i < length xs → taken (at xs i) ≡ true) → used xs ≡ length xs
all_taken [] t = refl
all_taken (s ∷ xs) t =
    let here = t 0 (omega arith) in
    let ih = all_taken xs (λ i l. t (suc i) (omega arith)) in
    let more = sum_by-cons (λ s. cond (taken s) 1 0) s xs in
    grind arith

pub taken_out : (xs : List Slot) → Apart xs → (q : Bits) (i : ℕ) → spot xs q ≡ Some i → Apart (set xs i None) × (used (set xs i None) + 1 ≡ used xs)
taken_out xs apart q i e =
    let w = written xs q i (site_held xs q i apart e) None (of_free q) in
    let there = held_present xs q i e in
    let n = w.number in
    (w.apart, grind arith)

pub removed : (xs : List Slot) → Apart xs → (q : Bits) (i : ℕ) → spot xs q ≡ Some i → Removes q (row_content xs) (row_content (set xs i None)) (told_by (at xs i))
removed xs apart q i e =
    let there = held_present xs q i e in
    record {
      answer = sym (ap (told_at xs) e);
      taken = row_wrote xs _ q i None (written xs q i (site_held xs q i apart e) None (of_free q));
      nothing = λ none. absurd (true≢false (sym there ∙ ap present none));
    }

pub not_there : (c : Content) (q : Bits) → c.map q ≡ absent → Removes q c c None
not_there c q e =
    record {
      answer = sym e;
      taken = record { rows = λ x. elim (cases_Bool (same x q)) [ inl s ↦ rw (s, same_is x q s, e) refl | inr s ↦ rw s refl ]; number = rw e refl };
      nothing = λ _. refl;
    }
