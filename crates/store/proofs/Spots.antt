-- Slots by their numbers: which slot holds a row, what it tells, and what a write leaves. Assumes nothing.
--   Of q s         the slot is free or holds the row q
--   Site xs q i    slot i is the place to write an entry of the row q: it is free or holds q, and no other slot holds q
--   Written        what the write of s at a site leaves, xs before and ys after
use Rattle.std.proofs.Common.{◌≡◌, ℕ, zero, suc, ◌+◌, ◌<◌, true, false, cond, ◌&&◌, ◌≢◌, List, [], ◌∷◌, length, get_or, set, is_some, Some, None, Option, sym, refl, ap, ◌∙◌, subst, inl, inr, arith, get_or-set_other, get_or-set_same}
use Rattle.std.proofs.lemmas.Bool.{cases_Bool, cases_eq, cases_lt, true≢false, both_ways, lt-ltb, le-ltb}
use Rattle.std.proofs.lemmas.List.{get_or_past, get_or_read, length-set}
use Rattle.std.proofs.lemmas.List.Folds.{position_or_len-set}
use Rattle.std.proofs.lemmas.List.Quantifiers.{position-Some}
use Rattle.std.proofs.lemmas.List.Sums.{position_or_len_is, sum_by-set}
use Rattle.bits.specs.Rows.{Bits, same}
use Rattle.bits.proofs.Fronts.{same_self}
use Rattle.bits.proofs.Tests.{same_is}
use Rattle.net.specs.Prefix.{row_of}
use Rattle.store.specs.Content.{size}
use Rattle.store.specs.Numbers.{spot_absent}
use Rattle.store.specs.Slots.{Slot, at, holds, told_by, taken, spot, told_at, told_in, used, Apart}
use Rattle.store.specs.declared.slot.Entry.{Entry}

pub not_taken : (q : Bits) (s : Slot) → taken s ≡ false → holds q s ≡ false
not_taken q None e = refl
not_taken q (Some t) e = absurd (true≢false e)

-- the first slot that holds the row is its spot
pub spot_first : (xs : List Slot) (q : Bits) (i : ℕ) → holds q (at xs i) ≡ true → ((k : ℕ) → k < i → holds q (at xs k) ≡ false) → spot xs q ≡ Some i
spot_first xs q i h before =
    elim (cases_lt i (length xs)) [
      | inl l ↦ (let first = position_or_len_is (holds q) xs i None (omega arith) before (λ _. h) in rw (first, lt-ltb i (length xs) l) refl)
      | inr m ↦ absurd (true≢false (sym h ∙ ap (holds q) (get_or_past xs i None m)))
    ]

-- the same, with the slot as a program reads it
pub spot_read : (xs : List Slot) (q : Bits) (i : ℕ) (s : Slot) → i < length xs → s ≡ get_or xs i s → true ≡ holds q s → ((k : ℕ) → k < i → holds q (at xs k) ≡ false) → spot xs q ≡ Some i
spot_read xs q i s l e h before = spot_first xs q i (ap (holds q) (sym (get_or_read xs i s l e None)) ∙ sym h) before

pub spot_none : (xs : List Slot) (q : Bits) → ((k : ℕ) → k < length xs → holds q (at xs k) ≡ false) → spot xs q ≡ None
spot_none xs q none =
    let past = position_or_len_is (holds q) xs (length xs) None (omega arith) none (λ l. absurd (omega arith)) in
    rw (past, le-ltb (length xs) (length xs) (omega arith)) refl

pub spot_is : (xs : List Slot) (q : Bits) (i : ℕ) → Apart xs → holds q (at xs i) ≡ true → spot xs q ≡ Some i
spot_is xs q i apart h = go (spot xs q) refl
  where
    go : (o : Option ℕ) → spot xs q ≡ o → spot xs q ≡ Some i
    go None e = absurd (both_ways _ (spot_absent xs q e i) h)
    go (Some j) e = e ∙ ap Some (apart q j i (position-Some (holds q) xs j None e).1 h)

-- a write to a slot that did not hold the row and does not hold it now
pub spot_other : (xs : List Slot) (i : ℕ) (s : Slot) (x : Bits) → holds x (at xs i) ≡ false → holds x s ≡ false → spot (set xs i s) x ≡ spot xs x
spot_other xs i s x h k = rw (position_or_len-set (holds x) xs i s None (k ∙ sym h), length-set) refl

told_other : (xs : List Slot) (i : ℕ) (s : Slot) (x : Bits) → holds x (at xs i) ≡ false → holds x s ≡ false → told_in (set xs i s) x ≡ told_in xs x
told_other xs i s x h k = ap (told_at (set xs i s)) (spot_other xs i s x h k) ∙ go (spot xs x) refl
  where
    go : (o : Option ℕ) → spot xs x ≡ o → told_at (set xs i s) (spot xs x) ≡ told_at xs (spot xs x)
    go None e = rw e refl
    go (Some j) e =
        let ne : j ≢ i = λ z. both_ways _ h (subst (λ n. holds x (at xs n) ≡ true) z (position-Some (holds x) xs j None e).1) in
        rw e (ap told_by (get_or-set_other xs i j s None ne))

-- a slot that holds a row is there, and is taken
pub held_inside : (xs : List Slot) (q : Bits) (i : ℕ) → holds q (at xs i) ≡ true → (i < length xs) × (taken (at xs i) ≡ true)
held_inside [] q i h = absurd (true≢false (sym h))
held_inside (None ∷ xs) q zero h = absurd (true≢false (sym h))
held_inside (Some e ∷ xs) q zero h = (omega arith, refl)
held_inside (s ∷ xs) q (suc i) h = let ih = held_inside xs q i h in (omega arith, ih.1)

-- so is a slot that tells something
pub told_inside : (xs : List Slot) (i : ℕ) → is_some (told_by (at xs i)) ≡ true → (i < length xs) × (taken (at xs i) ≡ true)
told_inside [] i t = absurd (true≢false (sym t))
told_inside (None ∷ xs) zero t = absurd (true≢false (sym t))
told_inside (Some e ∷ xs) zero t = (omega arith, refl)
told_inside (s ∷ xs) (suc i) t = let ih = told_inside xs i t in (omega arith, ih.1)

-- to empty a slot that tells nothing changes nothing
pub set_free : (xs : List Slot) (i : ℕ) → is_some (told_by (at xs i)) ≡ false → set xs i None ≡ xs
set_free [] i t = refl
set_free (None ∷ xs) zero t = refl
set_free (Some e ∷ xs) zero t = absurd (true≢false t)
set_free (s ∷ xs) (suc i) t = ap (λ ys. s ∷ ys) (set_free xs i t)

-- to empty a slot keeps rows apart
pub free_apart : (xs : List Slot) (i : ℕ) → Apart xs → Apart (set xs i None)
free_apart xs i apart q j k h g = apart q j k (before j h) (before k g)
  where
    before : (k : ℕ) → holds q (at (set xs i None) k) ≡ true → holds q (at xs k) ≡ true
    before k h =
        elim (cases_eq k i) [
          | inl e ↦ absurd (both_ways _ (freed xs i) (subst (λ n. holds q (at (set xs i None) n) ≡ true) e h))
          | inr ne ↦ rw (← get_or-set_other xs i k None None ne) h
        ]
      where
        freed : (xs : List Slot) (i : ℕ) → holds q (at (set xs i None) i) ≡ false
        freed [] i = refl
        freed (s ∷ xs) zero = refl
        freed (s ∷ xs) (suc i) = freed xs i

abbrev pub Of : Bits → Slot → Type 0
Of q s = (x : Bits) → holds x s ≡ (taken s && same x q)

pub of_free : (q : Bits) → Of q None
of_free q x = refl

pub of_entry : (e : Entry) → Of (row_of e.prefix) (Some e)
of_entry e x = grind arith

pub of_not_taken : (q : Bits) (s : Slot) → taken s ≡ false → Of q s
of_not_taken q s e x = let n = not_taken x s e in grind arith

pub of_held : (q : Bits) (s : Slot) → holds q s ≡ true → Of q s
of_held q None h x = refl
of_held q (Some t) h x = let e = same_is q (row_of t.prefix) h in rw (← e) (grind arith)

pub record Site (xs : List Slot) (q : Bits) (i : ℕ) : Type 0 where
  pub inside : i < length xs
  pub own : Of q (at xs i)
  pub alone : (k : ℕ) → k ≢ i → holds q (at xs k) ≡ false
  pub apart : Apart xs

pub site_held : (xs : List Slot) (q : Bits) (i : ℕ) → Apart xs → spot xs q ≡ Some i → Site xs q i
site_held xs q i apart e =
    let h = position-Some (holds q) xs i None e in
    record {
      inside = h.0;
      own = of_held q (at xs i) h.1;
      alone = λ k ne. elim (cases_Bool (holds q (at xs k))) [ inl t ↦ absurd (ne (apart q k i t h.1)) | inr f ↦ f ];
      apart = apart;
    }

pub site_free : (xs : List Slot) (q : Bits) (i : ℕ) → Apart xs → spot xs q ≡ None → i < length xs → taken (at xs i) ≡ false → Site xs q i
site_free xs q i apart e l f = record { inside = l; own = of_not_taken q (at xs i) f; alone = λ k _. spot_absent xs q e k; apart = apart }

pub record Written (xs : List Slot) (q : Bits) (i : ℕ) (s : Slot) (ys : List Slot) : Type 0 where
  pub apart : Apart ys
  pub spots : (x : Bits) → spot ys x ≡ cond (same x q) (cond (taken s) (Some i) None) (spot xs x)
  pub tells : (x : Bits) → told_in ys x ≡ cond (same x q) (told_by s) (told_in xs x)
  pub number : used ys + size (told_in xs q) ≡ used xs + size (told_by s)

module _ (xs : List Slot) (q : Bits) (i : ℕ) (site : Site xs q i) where
  -- the site tells what is told of the row
  told_site : told_in xs q ≡ told_by (at xs i)
  told_site = go (at xs i) refl
    where
      none : (s : Slot) → at xs i ≡ s → taken s ≡ false → (k : ℕ) → holds q (at xs k) ≡ false
      none s e f k = elim (cases_eq k i) [ inl z ↦ rw (z, e) (not_taken q s f) | inr ne ↦ site.alone k ne ]

      go : (s : Slot) → at xs i ≡ s → told_in xs q ≡ told_by (at xs i)
      go None e = ap (told_at xs) (spot_none xs q (λ k _. none None e refl k)) ∙ sym (ap told_by e)
      go (Some t) e =
          let own = site.own q in
          let me = same_self q in
          ap (told_at xs) (spot_is xs q i site.apart (own ∙ rw (e, me) refl))

  size_site : size (told_in xs q) ≡ cond (taken (at xs i)) 1 0
  size_site = ap size told_site ∙ sized (at xs i)
    where
      sized : (s : Slot) → size (told_by s) ≡ cond (taken s) 1 0
      sized None = refl
      sized (Some t) = refl

  module _ (s : Slot) (of : Of q s) where
    here : at (set xs i s) i ≡ s
    here = get_or-set_same xs i s None site.inside

    elsewhere : (k : ℕ) → k ≢ i → at (set xs i s) k ≡ at xs k
    elsewhere k ne = get_or-set_other xs i k s None ne

    -- only the site can hold the row now
    only_here : (k : ℕ) → holds q (at (set xs i s) k) ≡ true → k ≡ i
    only_here k h = elim (cases_eq k i) [ inl e ↦ e | inr ne ↦ absurd (both_ways _ (site.alone k ne) (rw (← elsewhere k ne) h)) ]

    write_apart : Apart (set xs i s)
    write_apart x j k h g =
        elim (cases_Bool (same x q)) [
          | inl e ↦ (let z = same_is x q e in only_here j (rw (← z) h) ∙ sym (only_here k (rw (← z) g)))
          | inr e ↦ site.apart x j k (before x e j h) (before x e k g)
        ]
      where
        before : (x : Bits) → same x q ≡ false → (k : ℕ) → holds x (at (set xs i s) k) ≡ true → holds x (at xs k) ≡ true
        before x e k h =
            elim (cases_eq k i) [
              | inl z ↦ absurd (both_ways (holds x s) (let o = of x in grind arith) (rw (← here) (subst (λ n. holds x (at (set xs i s) n) ≡ true) z h)))
              | inr ne ↦ rw (← elsewhere k ne) h
            ]

    write_spot : spot (set xs i s) q ≡ cond (taken s) (Some i) None
    write_spot = elim (cases_Bool (taken s)) [ inl t ↦ there t | inr f ↦ gone f ]
      where
        there : taken s ≡ true → spot (set xs i s) q ≡ cond (taken s) (Some i) None
        there t =
            let own = of q in
            let me = same_self q in
            let h : holds q s ≡ true = grind arith in
            spot_is (set xs i s) q i write_apart (rw here h) ∙ rw t refl

        gone : taken s ≡ false → spot (set xs i s) q ≡ cond (taken s) (Some i) None
        gone f =
            spot_none (set xs i s) q (λ k _. elim (cases_eq k i) [ inl z ↦ rw (z, here) (not_taken q s f) | inr ne ↦ rw (elsewhere k ne) (site.alone k ne) ])
            ∙ rw f refl

    write_tells : told_in (set xs i s) q ≡ told_by s
    write_tells = ap (told_at (set xs i s)) write_spot ∙ go s here
      where
        go : (t : Slot) → at (set xs i s) i ≡ t → told_at (set xs i s) (cond (taken t) (Some i) None) ≡ told_by t
        go None e = refl
        go (Some t) e = ap told_by e

    pub written : Written xs q i s (set xs i s)
    written =
        record {
          apart = write_apart;
          spots = λ x. elim (cases_Bool (same x q)) [ inl e ↦ (let z = same_is x q e in rw (z, same_self q) write_spot) | inr e ↦ rw e (spot_other xs i s x (clear (at xs i) site.own x e) (clear s of x e)) ];
          tells = λ x. elim (cases_Bool (same x q)) [ inl e ↦ (let z = same_is x q e in rw (z, same_self q) write_tells) | inr e ↦ rw e (told_other xs i s x (clear (at xs i) site.own x e) (clear s of x e)) ];
          number = rw (size_site, sized s) (sum_by-set (λ t. cond (taken t) 1 0) xs i s None site.inside);
        }
      where
        clear : (t : Slot) → Of q t → (x : Bits) → same x q ≡ false → holds x t ≡ false
        clear t o x e = let u = o x in grind arith

        sized : (s : Slot) → size (told_by s) ≡ cond (taken s) 1 0
        sized None = refl
        sized (Some t) = refl
