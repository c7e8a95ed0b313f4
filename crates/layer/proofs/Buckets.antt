-- Buckets, strays and the choice among four buckets. Assumes nothing.
use Rattle.std.proofs.Common.{◌≡◌, ℕ, zero, suc, ◌+◌, ◌-◌, ◌*◌, ◌/◌, ◌<◌, ◌≤◌, true, false, cond, not, ltb, ◌⊎◌, List, [], ◌∷◌, length, drop, set, replicate, Some, None, sym, refl, ap, ◌∙◌, inl, inr, add-zero, add-one, arith}
use Rattle.std.proofs.lemmas.Bool.{cases_Bool, cases_eq, cases_lt, true≢false, eqb-true, lt-ltb, le-ltb, eq-eqb, or_cases}
use Rattle.std.proofs.lemmas.Bool.Decides.{nat_tests}
use Rattle.std.proofs.lemmas.List.{get_or-drop, get_or-take, length-take}
use Rattle.std.proofs.lemmas.List.Quantifiers.{position-Some}
use Rattle.std.proofs.lemmas.List.Sums.{count_by-le-length, sum_by-cons}
use Rattle.std.specs.List.{list_any, range_with_len}
use Rattle.std.specs.Prelude.{◌==◌}
use Rattle.bits.proofs.Tests.{same_is}
use Rattle.net.specs.Prefix.{row_of}
use Rattle.net.specs.declared.prefix.Prefix.{Prefix}
use Rattle.net.proofs.Prefixes.{one_for_a_row}
use Rattle.store.specs.Slots.{Slot, at, holds, taken, spot, used}
use Rattle.store.specs.declared.slot.Entry.{Entry}
use Rattle.store.proofs.Spots.{spot_none}
use Rattle.layer.specs.Buckets.{bucket, fill, near, astray, strays_from, strays_in, earliest_least, EarliestLeast, ChoiceLaw, choice}

-- a bucket's slots are those of the layer from 3 × b on
pub bucket_at : (xs : List Slot) (b k : ℕ) → k < 3 → at (bucket xs b) k ≡ at xs (3 * b + k)
bucket_at xs b k l = get_or-take (3 * b + 3 - 3 * b) (drop (3 * b) xs) k None (omega arith) ∙ get_or-drop (3 * b) xs k None

-- slots of which one is free are not all taken
used_less : (ys : List Slot) (n k : ℕ) → length ys ≤ n → k < n → taken (at ys k) ≡ false → used ys < n
used_less [] n k l m f = omega arith
used_less (s ∷ ys) zero k l m f = absurd (omega arith)
used_less (s ∷ ys) (suc n) zero l m f =
    let most = count_by-le-length taken ys in
    let more = sum_by-cons (λ s. cond (taken s) 1 0) s ys in
    let none : ◌≡◌ {A = ℕ} (cond (taken s) 1 0) 0 = rw f refl in
    omega arith
used_less (s ∷ ys) (suc n) (suc k) l m f =
    let ih = used_less ys n k (omega arith) (omega arith) f in
    let more = sum_by-cons (λ s. cond (taken s) 1 0) s ys in
    let one : cond (taken s) 1 0 ≤ 1 = grind arith in
    omega arith

-- a free slot of a bucket leaves it not full
pub fill_free : (xs : List Slot) (i b : ℕ) → i / 3 ≡ b → taken (at xs i) ≡ false → fill xs b < 3
fill_free xs i b e f =
    let k : i - 3 * b < 3 = omega arith in
    let same_place : 3 * b + (i - 3 * b) ≡ i = omega arith in
    let read = bucket_at xs b (i - 3 * b) k in
    used_less (bucket xs b) 3 (i - 3 * b) (simp length-take (omega arith)) k (ap taken (read ∙ ap (at xs) same_place) ∙ f)

-- the law of the choice
pub earliest_least_is : ChoiceLaw
unfolding earliest_least
earliest_least_is g zero h = absurd (omega arith)
earliest_least_is g (suc zero) h =
    let zeroth : earliest_least g 1 ≡ 0 = grind arith in
    record { below = omega arith; least = λ k l. (let z : k ≡ 0 = omega arith in rw (zeroth, z) (omega arith)); earliest = λ k l. absurd (omega arith) }
earliest_least_is g (suc (suc n)) h = go (earliest_least_is g (suc n) (omega arith)) (cases_lt (g (suc n)) (g (earliest_least g (suc n))))
  where
    go : EarliestLeast g (suc n) (earliest_least g (suc n)) → (g (suc n) < g (earliest_least g (suc n))) ⊎ (g (earliest_least g (suc n)) ≤ g (suc n)) → EarliestLeast g (suc (suc n)) (earliest_least g (suc (suc n)))
    go ih (inl l) =
        let is : earliest_least g (suc (suc n)) ≡ suc n = grind (arith, nat_tests) in
        rw is (record {
          below = omega arith;
          least = λ k m. elim (cases_eq k (suc n)) [ inl z ↦ rw z (omega arith) | inr ne ↦ omega (arith, ih.least k (omega arith)) ];
          earliest = λ k m. omega (arith, ih.least k m);
        })
    go ih (inr m) =
        let is : earliest_least g (suc (suc n)) ≡ earliest_least g (suc n) = grind (arith, nat_tests) in
        rw is (record {
          below = omega (arith, ih.below);
          least = λ k l. elim (cases_eq k (suc n)) [ inl z ↦ rw z m | inr ne ↦ ih.least k (omega arith) ];
          earliest = ih.earliest;
        })

module _ (f : Prefix → ℕ → ℕ) where
  pub near_is : (p : Prefix) (b : ℕ) → near f p b ≡ true → (j : ℕ) × ((j < 4) × (f p j ≡ b))
  near_is p b h =
      elim (or_cases _ _ h) [
        | inl e ↦ (0, (omega arith, eqb-true _ _ e))
        | inr h ↦ elim (or_cases _ _ h) [
          | inl e ↦ (1, (omega arith, eqb-true _ _ e))
          | inr h ↦ elim (or_cases _ _ h) [ inl e ↦ (2, (omega arith, eqb-true _ _ e)) | inr e ↦ (3, (omega arith, eqb-true _ _ e)) ]
        ]
      ]

  pub near_of : (p : Prefix) (b j : ℕ) → j < 4 → f p j ≡ b → near f p b ≡ true
  near_of p b zero l e = let t = eq-eqb _ _ e in grind arith
  near_of p b (suc zero) l e = let t = eq-eqb _ _ e in grind arith
  near_of p b (suc (suc zero)) l e = let t = eq-eqb _ _ e in grind arith
  near_of p b (suc (suc (suc zero))) l e = let t = eq-eqb _ _ e in grind arith
  near_of p b (suc (suc (suc (suc j)))) l e = absurd (omega arith)

  -- the four tries, one after another
  pub any_near : (p : Prefix) (b : ℕ) → list_any (λ j. f p j == b) (range_with_len 0 4) ≡ near f p b
  any_near p b = grind arith

  -- the choice is one of the four, and no fuller than any of them
  pub choice_near : (xs : List Slot) (p : Prefix) → near f p (choice f xs p) ≡ true
  unfolding choice
  choice_near xs p = near_of p (choice f xs p) _ (earliest_least_is (λ j. fill xs (f p j)) 4 (omega arith)).below refl

  pub choice_least : (xs : List Slot) (p : Prefix) (b : ℕ) → near f p b ≡ true → fill xs (choice f xs p) ≤ fill xs b
  unfolding choice
  choice_least xs p b h =
      let n = near_is p b h in
      let l = (earliest_least_is (λ j. fill xs (f p j)) 4 (omega arith)).least n.0 n.1.0 in
      rw (← n.1.1) l

  -- where the choice is full, a free slot is in none of the four
  pub free_astray : (xs : List Slot) (s : Entry) (i : ℕ) → fill xs (choice f xs s.prefix) ≡ 3 → taken (at xs i) ≡ false → astray f i (Some s) ≡ true
  free_astray xs s i full free =
      elim (cases_Bool (near f s.prefix (i / 3))) [
        | inl t ↦ absurd (omega (arith, choice_least xs s.prefix (i / 3) t, fill_free xs i (i / 3) refl free))
        | inr n ↦ grind arith
      ]

  -- one try more
  pub choice_more : (xs : List Slot) (p : Prefix) (j b m d g : ℕ) → b ≡ f p (earliest_least (λ i. fill xs (f p i)) j) → m ≡ fill xs b → d ≡ f p j → g ≡ fill xs d
      → ((g < m → d ≡ f p (earliest_least (λ i. fill xs (f p i)) (j + 1))) × (m ≤ g → b ≡ f p (earliest_least (λ i. fill xs (f p i)) (j + 1))))
  unfolding earliest_least
  choice_more xs p j b m d g eb em ed eg = (
    λ l. rw add-one (let t : ltb (fill xs (f p j)) (fill xs (f p (earliest_least (λ i. fill xs (f p i)) j))) ≡ true = lt-ltb _ _ (rw (← ed, ← eb, ← em, ← eg) l) in rw t ed),
    λ l. rw add-one (let t : ltb (fill xs (f p j)) (fill xs (f p (earliest_least (λ i. fill xs (f p i)) j))) ≡ false = le-ltb _ _ (rw (← ed, ← eb, ← em, ← eg) l) in rw t eb),
  )

  strays_from_set : (n : ℕ) (xs : List Slot) (i : ℕ) (s : Slot) → i < length xs → strays_from f n (set xs i s) + cond (astray f (n + i) (at xs i)) 1 0 ≡ strays_from f n xs + cond (astray f (n + i) s) 1 0
  strays_from_set n [] i s l = absurd (omega arith)
  strays_from_set n (t ∷ xs) zero s l = rw add-zero (omega arith)
  strays_from_set n (t ∷ xs) (suc i) s l =
      let ih = strays_from_set (suc n) xs i s (omega arith) in
      let e : n + suc i ≡ suc n + i = omega arith in
      rw e (omega arith)

  pub strays_set : (xs : List Slot) (i : ℕ) (s : Slot) → i < length xs → strays_in f (set xs i s) + cond (astray f i (at xs i)) 1 0 ≡ strays_in f xs + cond (astray f i s) 1 0
  strays_set xs i s l =
      let z : 0 + i ≡ i = omega arith in
      let h = strays_from_set 0 xs i s l in
      rw z at h

  strays_from_zero : (n : ℕ) (xs : List Slot) → strays_from f n xs ≡ 0 → (i : ℕ) → astray f (n + i) (at xs i) ≡ false
  strays_from_zero n [] e i = refl
  strays_from_zero n (s ∷ xs) e zero = rw add-zero (grind arith)
  strays_from_zero n (s ∷ xs) e (suc i) =
      let ih = strays_from_zero (suc n) xs (omega arith) i in
      let m : n + suc i ≡ suc n + i = omega arith in
      rw m ih

  pub strays_zero : (xs : List Slot) → strays_in f xs ≡ 0 → (i : ℕ) → astray f i (at xs i) ≡ false
  strays_zero xs e i = let z : 0 + i ≡ i = omega arith in let h = strays_from_zero 0 xs e i in rw z at h

  strays_from_most : (n : ℕ) (xs : List Slot) → strays_from f n xs ≤ length xs
  strays_from_most n [] = omega arith
  strays_from_most n (s ∷ xs) = let ih = strays_from_most (suc n) xs in grind arith

  pub strays_most : (xs : List Slot) → strays_in f xs ≤ length xs
  strays_most xs = strays_from_most 0 xs

  -- an entry's stray test is that of the prefix whose row it has
  pub astray_held : (p : Prefix) (i : ℕ) (s : Slot) → holds (row_of p) s ≡ true → astray f i s ≡ not (near f p (i / 3))
  astray_held p i None h = absurd (true≢false (sym h))
  astray_held p i (Some s) h = let e = one_for_a_row p s.prefix (same_is (row_of p) (row_of s.prefix) h) in rw e refl

  -- an entry astray is counted
  pub strays_some : (xs : List Slot) (p : Prefix) (i : ℕ) → spot xs (row_of p) ≡ Some i → cond (near f p (i / 3)) 0 1 ≤ strays_in f xs
  strays_some xs p i e =
      let h = position-Some (holds (row_of p)) xs i None e in
      let counts = strays_set xs i None h.0 in
      let here = astray_held p i (at xs i) h.1 in
      grind arith

  -- a layer with no strays has a prefix in one of its four buckets or nowhere
  pub found_near : (xs : List Slot) (p : Prefix) → strays_in f xs ≡ 0 → ((i : ℕ) → near f p (i / 3) ≡ true → holds (row_of p) (at xs i) ≡ false) → spot xs (row_of p) ≡ None
  found_near xs p none far =
      spot_none xs (row_of p) λ i l.
      elim (cases_Bool (holds (row_of p) (at xs i))) [
        | inl h ↦ (let a = astray_held p i (at xs i) h in let z = strays_zero xs none i in far i (grind arith))
        | inr n ↦ n
      ]

pub strays_none : (f : Prefix → ℕ → ℕ) (k n : ℕ) → strays_from f k (replicate n None) ≡ 0
strays_none f k zero = refl
strays_none f k (suc n) = let ih = strays_none f (suc k) n in omega arith

pub choice_first : (g : ℕ → ℕ) → earliest_least g 1 ≡ 0
unfolding earliest_least
choice_first g = grind arith
