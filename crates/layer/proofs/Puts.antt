-- What each way through a layer's calls leaves. Assumes nothing.
--   Layered f xs n c   what a layer keeps: f is its chooser's function, xs are its slots, n counts its strays, c is the content below
--   Put                what setting a hop leaves: the layer's facts, its content and every row's place
--   Taken              what taking a row out leaves
use Rattle.std.proofs.Common.{◌≡◌, ℕ, ◌+◌, ◌-◌, ◌/◌, ◌<◌, ◌≤◌, min, true, false, cond, eqb, ltb, List, length, set, replicate, is_ok, Some, None, Ok, Err, Option, Result, sym, refl, ap, ◌∙◌, subst, inl, inr, arith}
use Rattle.std.proofs.lemmas.Bool.{cases_Bool, true≢false, lt-ltb, le-ltb, eqb-true, eqb-false, eq-eqb, ne_eqb}
use Rattle.std.proofs.lemmas.List.Quantifiers.{position-Some}
use Rattle.bits.specs.Rows.{Bits, same}
use Rattle.bits.proofs.Tests.{same_is}
use Rattle.net.specs.Prefix.{row_of}
use Rattle.net.specs.declared.prefix.Prefix.{Prefix}
use Rattle.refusal.specs.declared.Refusal.{Refusal}
use Rattle.refusal.specs.declared.Refusal.TheVariants.{StoreFull}
use Rattle.store.specs.Content.{Told, absent, present, Content, bad_hop, put_refusal, Puts, Removes, Empty, Sound}
use Rattle.store.specs.Slots.{Slot, at, holds, told_by, taken, spot, told_at, told_in, used, Apart}
use Rattle.store.specs.declared.slot.Entry.{Entry}
use Rattle.store.proofs.Spots.{of_free, of_entry, site_held, site_free}
use Rattle.store.proofs.Rows.{held_present, all_taken, free_at, used_none, told_none, apart_none}
use Rattle.layer.specs.declared.layer.Layer.{Layer}
use Rattle.layer.specs.declared.place.Place.{Place}
use Rattle.layer.specs.declared.place.Place.TheVariants.{Bucket}
use Rattle.layer.specs.declared.place.Place.TheVariants as place
use Rattle.layer.specs.Buckets.{fill, near, astray, strays_in, choice}
use Rattle.layer.specs.Layers.{joined, layer_content}
use Rattle.layer.specs.Numbers.{sound_within}
use Rattle.layer.specs.Places.{place_of, Stay, Placed, Lands, PutPlaces}
use Rattle.layer.proofs.Buckets.{fill_free, choice_near, free_astray, strays_set, strays_none, astray_held}
use Rattle.layer.proofs.Writes.{own_wrote, own_places, own_separate, own_apart, below_wrote, below_places, below_separate}

pub record Layered (f : Prefix → ℕ → ℕ) (xs : List Slot) (n : ℕ) (c : Content) : Type 0 where
  pub apart : Apart xs
  pub separate : (q : Bits) → present (told_in xs q) ≡ true → c.map q ≡ absent
  pub counted : n ≡ strays_in f xs
  pub most : used xs + c.held ≤ 16777216

pub record Put (f : Prefix → ℕ → ℕ) (s : Entry) (xs : List Slot) (c : Content) (ys : List Slot) (n : ℕ) (d : Content) (r : Result (Unit {0}) Refusal) : Type 0 where
  pub kept : Layered f ys n d
  pub puts : Puts (row_of s.prefix) s.hop (layer_content xs c) (layer_content ys d) r
  pub places : PutPlaces f s.prefix xs c ys d r

pub record Taken (f : Prefix → ℕ → ℕ) (q : Bits) (xs : List Slot) (c : Content) (ys : List Slot) (n : ℕ) (d : Content) (t : Told) : Type 0 where
  pub kept : Layered f ys n d
  pub removes : Removes q (layer_content xs c) (layer_content ys d) t
  pub places : Placed q None xs c ys d

-- what the type of a layer keeps
pub kept_of : {C S : Type 0} {k : _} {t : _} (l : Layer C S k t) → Layered k.bucket l.buckets.slots l.strays (t.content l.below)
kept_of l = record { apart = l.apart; separate = l.separate; counted = l.counted; most = l.most }

-- what a write leaves, under another name of the slots after it
pub put_as : (f : Prefix → ℕ → ℕ) (s : Entry) (xs : List Slot) (c : Content) (n : ℕ) (d : Content) (r : Result (Unit {0}) Refusal) (ys zs : List Slot) → ys ≡ zs → Put f s xs c zs n d r → Put f s xs c ys n d r
put_as f s xs c n d r ys zs e done = subst (λ us. Put f s xs c us n d r) (sym e) done

pub taken_as : (f : Prefix → ℕ → ℕ) (q : Bits) (xs : List Slot) (c : Content) (n : ℕ) (d : Content) (t u : Told) (ys zs : List Slot) → ys ≡ zs → u ≡ t → Taken f q xs c zs n d t → Taken f q xs c ys n d u
taken_as f q xs c n d t u ys zs e a done = subst (λ us. Taken f q xs c us n d u) (sym e) (subst (λ v. Taken f q xs c zs n d v) (sym a) done)

-- the row keeps its place, and so do all
stays : (q : Bits) (w : Option Place) (xs : List Slot) (c : Content) (ys : List Slot) (d : Content) → place_of xs c q ≡ w → Placed q w xs c ys d → Stay xs c ys d
stays q w xs c ys d e placed x =
    elim (cases_Bool (same x q)) [
      | inl s ↦ placed x ∙ rw s (sym (ap (place_of xs c) (same_is x q s) ∙ e))
      | inr s ↦ placed x ∙ rw s refl
    ]

joined_held : (t u : Told) → present t ≡ true → present (joined t u) ≡ true
joined_held None u h = absurd (true≢false (sym h))
joined_held (Some v) u h = refl

free_tame : (f : Prefix → ℕ → ℕ) (i : ℕ) (s : Slot) → taken s ≡ false → astray f i s ≡ false
free_tame f i None t = refl
free_tame f i (Some s) t = absurd (true≢false t)

module _ (f : Prefix → ℕ → ℕ) (s : Entry) (xs : List Slot) (n : ℕ) (c : Content) (kept : Layered f xs n c) (good : bad_hop s.hop ≡ false) where
  -- the hop of an own entry is replaced
  pub replaced_own : (i : ℕ) → spot xs (row_of s.prefix) ≡ Some i → Put f s xs c (set xs i (Some s)) n c (Ok tt)
  replaced_own i e =
      let q = row_of s.prefix in
      let there = held_present xs q i e in
      let site = site_held xs q i kept.apart e in
      let none = kept.separate q there in
      let of = of_entry s in
      let ys = set xs i (Some s) in
      let wrote = own_wrote xs c q i site (Some s) of none in
      let whole = joined_held (told_in xs q) (c.map q) there in
      let same_strays = strays_set f xs i (Some s) site.inside in
      let before = astray_held f s.prefix i (at xs i) (position-Some (holds q) xs i None e).1 in
      let counted : n ≡ strays_in f ys = (let z = kept.counted in grind arith) in
      let most : used ys + c.held ≤ 16777216 = (let m = wrote.number in let w = kept.most in grind arith) in
      record {
        kept = record { apart = own_apart xs c q i site (Some s) of none; separate = own_separate xs c q i site (Some s) of none kept.separate; counted = counted; most = most };
        puts = (rw (good, whole) refl, wrote);
        places = rw e (stays q (Some (Bucket (i / 3))) xs c ys c (rw e refl) (own_places xs c q i site (Some s) of none));
      }

  -- the hop of an entry below is replaced
  pub replaced_below : (d : Content) (r : Result (Unit {0}) Refusal) → spot xs (row_of s.prefix) ≡ None → present (c.map (row_of s.prefix)) ≡ true → Puts (row_of s.prefix) s.hop c d r → Put f s xs c xs n d r
  replaced_below d (Err e) none there (refused, w) = absurd (let z : ◌≡◌ {A = ℕ} 0 1 = grind arith in omega arith)
  replaced_below d (Ok u) none there (refused, w) =
      let q = row_of s.prefix in
      let wrote = below_wrote xs c d q (Some s.hop) none w in
      let own : told_in xs q ≡ absent = ap (told_at xs) none in
      let whole : present ((layer_content xs c).map q) ≡ true = rw own there in
      let put_at : place_of xs c q ≡ Some place.Below = rw (none, there) refl in
      let most : used xs + d.held ≤ 16777216 = (let a = w.number in let b = kept.most in grind arith) in
      record {
        kept = record { apart = kept.apart; separate = below_separate xs c d q (Some s.hop) none w kept.separate; counted = kept.counted; most = most };
        puts = (rw (good, whole) refl, wrote);
        places = rw put_at (stays q (Some place.Below) xs c xs d put_at (below_places xs c d q (Some s.hop) none w));
      }

  module _ (fresh : (layer_content xs c).map (row_of s.prefix) ≡ absent) where
    fresh_spot : spot xs (row_of s.prefix) ≡ None
    fresh_spot = go (spot xs (row_of s.prefix)) refl
      where
        go : (o : Option ℕ) → spot xs (row_of s.prefix) ≡ o → spot xs (row_of s.prefix) ≡ None
        go None e = e
        go (Some i) e = absurd (true≢false (sym (joined_held (told_in xs (row_of s.prefix)) (c.map (row_of s.prefix)) (held_present xs (row_of s.prefix) i e)) ∙ ap present fresh))

    fresh_below : c.map (row_of s.prefix) ≡ absent
    fresh_below = let o : told_in xs (row_of s.prefix) ≡ absent = ap (told_at xs) fresh_spot in let none = fresh in rw o at none

    fresh_place : place_of xs c (row_of s.prefix) ≡ None
    fresh_place = rw (fresh_spot, fresh_below) refl

    -- the store is full
    pub refused_full : used xs + c.held ≡ min (768 + c.limit) 16777216 → Put f s xs c xs n c (Err StoreFull)
    refused_full full =
        let t = eq-eqb _ _ full in
        record { kept = kept; puts = (rw (good, fresh, t) refl, refl); places = λ x. refl }

    module _ (room : used xs + c.held ≡ min (768 + c.limit) 16777216 → ⊥) (within : used xs + c.held ≤ min (768 + c.limit) 16777216) where
      granted : put_refusal (layer_content xs c) (row_of s.prefix) s.hop ≡ None
      granted = let t = ne_eqb _ _ room in rw (good, fresh, t) refl

      -- it goes into a free slot
      into : (i m : ℕ) → i < length xs → taken (at xs i) ≡ false → m ≡ strays_in f (set xs i (Some s)) → Lands f s.prefix xs c (Bucket (i / 3)) → Put f s xs c (set xs i (Some s)) m c (Ok tt)
      into i m l free counted lands =
          let q = row_of s.prefix in
          let site = site_free xs q i kept.apart fresh_spot l free in
          let of = of_entry s in
          let ys = set xs i (Some s) in
          let wrote = own_wrote xs c q i site (Some s) of fresh_below in
          let most : used ys + c.held ≤ 16777216 = (let a = wrote.number in let z = fresh in grind arith) in
          record {
            kept = record { apart = own_apart xs c q i site (Some s) of fresh_below; separate = own_separate xs c q i site (Some s) of fresh_below kept.separate; counted = counted; most = most };
            puts = (granted, wrote);
            places = rw fresh_place (Bucket (i / 3), (lands, own_places xs c q i site (Some s) of fresh_below));
          }

      pub entered_bucket : (i : ℕ) → i < length xs → taken (at xs i) ≡ false → i / 3 ≡ choice f xs s.prefix → Put f s xs c (set xs i (Some s)) n c (Ok tt)
      entered_bucket i l free chosen =
          let near_choice = choice_near f xs s.prefix in
          let near_here : near f s.prefix (i / 3) ≡ true = rw chosen near_choice in
          let counts = strays_set f xs i (Some s) l in
          let tame = free_tame f i (at xs i) free in
          let counted : n ≡ strays_in f (set xs i (Some s)) = (let z = kept.counted in grind arith) in
          let open_bucket = lt-ltb _ _ (fill_free xs i (choice f xs s.prefix) chosen free) in
          into i n l free counted (rw open_bucket (ap Bucket chosen))

      module _ (full : fill xs (choice f xs s.prefix) ≡ 3) (below : c.held ≤ c.limit) where
        shut : ltb (fill xs (choice f xs s.prefix)) 3 ≡ false
        shut = le-ltb _ _ (omega (arith, full))

        -- it goes below
        pub entered_below : (d : Content) (r : Result (Unit {0}) Refusal) → is_ok r ≡ true → Puts (row_of s.prefix) s.hop c d r → Put f s xs c xs n d (Ok tt)
        entered_below d (Err e) ok puts = absurd (true≢false (sym ok))
        entered_below d (Ok u) ok (refused, w) =
            let q = row_of s.prefix in
            let wrote = below_wrote xs c d q (Some s.hop) fresh_spot w in
            let most : used xs + d.held ≤ 16777216 = (let a = w.number in let z = fresh_below in grind arith) in
            record {
              kept = record { apart = kept.apart; separate = below_separate xs c d q (Some s.hop) fresh_spot w kept.separate; counted = kept.counted; most = most };
              puts = (granted, wrote);
              places = rw fresh_place (place.Below, (rw (shut, space) refl, below_places xs c d q (Some s.hop) fresh_spot w));
            }
          where
            space : ltb c.held c.limit ≡ true
            space =
                elim (cases_Bool (eqb c.held c.limit)) [
                  | inl t ↦ absurd (let b = fresh_below in let z : ◌≡◌ {A = ℕ} 0 1 = grind arith in omega arith)
                  | inr t ↦ lt-ltb _ _ (omega (arith, eqb-false _ _ t))
                ]

        -- where the store below refuses, it is full and stays as it was
        pub below_full : (d : Content) (r : Result (Unit {0}) Refusal) → is_ok r ≡ false → Puts (row_of s.prefix) s.hop c d r → (c.held ≡ c.limit) × (d ≡ c)
        below_full d (Ok u) ok puts = absurd (true≢false ok)
        below_full d (Err e) ok (refused, w) =
            elim (cases_Bool (eqb c.held c.limit)) [
              | inl t ↦ (eqb-true _ _ t, w)
              | inr t ↦ absurd (let b = fresh_below in let z : ◌≡◌ {A = ℕ} 0 1 = grind arith in omega arith)
            ]

        -- it goes into the last resort
        pub entered_anywhere : (d : Content) (r : Result (Unit {0}) Refusal) (i : ℕ) → is_ok r ≡ false → Puts (row_of s.prefix) s.hop c d r → length xs ≡ 768 → i < length xs → taken (at xs i) ≡ false
            → Put f s xs c (set xs i (Some s)) (n + 1) d (Ok tt)
        entered_anywhere d r i ok puts long l free =
            let b = below_full d r ok puts in
            let counts = strays_set f xs i (Some s) l in
            let tame = free_tame f i (at xs i) free in
            let wild = free_astray f xs s i full free in
            let counted : n + 1 ≡ strays_in f (set xs i (Some s)) = (let z = kept.counted in grind arith) in
            let none_below = le-ltb c.held c.limit (omega (arith, b.0)) in
            let lands : Lands f s.prefix xs c (Bucket (i / 3)) = rw (shut, none_below) (omega arith, fill_free xs i (i / 3) refl free) in
            subst (λ e. Put f s xs c (set xs i (Some s)) (n + 1) e (Ok tt)) (sym b.1) (into i (n + 1) l free counted lands)

        -- and there is one
        pub no_room : (d : Content) (r : Result (Unit {0}) Refusal) → is_ok r ≡ false → Puts (row_of s.prefix) s.hop c d r → length xs ≡ 768 → ((i : ℕ) → i < length xs → taken (at xs i) ≡ true) → ⊥
        no_room d r ok puts long all =
            let b = below_full d r ok puts in
            room (omega (arith, all_taken xs all, b.0))

-- the answer of a look-up, by the slot that has the row
pub get_own : (p : Prefix) (xs : List Slot) (c : Content) (i : ℕ) → spot xs (row_of p) ≡ Some i → told_by (at xs i) ≡ (layer_content xs c).map (row_of p)
get_own p xs c i e = sym (first (told_in xs (row_of p)) _ (c.map (row_of p)) (held_present xs (row_of p) i e) (ap (told_at xs) e))
  where
    first : (t u v : Told) → present t ≡ true → t ≡ u → joined t v ≡ u
    first None u v h e = absurd (true≢false (sym h))
    first (Some w) u v h e = e

pub get_below : (p : Prefix) (xs : List Slot) (c : Content) → spot xs (row_of p) ≡ None → c.map (row_of p) ≡ (layer_content xs c).map (row_of p)
get_below p xs c e = let o : told_in xs (row_of p) ≡ absent = ap (told_at xs) e in rw o refl

module _ (f : Prefix → ℕ → ℕ) (p : Prefix) (xs : List Slot) (n : ℕ) (c : Content) (kept : Layered f xs n c) where
  -- an own entry is taken out
  pub taken_own : (i : ℕ) → spot xs (row_of p) ≡ Some i → Taken f (row_of p) xs c (set xs i None) (n - cond (near f p (i / 3)) 0 1) c (told_by (at xs i))
  taken_own i e =
      let q = row_of p in
      let there = held_present xs q i e in
      let whole = joined_held (told_in xs q) (c.map q) there in
      let site = site_held xs q i kept.apart e in
      let none = kept.separate q there in
      let of = of_free q in
      let ys = set xs i None in
      let wrote = own_wrote xs c q i site None of none in
      let counts = strays_set f xs i None site.inside in
      let before = astray_held f p i (at xs i) (position-Some (holds q) xs i None e).1 in
      let counted : n - cond (near f p (i / 3)) 0 1 ≡ strays_in f ys = (let z = kept.counted in grind arith) in
      let most : used ys + c.held ≤ 16777216 = (let a = wrote.number in let b = kept.most in omega arith) in
      record {
        kept = record { apart = own_apart xs c q i site None of none; separate = own_separate xs c q i site None of none kept.separate; counted = counted; most = most };
        removes = record { answer = get_own p xs c i e; taken = wrote; nothing = λ z. absurd (true≢false (sym whole ∙ ap present z)) };
        places = own_places xs c q i site None of none;
      }

  -- an entry below is taken out, or none
  pub taken_below : (d : Content) (t : Told) → spot xs (row_of p) ≡ None → Removes (row_of p) c d t → Taken f (row_of p) xs c xs n d t
  taken_below d t none removes =
      let q = row_of p in
      let w = removes.taken in
      let wrote = below_wrote xs c d q None none w in
      let most : used xs + d.held ≤ 16777216 = (let a = w.number in let b = kept.most in omega arith) in
      record {
        kept = record { apart = kept.apart; separate = below_separate xs c d q None none w kept.separate; counted = kept.counted; most = most };
        removes = record { answer = removes.answer ∙ get_below p xs c none; taken = wrote; nothing = λ z. ap (layer_content xs) (removes.nothing (get_below p xs c none ∙ z)) };
        places = below_places xs c d q None none w;
      }

-- a layer of free slots over an empty store
pub emptied : (f : Prefix → ℕ → ℕ) (n : ℕ) (d : Content) → Empty d → Layered f (replicate n None) 0 d × Empty (layer_content (replicate n None) d)
emptied f n d empty =
    let xs : List Slot = replicate n None in
    let free : (k : ℕ) → k < length xs → at xs k ≡ None = λ k l. free_at n k in
    let none = used_none xs free in
    let zero_held = empty.number in (
      record { apart = apart_none xs none; separate = λ q h. empty.rows q; counted = sym (strays_none f 0 n); most = omega arith },
      record { rows = λ q. (let a = told_none xs q free in let b = empty.rows q in grind arith); number = omega arith },
    )

pub emptied_as : (f : Prefix → ℕ → ℕ) (n : ℕ) (xs : List Slot) → xs ≡ replicate n None → (d : Content) → Sound d → Empty d → (Layered f xs 0 d × Sound (layer_content xs d)) × Empty (layer_content xs d)
emptied_as f n xs e d below empty =
    let (kept, none) = subst (λ ys. Layered f ys 0 d × Empty (layer_content ys d)) (sym e) (emptied f n d empty) in (
      (kept, sound_within xs d kept.apart kept.separate (omega (arith, none.number)) below),
      none,
    )
