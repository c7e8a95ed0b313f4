-- What each way through the calls of a layer leaves, by the layer itself: l is the layer before, s the entry. Assumes nothing.
use Rattle.std.proofs.Common.{◌≡◌, ℕ, ◌+◌, ◌-◌, ◌/◌, ◌≤◌, min, true, false, cond, List, set, is_ok, Some, None, Ok, Result, sym, refl, ◌∙◌, subst, arith}
use Rattle.net.specs.Prefix.{row_of}
use Rattle.net.specs.declared.prefix.Prefix.{Prefix}
use Rattle.refusal.specs.declared.Refusal.{Refusal}
use Rattle.store.specs.Content.{Told, absent, present, Content, bad_hop, Puts, Removes, Sound}
use Rattle.store.specs.Slots.{Slot, at, told_by, spot, used, Frees}
use Rattle.store.specs.declared.slot.Entry.{Entry}
use Rattle.layer.specs.Buckets.{near, choice, FreesIn}
use Rattle.layer.specs.Layers.{layer_content}
use Rattle.layer.specs.Numbers.{layer_sound}
use Rattle.layer.specs.declared.layer.Layer.{Layer}
use Rattle.layer.proofs.Puts.{Put, Taken, kept_of, put_as, taken_as, replaced_own, replaced_below, entered_bucket, entered_below, entered_anywhere, no_room, taken_own, taken_below}

module _ {C S : Type 0} {k : _} {t : _} (l : Layer C S k t) (s : Entry) (good : bad_hop s.hop ≡ false) where
  -- the hop of an own entry is replaced
  pub replaces_own : {i : ℕ} {ys : List Slot} → Some i ≡ spot l.buckets.slots (row_of s.prefix) → ys ≡ set l.buckets.slots i (Some s) → Put k.bucket s l.buckets.slots (t.content l.below) ys l.strays (t.content l.below) (Ok tt)
  replaces_own {i} {ys} e wrote =
      put_as k.bucket s l.buckets.slots (t.content l.below) l.strays (t.content l.below) (Ok tt) ys _ wrote
      (replaced_own k.bucket s l.buckets.slots l.strays (t.content l.below) (kept_of l) good i (sym e))

  -- the hop of an entry below is replaced, by a put of the number h that it is
  pub replaces_below : {h : ℕ} {e : Content} {r : Result (Unit {0}) Refusal} → None ≡ spot l.buckets.slots (row_of s.prefix) → present ((t.content l.below).map (row_of s.prefix)) ≡ true → h ≡ s.hop
      → Puts (row_of s.prefix) h (t.content l.below) e r → Put k.bucket s l.buckets.slots (t.content l.below) l.buckets.slots l.strays e r
  replaces_below {h} {e} {r} none there same puts =
      replaced_below k.bucket s l.buckets.slots l.strays (t.content l.below) (kept_of l) good e r (sym none) there (subst (λ n. Puts (row_of s.prefix) n (t.content l.below) e r) same puts)

  module _ (sound : Sound (t.content l.below)) (fresh : (layer_content l.buckets.slots (t.content l.below)).map (row_of s.prefix) ≡ absent)
      {held limit : ℕ} (counts : held ≡ used l.buckets.slots + (t.content l.below).held) (limits : limit ≡ min (768 + (t.content l.below).limit) 16777216) (open_yet : held ≡ limit → ⊥) where
    room : used l.buckets.slots + (t.content l.below).held ≡ min (768 + (t.content l.below).limit) 16777216 → ⊥
    room z = open_yet (counts ∙ z ∙ sym limits)

    within : used l.buckets.slots + (t.content l.below).held ≤ min (768 + (t.content l.below).limit) 16777216
    within = (layer_sound l.buckets.slots (t.content l.below) l.buckets.long l.apart l.separate l.most sound).within

    -- a new entry goes into a bucket
    pub enters_bucket : {i : ℕ} {ys : List Slot} → FreesIn l.buckets.slots (choice k.bucket l.buckets.slots s.prefix) (Some i) → ys ≡ set l.buckets.slots i (Some s)
        → Put k.bucket s l.buckets.slots (t.content l.below) ys l.strays (t.content l.below) (Ok tt)
    enters_bucket {i} {ys} free wrote =
        put_as k.bucket s l.buckets.slots (t.content l.below) l.strays (t.content l.below) (Ok tt) ys _ wrote
        (entered_bucket k.bucket s l.buckets.slots l.strays (t.content l.below) (kept_of l) good fresh room within i (omega (arith, free.1, l.buckets.long)) free.2 free.0)

    module _ (full : FreesIn l.buckets.slots (choice k.bucket l.buckets.slots s.prefix) None) (h : ℕ) (e : Content) (r : Result (Unit {0}) Refusal) (same : h ≡ s.hop) (puts : Puts (row_of s.prefix) h (t.content l.below) e r) where
      given : Puts (row_of s.prefix) s.hop (t.content l.below) e r
      given = subst (λ n. Puts (row_of s.prefix) n (t.content l.below) e r) same puts

      -- or below
      pub enters_below : is_ok r ≡ true → Put k.bucket s l.buckets.slots (t.content l.below) l.buckets.slots l.strays e (Ok tt)
      enters_below ok = entered_below k.bucket s l.buckets.slots l.strays (t.content l.below) (kept_of l) good fresh room within full sound.within e r ok given

      -- or into whichever slot is free
      pub enters_anywhere : {i : ℕ} {ys : List Slot} → is_ok r ≡ false → Frees l.buckets.slots (Some i) → ys ≡ set l.buckets.slots i (Some s)
          → Put k.bucket s l.buckets.slots (t.content l.below) ys (l.strays + 1) e (Ok tt)
      enters_anywhere {i} {ys} failed free wrote =
          put_as k.bucket s l.buckets.slots (t.content l.below) (l.strays + 1) e (Ok tt) ys _ wrote
          (entered_anywhere k.bucket s l.buckets.slots l.strays (t.content l.below) (kept_of l) good fresh room within full sound.within e r i failed given l.buckets.long free.0 free.1)

      -- and one is
      pub never_full : is_ok r ≡ false → Frees l.buckets.slots None → ⊥
      never_full failed all = no_room k.bucket s l.buckets.slots l.strays (t.content l.below) (kept_of l) good fresh room within full sound.within e r failed given l.buckets.long all

module _ {C S : Type 0} {k : _} {t : _} (l : Layer C S k t) (p : Prefix) where
  -- an own entry is taken out
  pub takes_own : {i : ℕ} {ys : List Slot} → Some i ≡ spot l.buckets.slots (row_of p) → ys ≡ set l.buckets.slots i None
      → Taken k.bucket (row_of p) l.buckets.slots (t.content l.below) ys (l.strays - cond (near k.bucket p (i / 3)) 0 1) (t.content l.below) (told_by (at l.buckets.slots i))
  takes_own {i} {ys} e wrote =
      taken_as k.bucket (row_of p) l.buckets.slots (t.content l.below) (l.strays - cond (near k.bucket p (i / 3)) 0 1) (t.content l.below) _ _ ys _ wrote refl
      (taken_own k.bucket p l.buckets.slots l.strays (t.content l.below) (kept_of l) i (sym e))

  -- an entry below is taken out, or none
  pub takes_below : (d : Content) (r : Told) → None ≡ spot l.buckets.slots (row_of p) → Removes (row_of p) (t.content l.below) d r → Taken k.bucket (row_of p) l.buckets.slots (t.content l.below) l.buckets.slots l.strays d r
  takes_below d r none removes = taken_below k.bucket p l.buckets.slots l.strays (t.content l.below) (kept_of l) d r (sym none) removes
