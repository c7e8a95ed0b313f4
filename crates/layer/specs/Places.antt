-- Where a layer has its entries, over its slots xs and the content c of the store below; ys and d after a call. Assumes nothing.
-- Left open: which slot of a bucket an entry is in, and which bucket is the last resort.
--   place_of xs c q            where the row q is: in a bucket, below, or nowhere
--   Stay xs c ys d             every row is where it was
--   Placed q w xs c ys d       the row q is at w now, and every other row is where it was
--   LastResort xs w           a bucket with a free slot, whichever
--   Lands f p xs c w           a new prefix goes to w: the least filled of its four buckets, below if that is full, the last resort if below is full too
--   PutPlaces f p xs c ys d r where every row is after setting a hop
use Rattle.std.specs.Prelude.{◌≡◌, ℕ, ◌/◌, ◌<◌, cond, List, Some, None, MatchBool, Option, Result, MatchOption, MatchResult, nat_lt}
use Rattle.bits.specs.Rows.{Bits, same}
use Rattle.net.specs.Prefix.{row_of}
use Rattle.net.specs.declared.prefix.Prefix.{Prefix}
use Rattle.refusal.specs.declared.Refusal.{Refusal}
use Rattle.store.specs.Content.{present, Content}
use Rattle.store.specs.Slots.{Slot, spot}
use Rattle.layer.specs.declared.place.Place.{Place}
use Rattle.layer.specs.declared.place.Place.TheVariants.{Bucket}
use Rattle.layer.specs.declared.place.Place.TheVariants as place
use Rattle.layer.specs.Buckets.{fill, choice}

-- by the slot that has the row, if one has
abbrev pub place_by : Content → Bits → Option ℕ → Option Place
place_by c q (Some i) = Some (Bucket (i / 3))
place_by c q None = cond (present (c.map q)) (Some place.Below) None

abbrev pub place_of : List Slot → Content → Bits → Option Place
place_of xs c q = place_by c q (spot xs q)

abbrev pub Stay : List Slot → Content → List Slot → Content → Type 0
Stay xs c ys d = (x : Bits) → place_of ys d x ≡ place_of xs c x

abbrev pub Placed : Bits → Option Place → List Slot → Content → List Slot → Content → Type 0
Placed q w xs c ys d = (x : Bits) → place_of ys d x ≡ cond (same x q) w (place_of xs c x)

abbrev pub LastResort : List Slot → Place → Type 0
LastResort xs (Bucket b) = (b < 256) × (fill xs b < 3)
LastResort xs place.Below = ⊥

abbrev pub Lands : (Prefix → ℕ → ℕ) → Prefix → List Slot → Content → Place → Type 0
Lands f p xs c w =
    MatchBool (nat_lt (fill xs (choice f xs p)) 3) (w ≡ Bucket (choice f xs p))
    (MatchBool (nat_lt c.held c.limit) (w ≡ place.Below) (LastResort xs w))

abbrev pub PutPlaces : (Prefix → ℕ → ℕ) → Prefix → List Slot → Content → List Slot → Content → Result (Unit {0}) Refusal → Type 0
PutPlaces f p xs c ys d r =
    MatchResult r
    (λ _. MatchOption (place_of xs c (row_of p)) ((w : Place) × (Lands f p xs c w × Placed (row_of p) (Some w) xs c ys d)) (λ _. Stay xs c ys d))
    (λ _. Stay xs c ys d)
