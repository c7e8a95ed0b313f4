-- What a write to a layer's own slots, or to the store below, does to the layer's content and places. Assumes nothing.
use Rattle.std.proofs.Common.{◌≡◌, ℕ, ◌/◌, Bool, true, false, cond, List, set, Some, None, Option, sym, refl, ap, ◌∙◌, inl, inr, arith}
use Rattle.std.proofs.lemmas.Bool.{cases_Bool, true≢false}
use Rattle.bits.specs.Rows.{Bits, same}
use Rattle.bits.proofs.Tests.{same_is}
use Rattle.store.specs.Content.{Told, absent, present, size, Content, Wrote}
use Rattle.store.specs.Slots.{Slot, told_by, taken, spot, told_at, told_in, Apart}
use Rattle.store.proofs.Spots.{Of, Site, written}
use Rattle.layer.specs.declared.place.Place.TheVariants.{Bucket}
use Rattle.layer.specs.declared.place.Place.TheVariants as place
use Rattle.layer.specs.Layers.{joined, layer_content}
use Rattle.layer.specs.Places.{place_by, Placed}

-- a write to one of the layer's slots
module _ (xs : List Slot) (c : Content) (q : Bits) (i : ℕ) (site : Site xs q i) (s : Slot) (of : Of q s) (none : c.map q ≡ absent) where
  own_tells : (x : Bits) → told_in (set xs i s) x ≡ cond (same x q) (told_by s) (told_in xs x)
  own_tells = (written xs q i site s of).tells

  pub own_wrote : Wrote q (told_by s) (layer_content xs c) (layer_content (set xs i s) c)
  own_wrote =
      record {
        rows = λ x. elim (cases_Bool (same x q)) [
          | inl e ↦ (let z = same_is x q e in let t = own_tells x in let m : c.map x ≡ absent = rw z none in told (told_by s) (told_in (set xs i s) x) (c.map x) (t ∙ rw e refl) m ∙ sym (rw e refl))
          | inr e ↦ (let t : told_in (set xs i s) x ≡ told_in xs x = own_tells x ∙ rw e refl in rw e (ap (λ u. joined u (c.map x)) t))
        ];
        number = (let w = (written xs q i site s of).number in let m = sizes (told_in xs q) (c.map q) none in omega arith);
      }
    where
      told : (t u v : Told) → u ≡ t → v ≡ absent → joined u v ≡ t
      told None u v e z = rw (e, z) refl
      told (Some h) u v e z = rw e refl

      sizes : (u v : Told) → v ≡ absent → size (joined u v) ≡ size u
      sizes None v z = rw z refl
      sizes (Some h) v z = refl

  pub own_places : Placed q (cond (taken s) (Some (Bucket (i / 3))) None) xs c (set xs i s) c
  own_places x =
      elim (cases_Bool (same x q)) [
        | inl e ↦ (let z = same_is x q e in let m : c.map x ≡ absent = rw z none in rw (w x, e) (here x m (taken s)))
        | inr e ↦ rw (w x, e) refl
      ]
    where
      w : (x : Bits) → spot (set xs i s) x ≡ cond (same x q) (cond (taken s) (Some i) None) (spot xs x)
      w = (written xs q i site s of).spots

      here : (x : Bits) → c.map x ≡ absent → (b : Bool) → place_by c x (cond b (Some i) None) ≡ cond b (Some (Bucket (i / 3))) None
      here x m true = refl
      here x m false = rw m refl

  pub own_separate : ((x : Bits) → present (told_in xs x) ≡ true → c.map x ≡ absent) → (x : Bits) → present (told_in (set xs i s) x) ≡ true → c.map x ≡ absent
  own_separate before x h =
      elim (cases_Bool (same x q)) [
        | inl e ↦ rw (same_is x q e) none
        | inr e ↦ (let t : told_in (set xs i s) x ≡ told_in xs x = own_tells x ∙ rw e refl in before x (ap present (sym t) ∙ h))
      ]

  pub own_apart : Apart (set xs i s)
  own_apart = (written xs q i site s of).apart

-- a write to the store below
module _ (xs : List Slot) (c d : Content) (q : Bits) (t : Told) (none : spot xs q ≡ None) (w : Wrote q t c d) where
  own_none : told_in xs q ≡ absent
  own_none = ap (told_at xs) none

  pub below_wrote : Wrote q t (layer_content xs c) (layer_content xs d)
  below_wrote =
      record {
        rows = λ x. elim (cases_Bool (same x q)) [
          | inl e ↦ (let z = same_is x q e in let o : told_in xs x ≡ absent = rw z own_none in rw o (w.rows x ∙ rw e refl))
          | inr e ↦ (let m : d.map x ≡ c.map x = w.rows x ∙ rw e refl in rw e (ap (joined (told_in xs x)) m))
        ];
        number = (let m = w.number in let o = own_none in rw o (omega arith));
      }

  pub below_places : Placed q (cond (present t) (Some place.Below) None) xs c xs d
  below_places x =
      elim (cases_Bool (same x q)) [
        | inl e ↦ (let z = same_is x q e in let o : spot xs x ≡ None = rw z none in rw (o, w.rows x, e) refl)
        | inr e ↦ (let m : d.map x ≡ c.map x = w.rows x ∙ rw e refl in rw e (by (spot xs x) m))
      ]
    where
      by : {x : Bits} (o : Option ℕ) → d.map x ≡ c.map x → place_by d x o ≡ place_by c x o
      by (Some i) m = refl
      by None m = rw m refl

  pub below_separate : ((x : Bits) → present (told_in xs x) ≡ true → c.map x ≡ absent) → (x : Bits) → present (told_in xs x) ≡ true → d.map x ≡ absent
  below_separate before x h =
      elim (cases_Bool (same x q)) [
        | inl e ↦ (let o : told_in xs x ≡ absent = rw (same_is x q e) own_none in absurd (true≢false (sym h ∙ ap present o)))
        | inr e ↦ w.rows x ∙ rw e (before x h)
      ]
