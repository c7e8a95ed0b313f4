-- A layer's number held is the number of its rows: the law of a layer. Assumes nothing.
use Rattle.std.proofs.Common.{◌≡◌, ◌+◌, ◌≤◌, Bool, true, false, ◌||◌, List, [], ◌∷◌, ◌++◌, length, sym, refl, ap, ◌∙◌, arith}
use mathlib.Core.Logic.{∥∥₁_map}
use Rattle.std.proofs.lemmas.List.{length-append}
use Rattle.std.proofs.lemmas.List.Sums.{count_by-le-length}
use Rattle.bits.specs.Lists.{any}
use Rattle.bits.specs.Rows.{Bits, same}
use Rattle.bits.proofs.Fronts.{same_self}
use Rattle.bits.proofs.Sets.{NoRepeats}
use Rattle.store.specs.Content.{absent, present, Content, Listed, Counted, Sound}
use Rattle.store.specs.Numbers.{rows, rows_listed}
use Rattle.store.specs.Slots.{Slot, taken, told_in, used, Apart}
use Rattle.layer.specs.Layers.{layer_content}

-- lists with no row in both
any_both : (t : Bits → Bool) (xs ys : List Bits) → any t (xs ++ ys) ≡ (any t xs || any t ys)
any_both t [] ys = refl
any_both t (x ∷ xs) ys = let ih = any_both t xs ys in grind arith

no_repeats_both : (xs ys : List Bits) → NoRepeats same xs → NoRepeats same ys → ((q : Bits) → any (same q) xs ≡ true → any (same q) ys ≡ false) → NoRepeats same (xs ++ ys)
no_repeats_both [] ys a b c = b
no_repeats_both (x ∷ xs) ys a b c =
    let here = c x (let s = same_self x in grind arith) in
    let both = any_both (same x) xs ys in
    let new = a.0 in
    (grind arith, no_repeats_both xs ys a.1 b (λ q h. c q (grind arith)))

pub joined_counted : (xs : List Slot) (c : Content) → Apart xs → ((q : Bits) → present (told_in xs q) ≡ true → c.map q ≡ absent) → Counted c.map c.held → Counted (layer_content xs c).map (layer_content xs c).held
joined_counted xs c apart separate counted = ∥∥₁_map counted λ (ys, l). (rows xs ++ ys, both ys l)
  where
    both : (ys : List Bits) → Listed c.map c.held ys → Listed (layer_content xs c).map (layer_content xs c).held (rows xs ++ ys)
    both ys l =
        let own = rows_listed xs apart in
        record {
          once = no_repeats_both (rows xs) ys own.once l.once (λ q h. l.all q ∙ ap present (separate q (sym (own.all q) ∙ h)));
          all = λ q. (let a = own.all q in let b = l.all q in let s = any_both (same q) (rows xs) ys in grind arith);
          long = omega (arith, length-append (rows xs) ys, own.long, l.long);
        }

-- with as many slots as one likes, a layer is sound where it holds no more than it may
pub sound_within : (xs : List Slot) (c : Content) → Apart xs → ((q : Bits) → present (told_in xs q) ≡ true → c.map q ≡ absent) → (layer_content xs c).held ≤ (layer_content xs c).limit → Sound c → Sound (layer_content xs c)
sound_within xs c apart separate within below = record { within = within; most = omega arith; counted = joined_counted xs c apart separate below.counted }

-- a layer is sound, whatever it holds
pub layer_sound : (xs : List Slot) (c : Content) → length xs ≡ 768 → Apart xs → ((q : Bits) → present (told_in xs q) ≡ true → c.map q ≡ absent) → used xs + c.held ≤ 16777216 → Sound c → Sound (layer_content xs c)
layer_sound xs c long apart separate most below = sound_within xs c apart separate (omega (arith, count_by-le-length taken xs, below.within)) below
