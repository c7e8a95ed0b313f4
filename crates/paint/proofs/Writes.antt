-- One write of rows after another. Assumes nothing.
use Rattle.std.proofs.Common.{◌≡◌, ◌+◌, ◌≤◌, Bool, true, false, not, List, [], ◌∷◌, ◌++◌, sym, refl, ◌∙◌, arith}
use Rattle.std.proofs.lemmas.Bool.{cases_Bool, or_left, or_right, or_parts, both_ways}
use Rattle.bits.specs.Lists.{any, count}
use Rattle.bits.specs.Rows.{Bits, same}
use Rattle.bits.proofs.Members.{any_join, count_join, same_self}
use Rattle.store.specs.Content.{Told, Map, Content, present}
use Rattle.paint.specs.Paint.{has, missing}
use Rattle.paint.specs.Whole.{Whole}

-- no row is in both
abbrev pub Apart : List Bits → List Bits → Type 0
Apart xs ys = (q : Bits) → any (same q) ys ≡ true → any (same q) xs ≡ false

-- the maps agree on the rows
count_agree : (f : Told → Bool) (m n : Map) (xs : List Bits) → ((q : Bits) → any (same q) xs ≡ true → m q ≡ n q) → count (λ q. f (m q)) xs ≡ count (λ q. f (n q)) xs
count_agree f m n [] h = refl
count_agree f m n (x ∷ xs) h =
    let here = h x (or_left (same x x) _ (same_self x)) in
    let ih = count_agree f m n xs (λ q k. h q (or_right (same q x) _ k)) in
    rw (here, ih)

-- each row is there or missing
count_split : (m : Map) (xs : List Bits) → count (has m) xs + count (missing m) xs ≡ count (λ _. true) xs
count_split m [] = refl
count_split m (x ∷ xs) = let ih = count_split m xs in let here = cases_Bool (has m x) in grind arith

entries_most : (b : Bool) (xs : List Bits) → count (λ _. b) xs ≤ count (λ _. true) xs
entries_most b [] = omega arith
entries_most b (x ∷ xs) = let ih = entries_most b xs in grind arith

pub wrote_none : (hop : Told) (a : Content) → Whole [] hop a a true
wrote_none hop a = record { limits = refl; rows = λ _ q. refl; number = λ _. omega arith; room = λ _. refl; none = λ _. refl; elsewhere = λ q _. refl }

module _ (xs ys : List Bits) (hop : Told) (a b : Content) where
  -- the first is refused
  pub wrote_stop : Whole xs hop a b false → Whole (xs ++ ys) hop a b false
  wrote_stop w =
      record {
        limits = w.limits;
        rows = λ e. absurd (both_ways _ refl e);
        number = λ e. absurd (both_ways _ refl e);
        room = λ h. w.room (omega (arith, count_join (missing a.map) xs ys));
        none = w.none;
        elsewhere = λ q e. w.elsewhere q (or_parts _ _ (sym (any_join (same q) xs ys) ∙ e)).0;
      }

  pub wrote_append : (c : Content) (ok : Bool) → Apart xs ys → Whole xs hop a b true → Whole ys hop b c ok → Whole (xs ++ ys) hop a c ok
  wrote_append c ok apart first second =
      let kept_rows : (q : Bits) → any (same q) ys ≡ true → b.map q ≡ a.map q = λ q h. first.elsewhere q (apart q h) in
      let missing_again = count_agree (λ o. not (present o)) b.map a.map ys kept_rows in
      let present_again = count_agree present b.map a.map ys kept_rows in
      let missing_both = count_join (missing a.map) xs ys in
      let present_both = count_join (has a.map) xs ys in
      let entries_both = count_join (λ _. present hop) xs ys in
      let one = first.number refl in
      let whole = count_split a.map xs in
      let most = entries_most (present hop) xs in
      let limits = first.limits in
      record {
        limits = second.limits ∙ first.limits;
        rows = λ e q. (let f = first.rows refl q in let s = second.rows e q in let any_both = any_join (same q) xs ys in grind arith);
        number = λ e. omega (arith, second.number e);
        room = λ h. second.room (omega arith);
        none = second.none;
        elsewhere = λ q e. (let parts = or_parts _ _ (sym (any_join (same q) xs ys) ∙ e) in second.elsewhere q parts.1 ∙ first.elsewhere q parts.0);
      }
