-- Marking rows, one after another. Assumes nothing.
use Rattle.std.proofs.Common.{◌≡◌, true, false, cond, List, [], ◌∷◌, Some, None, Result, Ok, Err, sym, refl, ap, ◌∙◌, inl, inr, arith}
use Rattle.std.proofs.lemmas.Bool.{cases_Bool, or_cases, or_left, or_right, or_parts, true≢false}
use Rattle.bits.specs.Lists.{any, count}
use Rattle.bits.specs.Rows.{Bits, same}
use Rattle.bits.proofs.Members.{any_join, same_self}
use Rattle.bits.proofs.Tests.{same_is}
use Rattle.bits.proofs.Sets.{NoRepeats}
use Rattle.refusal.specs.declared.Refusal.{Refusal}
use Rattle.store.specs.Content.{Told, Map, Content, Wrote}
use Rattle.paint.specs.Reach.{has, nameable, Visits, visits_none, visits_more, visits_fail}
use Rattle.paint.specs.Paint.{fair, due, Marks, Done, Painted}

-- the maps agree on the rows
count_agree : (m n : Map) (xs : List Bits) → ((q : Bits) → any (same q) xs ≡ true → m q ≡ n q) → count (has m) xs ≡ count (has n) xs
count_agree m n [] h = refl
count_agree m n (x ∷ xs) h =
    let here = h x (or_left (same x x) _ (same_self x)) in
    let ih = count_agree m n xs (λ q k. h q (or_right (same q x) _ k)) in
    rw (here, ih)

-- where no refusal is due, a prefix has the row and the hop is a fair one
named_of : (c : Content) (q : Bits) (hop : Told) → due c q hop ≡ None → nameable q ≡ true
named_of c q hop free = grind arith

fair_of : (c : Content) (q : Bits) (hop : Told) → due c q hop ≡ None → fair hop ≡ true
fair_of c q None free = refl
fair_of c q (Some h) free = grind arith

pub done_none : (hop : Told) (a : Content) → Done [] hop a a
done_none hop a = record { limits = refl; rows = λ q. refl; number = omega arith; named = λ q e. absurd (true≢false (sym e)); good = λ q e. absurd (true≢false (sym e)) }

-- one row, and then those behind it, which it is not among
done_more : (x : Bits) (xs : List Bits) (hop : Told) (a m b : Content) → any (same x) xs ≡ false → m.limit ≡ a.limit → due a x hop ≡ None → Wrote x hop a m → Done xs hop m b → Done (x ∷ xs) hop a b
done_more x xs hop a m b new limits free wrote rest =
    let other : (q : Bits) → any (same q) xs ≡ true → m.map q ≡ a.map q = λ q h. wrote.rows q ∙ ap (λ t. cond t hop (a.map q)) (apart q h) in
    let agree = count_agree m.map a.map xs other in
    let one = wrote.number in
    let number = rest.number in
    record {
      limits = rest.limits ∙ limits;
      rows = λ q. (let first = wrote.rows q in let then = rest.rows q in grind arith);
      number = grind arith;
      named = λ q e. elim (or_cases (same q x) _ e) [ inl is ↦ ap nameable (same_is q x is) ∙ named_of a x hop free | inr k ↦ rest.named q k ];
      good = λ q e. fair_of a x hop free;
    }
  where
    apart : (q : Bits) → any (same q) xs ≡ true → same q x ≡ false
    apart q h = elim (cases_Bool (same q x)) [ inl is ↦ absurd (true≢false (sym h ∙ ap (λ y. any (same y) xs) (same_is q x is) ∙ new)) | inr k ↦ k ]

pub painted_by : (hop : Told) (xs : List Bits) (a b : Content) (r : Result (Unit {0}) Refusal) → Visits (Marks hop) xs a r b → NoRepeats same xs → Painted xs hop a b r
painted_by hop xs a b r visits_none once = done_none hop a
painted_by hop xs a b (Ok u) (visits_more {x} {xs = rest} {m} step h) (new, once) =
    done_more x rest hop a m b new step.limits step.marked.0 step.marked.1 (painted_by hop rest m b (Ok u) h once)
painted_by hop xs a b (Err why) (visits_more {x} {xs = rest} {m} step h) (new, once) =
    let stop = painted_by hop rest m b (Err why) h once in
    record {
      first = x ∷ stop.first;
      next = stop.next;
      rest = stop.rest;
      parts = ap (λ ys. x ∷ ys) stop.parts;
      done = done_more x stop.first hop a m b
          (or_parts (any (same x) stop.first) _ (sym (any_join (same x) stop.first (stop.next ∷ stop.rest)) ∙ ap (any (same x)) (sym stop.parts) ∙ new)).0
          step.limits step.marked.0 step.marked.1 stop.done;
      refuses = stop.refuses;
    }
painted_by hop xs a b r (visits_fail {x} {xs = rest} {e} step) once =
    record {
      first = [];
      next = x;
      rest = rest;
      parts = refl;
      done = rw step.marked.1 (done_none hop a);
      refuses = rw step.marked.1 step.marked.0;
    }

pub painted_limits : (xs : List Bits) (hop : Told) (a b : Content) (r : Result (Unit {0}) Refusal) → Painted xs hop a b r → b.limit ≡ a.limit
painted_limits xs hop a b (Ok u) done = done.limits
painted_limits xs hop a b (Err why) stop = stop.done.limits
