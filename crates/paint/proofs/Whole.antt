-- Painting where each leaf below the node has a prefix: what it comes to as a whole. Assumes nothing.
use Rattle.std.proofs.Common.{◌≡◌, ℕ, ◌+◌, ◌-◌, ◌^◌, ◌≤◌, min, Bool, true, false, cond, List, [], ◌∷◌, ◌++◌, length, is_ok, Some, None, Result, Ok, Err, sym, refl, ap, ◌∙◌, subst, arith, length-append}
use Rattle.std.proofs.lemmas.Bool.{or_left, or_right, or_parts, both_ways}
use Rattle.std.proofs.lemmas.Bool.Decides.{nat_tests}
use Rattle.bits.specs.Lists.{any, only, count}
use Rattle.bits.specs.Rows.{Bits, same}
use Rattle.bits.proofs.Tests.{only_is}
use Rattle.bits.proofs.Members.{any_join, count_join, has_row, same_self}
use Rattle.refusal.specs.declared.Refusal.{Refusal}
use Rattle.tree.specs.Tree.{Shape, leaf, fork}
use Rattle.tree.specs.Changes.{painted}
use Rattle.store.specs.Content.{Told, Map, Content, present}
use Rattle.graph.specs.declared.edge.Edge.{Edge}
use Rattle.graph.specs.declared.vertex.Vertex.{Vertex}
use Rattle.paint.specs.Paint.{has, nameable, reached, walked, missing, entries, fair, due, Done, Stops, Painted, Paints, Counts}
pub use Rattle.paint.specs.Whole.{Fits, Whole, PaintsWhole, CountsWhole}
use Rattle.paint.proofs.Lengths.{nameable_short}
use Rattle.paint.proofs.Reaching.{reached_leaf, reached_fork, walked_leaf, walked_fork, only_walked}

-- what fits is reached
reached_fits : (own : Bits → Bool) (t : Shape) (q : Bits) → Fits q t → reached own t q ≡ painted own t q
unfolding painted
reached_fits own leaf q h = reached_leaf own q (omega arith)
reached_fits own (fork a b) q h =
    let left = reached_fits own a (q ++ (false ∷ [])) (rw length-append (omega arith)) in
    let right = reached_fits own b (q ++ (true ∷ [])) (rw length-append (omega arith)) in
    rw (reached_fork own a b q, left, right) refl

-- and so it is what a walk goes through
walked_fits : (own : Bits → Bool) (t : Shape) (q : Bits) → Fits q t → walked own t q ≡ painted own t q
unfolding painted
walked_fits own leaf q h = walked_leaf own q
walked_fits own (fork a b) q h =
    let left = walked_fits own a (q ++ (false ∷ [])) (rw length-append (omega arith)) in
    let right = walked_fits own b (q ++ (true ∷ [])) (rw length-append (omega arith)) in
    let left_named : nameable (q ++ (false ∷ [])) ≡ true = nameable_short (q ++ (false ∷ [])) (rw length-append (omega arith)) in
    let right_named : nameable (q ++ (true ∷ [])) ≡ true = nameable_short (q ++ (true ∷ [])) (rw length-append (omega arith)) in
    rw (walked_fork own a b q (omega arith), left_named, right_named, left, right) refl

only_passes : (t : Bits → Bool) (xs : List Bits) (x : Bits) → any (same x) (only t xs) ≡ true → t x ≡ true
only_passes t xs x h = ((only_is t xs x).0 ((has_row x (only t xs)).1 h)).1

-- each row of it is a prefix's
named_fits : (own : Bits → Bool) (t : Shape) (q : Bits) → Fits q t → (x : Bits) → any (same x) (walked own t q) ≡ true → nameable x ≡ true
named_fits own t q h x m =
    only_passes nameable (walked own t q) x (ap (any (same x)) (only_walked own t q ∙ reached_fits own t q h ∙ sym (walked_fits own t q h)) ∙ m)

-- each row is there or missing
count_split : (m : Map) (xs : List Bits) → count (has m) xs + count (missing m) xs ≡ length xs
count_split m [] = refl
count_split m (x ∷ xs) = let ih = count_split m xs in grind arith

entries_all : (h : ℕ) (xs : List Bits) → entries (Some h) xs ≡ length xs
entries_all h [] = refl
entries_all h (x ∷ xs) = let ih = entries_all h xs in grind arith

-- the row that the store refused was missing, and there was no room for it
full : (h : ℕ) (first rest : List Bits) (next : Bits) (a b : Content) (why : Refusal) → Done first (Some h) a b → fair (Some h) ≡ true → nameable next ≡ true → due b next (Some h) ≡ Some why
    → a.held + count (missing a.map) (first ++ (next ∷ rest)) ≤ a.limit → ⊥
full h first rest next a b why done good named refused room =
    let row = done.rows next in
    let number = done.number in
    let split = count_split a.map first in
    let all = entries_all h first in
    let limits = done.limits in
    let both = count_join (missing a.map) first (next ∷ rest) in
    grind (arith, nat_tests)

abbrev Named : List Bits → Type 0
Named xs = (x : Bits) → any (same x) xs ≡ true → nameable x ≡ true

next_in : (xs first rest : List Bits) (next : Bits) → xs ≡ first ++ (next ∷ rest) → any (same next) xs ≡ true
next_in xs first rest next parts = rw (parts, any_join (same next) first (next ∷ rest)) (or_right (any (same next) first) _ (or_left (same next next) _ (same_self next)))

whole_stop : (xs : List Bits) (hop : Told) (a b : Content) (why : Refusal) → fair hop ≡ true → Named xs → Stops xs hop a b why → Whole xs hop a b false
whole_stop xs hop a b why good all stop =
    record {
      limits = stop.done.limits;
      rows = λ e. absurd (both_ways _ refl e);
      number = λ e. absurd (both_ways _ refl e);
      room = λ h. absurd (no_room hop stop good (named hop stop) (subst (λ ys. a.held + count (missing a.map) ys ≤ a.limit) stop.parts h));
      none = λ none. absurd (no_erasing hop stop (named hop stop) none);
      elsewhere = λ q e. (
          let out = (or_parts (any (same q) stop.first) _ (sym (any_join (same q) stop.first (stop.next ∷ stop.rest)) ∙ ap (any (same q)) (sym stop.parts) ∙ e)).0 in
          stop.done.rows q ∙ ap (λ t. cond t hop (a.map q)) out);
    }
  where
    named : (hop : Told) (stop : Stops xs hop a b why) → nameable stop.next ≡ true
    named hop stop = all stop.next (next_in xs stop.first stop.rest stop.next stop.parts)

    no_room : (hop : Told) (stop : Stops xs hop a b why) → fair hop ≡ true → nameable stop.next ≡ true → a.held + count (missing a.map) (stop.first ++ (stop.next ∷ stop.rest)) ≤ a.limit → ⊥
    no_room None stop good named h = absurd (grind (arith, stop.refuses))
    no_room (Some hop) stop good named h = full hop stop.first stop.rest stop.next a b why stop.done good named stop.refuses h

    no_erasing : (hop : Told) (stop : Stops xs hop a b why) → nameable stop.next ≡ true → present hop ≡ false → ⊥
    no_erasing None stop named none = absurd (grind (arith, stop.refuses))
    no_erasing (Some hop) stop named none = absurd (grind (arith, none))

whole : (xs : List Bits) (hop : Told) (a b : Content) (r : Result (Unit {0}) Refusal) → fair hop ≡ true → Named xs → Painted xs hop a b r → Whole xs hop a b (is_ok r)
whole xs hop a b (Ok u) good all done =
    record {
      limits = done.limits;
      rows = λ _. done.rows;
      number = λ _. done.number;
      room = λ _. refl;
      none = λ _. refl;
      elsewhere = λ q e. done.rows q ∙ ap (λ t. cond t hop (a.map q)) e;
    }
whole xs hop a b (Err why) good all stop = whole_stop xs hop a b why good all stop

pub paints_whole : (routes : Map) (slots : List Vertex) (e : Edge) (q : Bits) (hop : Told) (a b : Content) (r : Result (Unit {0}) Refusal)
    → Paints routes slots e q hop a b r → PaintsWhole routes slots e q hop a b (is_ok r)
paints_whole routes slots e q hop a b r h good t u fits =
    subst (λ xs. Whole xs hop a b (is_ok r)) (walked_fits (has routes) t q fits) (whole _ hop a b r good (named_fits (has routes) t q fits) (h t u))

pub counts_whole : (routes leaves : Map) (slots : List Vertex) (e : Edge) (q : Bits) (n : ℕ) → Counts routes leaves slots e q n → CountsWhole routes leaves slots e q n
counts_whole routes leaves slots e q n h t u fits = subst (λ xs. n ≡ min (count (missing leaves) xs) (2 ^ 64 - 1)) (reached_fits (has routes) t q fits) (h t u)
