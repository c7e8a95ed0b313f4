-- The run of an edge, counted from edge 0 up. Assumes nothing.
use Rattle.std.proofs.Common.{◌≡◌, ℕ, suc, ◌+◌, ◌-◌, ◌<◌, ◌≤◌, Bool, true, false, List, [], ◌∷◌, reverse, length, get_or, take, drop, sym, refl, ap, ◌∙◌, ⊎_elim, true≢false, arith}
use mathlib.Core.Bool.{beq, false≢true}
use Rattle.std.proofs.lemmas.List.{take_more, drop_more, drop_all, reverse-append, length-reverse, get_or-reverse}
use Rattle.std.proofs.lemmas.Bool.{cases_lt}
use Rattle.bits.specs.Rows.{word}
use Rattle.bits.proofs.Words.{length_word, bit_of_word}
use Rattle.image.specs.Image.{Image, edges_each, marks_of, front_run, run}
use Rattle.image.specs.Picture.{mark}

length_marks : (n m : ℕ) → length (reverse (word n m)) ≡ n
length_marks n m = length-reverse (word n m) ∙ length_word n m

-- the mark of an edge among the marks
mark_at : (n m e : ℕ) → e < n → get_or (reverse (word n m)) e false ≡ mark m e
mark_at n m e less =
    let long : e < length (word n m) = omega (arith, length_word n m) in
    let place : length (word n m) - 1 - e ≡ n - 1 - e = ap (λ k. k - 1 - e) (length_word n m) in
    let back : n - 1 - (n - 1 - e) ≡ e = omega arith in
    let within : n - 1 - e < n = omega arith in
    get_or-reverse (word n m) e false long ∙ ap (λ k. get_or (word n m) k false) place ∙ bit_of_word n m (n - 1 - e) within ∙ ap (mark m) back

-- a front whose next is m, or is not
front_same : (b m : Bool) (bs : List Bool) → b ≡ m → front_run m (b ∷ bs) ≡ suc (front_run m bs)
unfolding front_run
front_same true true bs e = refl
front_same false false bs e = refl
front_same true false bs e = grind arith
front_same false true bs e = grind arith

front_other : (b m : Bool) (bs : List Bool) → (b ≡ m → ⊥) → front_run m (b ∷ bs) ≡ 0
unfolding front_run
front_other true true bs e = absurd (e refl)
front_other false false bs e = absurd (e refl)
front_other true false bs e = refl
front_other false true bs e = refl

front_none : (m : Bool) → front_run m [] ≡ 0
unfolding front_run
front_none m = refl

-- t marks before edge j are in the run of e so far
pub record Counting (ms : List Bool) (e j t : ℕ) : Type 0 where
  pub below : j ≤ e → t ≡ front_run (get_or ms e false) (reverse (take j ms))
  pub above : e ≤ j → t + front_run (get_or ms e false) (drop j ms) ≡ run ms e
  pub few : t ≤ j

module _ (ms : List Bool) (e : ℕ) (within : e < length ms) where
  turned : (j : ℕ) → j < length ms → reverse (take (j + 1) ms) ≡ get_or ms j false ∷ reverse (take j ms)
  turned j less = ap reverse (take_more ms j false less) ∙ reverse-append (take j ms) (get_or ms j false ∷ [])

  -- one mark further, the one at j being in the run or not
  below_same : (j : ℕ) → j < length ms → get_or ms j false ≡ get_or ms e false → front_run (get_or ms e false) (reverse (take (j + 1) ms)) ≡ suc (front_run (get_or ms e false) (reverse (take j ms)))
  below_same j less is = ap (front_run (get_or ms e false)) (turned j less) ∙ front_same (get_or ms j false) (get_or ms e false) (reverse (take j ms)) is

  below_other : (j : ℕ) → j < length ms → (get_or ms j false ≡ get_or ms e false → ⊥) → front_run (get_or ms e false) (reverse (take (j + 1) ms)) ≡ 0
  below_other j less is = ap (front_run (get_or ms e false)) (turned j less) ∙ front_other (get_or ms j false) (get_or ms e false) (reverse (take j ms)) is

  above_same : (j : ℕ) → j < length ms → get_or ms j false ≡ get_or ms e false → front_run (get_or ms e false) (drop j ms) ≡ suc (front_run (get_or ms e false) (drop (j + 1) ms))
  above_same j less is = ap (front_run (get_or ms e false)) (drop_more ms j false less) ∙ front_same (get_or ms j false) (get_or ms e false) (drop (j + 1) ms) is

  above_other : (j : ℕ) → j < length ms → (get_or ms j false ≡ get_or ms e false → ⊥) → front_run (get_or ms e false) (drop j ms) ≡ 0
  above_other j less is = ap (front_run (get_or ms e false)) (drop_more ms j false less) ∙ front_other (get_or ms j false) (get_or ms e false) (drop (j + 1) ms) is

  -- at e itself the marks below are counted, and those above are left
  meet : (j t : ℕ) → j ≡ e → t ≡ front_run (get_or ms e false) (reverse (take j ms)) → t + front_run (get_or ms e false) (drop j ms) ≡ run ms e
  meet j t here below =
      let a : front_run (get_or ms e false) (reverse (take j ms)) ≡ front_run (get_or ms e false) (reverse (take e ms)) = ap (λ k. front_run (get_or ms e false) (reverse (take k ms))) here in
      let b : front_run (get_or ms e false) (drop j ms) ≡ front_run (get_or ms e false) (drop e ms) = ap (λ k. front_run (get_or ms e false) (drop k ms)) here in
      omega arith

  count_none : Counting ms e 0 0
  count_none = let none = sym (front_none (get_or ms e false)) in record { below = λ _. none; above = λ h. meet 0 0 (omega arith) none; few = omega arith }

  count_same : (j t : ℕ) → j < length ms → get_or ms j false ≡ get_or ms e false → Counting ms e j t → Counting ms e (j + 1) (t + 1)
  count_same j t less is h = record {
    below = below;
    above = above;
    few = omega (arith, h.few);
  }
    where
      below : j + 1 ≤ e → t + 1 ≡ front_run (get_or ms e false) (reverse (take (j + 1) ms))
      below k = omega (arith, h.below (omega arith), below_same j less is)

      above : e ≤ j + 1 → t + 1 + front_run (get_or ms e false) (drop (j + 1) ms) ≡ run ms e
      above k = ⊎_elim
          (λ (l : j < e). let here : j + 1 ≡ e = omega arith in meet (j + 1) (t + 1) here (below (omega arith)))
          (λ (l : e ≤ j). omega (arith, h.above l, above_same j less is))
          (cases_lt j e)

  count_other : (j t : ℕ) → j < length ms → j ≤ e → (get_or ms j false ≡ get_or ms e false → ⊥) → Counting ms e j t → Counting ms e (j + 1) 0
  count_other j t less before is h = record {
    below = λ k. sym (below_other j less is);
    above = λ k. let here : j + 1 ≡ e = omega (arith, apart) in meet (j + 1) 0 here (sym (below_other j less is));
    few = omega arith;
  }
    where
      apart : j < e
      apart = ⊎_elim (λ (l : j < e). l) (λ (l : e ≤ j). let same : j ≡ e = omega arith in absurd (is (ap (λ k. get_or ms k false) same))) (cases_lt j e)

  count_stop : (j t : ℕ) → j < length ms → e < j → (get_or ms j false ≡ get_or ms e false → ⊥) → Counting ms e j t → t ≡ run ms e
  count_stop j t less past is h = omega (arith, h.above (omega arith), above_other j less is)

  count_all : (j t : ℕ) → length ms ≤ j → Counting ms e j t → t ≡ run ms e
  count_all j t past h = omega (arith, h.above (omega arith), ap (front_run (get_or ms e false)) (drop_all j ms past), front_none (get_or ms e false))

beq_same : (x y : Bool) → beq x y ≡ true → x ≡ y
beq_same true true h = refl
beq_same false false h = refl
beq_same true false h = absurd (false≢true h)
beq_same false true h = absurd (false≢true h)

beq_differ : (x y : Bool) → beq x y ≡ false → x ≡ y → ⊥
beq_differ true true h e = true≢false h
beq_differ false false h e = true≢false h
beq_differ true false h e = true≢false e
beq_differ false true h e = false≢true e

-- an edge e of the vertex v, whose marks are m
pub record AtEdge (i : Image) (v e m : ℕ) : Type 0 where
  pub is : m ≡ get_or i.marks (v - 1) 0
  pub within : e < edges_each i.stride

-- the same of a vertex's marks, as the code reads them: x is the mark at j, y that at e
module _ {i : Image} {v e m : ℕ} (edge : AtEdge i v e m) where
  at_place : (j : ℕ) (x : Bool) → j < edges_each i.stride → x ≡ mark m j → get_or (marks_of i v) j false ≡ x
  at_place j x less h = mark_at (edges_each i.stride) (get_or i.marks (v - 1) 0) j less ∙ ap (λ n. mark n j) (sym edge.is) ∙ sym h

  as_long : length (marks_of i v) ≡ edges_each i.stride
  as_long = length_marks (edges_each i.stride) (get_or i.marks (v - 1) 0)

  inside : {j : ℕ} → j < edges_each i.stride → j < length (marks_of i v)
  inside less = omega (arith, as_long)

  pub run_none : Counting (marks_of i v) e 0 0
  run_none = count_none (marks_of i v) e (inside edge.within)

  pub run_all : {j t : ℕ} → edges_each i.stride ≤ j → Counting (marks_of i v) e j t → t ≡ run (marks_of i v) e
  run_all past so_far = count_all (marks_of i v) e (inside edge.within) _ _ (omega (arith, as_long)) so_far

  module _ {j t : ℕ} {x y : Bool} (less : j < edges_each i.stride) (at_j : x ≡ mark m j) (at_e : y ≡ mark m e) (so_far : Counting (marks_of i v) e j t) where
    pub run_same : {u : ℕ} → beq x y ≡ true → u ≡ t + 1 → Counting (marks_of i v) e (j + 1) u
    run_same h is =
        let same = at_place j x less at_j ∙ beq_same x y h ∙ sym (at_place e y edge.within at_e) in
        rw is (count_same (marks_of i v) e (inside edge.within) j t (inside less) same so_far)

    differ : beq x y ≡ false → get_or (marks_of i v) j false ≡ get_or (marks_of i v) e false → ⊥
    differ h k = beq_differ x y h (sym (at_place j x less at_j) ∙ k ∙ at_place e y edge.within at_e)

    pub run_other : {u : ℕ} → j ≤ e → beq x y ≡ false → u ≡ 0 → Counting (marks_of i v) e (j + 1) u
    run_other before h is = rw is (count_other (marks_of i v) e (inside edge.within) j t (inside less) before (differ h) so_far)

    pub run_stop : e < j → beq x y ≡ false → t ≡ run (marks_of i v) e
    run_stop past h = count_stop (marks_of i v) e (inside edge.within) j t (inside less) past (differ h) so_far
