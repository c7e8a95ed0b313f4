-- Numbering the slots in use. Assumes nothing.
use Rattle.std.proofs.Common.{◌≡◌, ℕ, suc, ◌+◌, ◌-◌, ◌<◌, ◌≤◌, Bool, true, false, cond, ltb, ◌≢◌, List, [], ◌∷◌, ◌++◌, length, get_or, take, set, replicate, sym, refl, ap, ◌∙◌, subst, ⊎_elim, arith}
use Rattle.std.proofs.lemmas.List.{get_or-set_same, get_or-set_other, get_or-replicate, get_or_past, get_or_append_left, get_or_push, length_push, length-replicate, length-set, length-take, take_all}
use Rattle.std.proofs.lemmas.Bool.{cases_lt, cases_eq, cases_Bool, lt-ltb, le-ltb, true≢false}
use Rattle.std.proofs.lemmas.Bool.Decides.{nat_tests}
use Rattle.graph.specs.Slots.{at, used, led, Leads}
use Rattle.graph.specs.declared.edge.Edge.{Edge}
use Rattle.graph.specs.declared.edge.Edge.TheVariants.{End, To}
use Rattle.graph.specs.declared.vertex.Vertex.{Vertex}
use Rattle.graph.proofs.Count.{tally, tally_at_most, tally_one_more, length_in_use}
use Rattle.graph.proofs.Edges.{to_is, led_used, led_free, led_leads, used_within}
use Rattle.imaging.specs.Vertices.{Numbers}
use Rattle.imaging.specs.declared.numbering.Numbering.{Numbering}

-- the slots by number and the numbers of the slots are each other's inverse
pub record Pairs (xs : List Vertex) (slots numbers : List ℕ) : Type 0 where
  pub there : (x : ℕ) → x < length slots → (used (at xs (get_or slots x 0)) ≡ true) × (get_or numbers (get_or slots x 0) 0 ≡ suc x)
  pub back : (v : ℕ) → 1 ≤ get_or numbers v 0 → (get_or numbers v 0 ≤ length slots) × (get_or slots (get_or numbers v 0 - 1) 0 ≡ v)

-- numbers that no slot has yet
abbrev pub nothing : List ℕ
nothing = replicate 2048 0

as_long : length nothing ≡ 2048
as_long = length-replicate {A = ℕ} 2048 0

zeros : (k : ℕ) → get_or nothing k 0 ≡ 0
zeros k = ⊎_elim (λ (l : k < 2048). get_or-replicate {A = ℕ} 2048 k 0 0 l) (λ (l : 2048 ≤ k). get_or_past nothing k 0 (omega (arith, as_long))) (cases_lt k 2048)

pairs_none : (xs : List Vertex) → Pairs xs [] nothing
pairs_none xs = record { there = λ x h. absurd (omega arith); back = λ v h. absurd (omega (arith, zeros v)) }

-- one slot more
pairs_add : (xs : List Vertex) (slots numbers : List ℕ) (v : ℕ) → v < length numbers → used (at xs v) ≡ true → get_or numbers v 0 ≡ 0 → Pairs xs slots numbers → Pairs xs (slots ++ (v ∷ [])) (set numbers v (length slots + 1))
pairs_add xs slots numbers v small stands new h = record { there = there; back = back }
  where
    more : length (slots ++ (v ∷ [])) ≡ length slots + 1
    more = length_push slots v

    other : (x : ℕ) → x < length slots → get_or (slots ++ (v ∷ [])) x 0 ≡ get_or slots x 0
    other x less = get_or_append_left slots (v ∷ []) 0 x less

    number : get_or (set numbers v (length slots + 1)) v 0 ≡ length slots + 1
    number = get_or-set_same numbers v (length slots + 1) 0 small

    numbered : (u : ℕ) → u ≢ v → get_or (set numbers v (length slots + 1)) u 0 ≡ get_or numbers u 0
    numbered u ne = get_or-set_other numbers v u (length slots + 1) 0 ne

    earlier : (x : ℕ) → x < length slots → (used (at xs (get_or (slots ++ (v ∷ [])) x 0)) ≡ true) × (get_or (set numbers v (length slots + 1)) (get_or (slots ++ (v ∷ [])) x 0) 0 ≡ suc x)
    earlier x less =
        let old = h.there x less in
        let apart : get_or slots x 0 ≢ v = λ e. let z : get_or numbers v 0 ≡ suc x = ap (λ k. get_or numbers k 0) (sym e) ∙ old.1 in omega arith in
        rw (other x less) (old.0, numbered (get_or slots x 0) apart ∙ old.1)

    last : (x : ℕ) → length slots ≡ x → (used (at xs (get_or (slots ++ (v ∷ [])) x 0)) ≡ true) × (get_or (set numbers v (length slots + 1)) (get_or (slots ++ (v ∷ [])) x 0) 0 ≡ suc x)
    last x e = let next : length slots + 1 ≡ suc x = omega arith in rw (get_or_push slots v 0 x e) (stands, number ∙ next)

    there : (x : ℕ) → x < length (slots ++ (v ∷ [])) → (used (at xs (get_or (slots ++ (v ∷ [])) x 0)) ≡ true) × (get_or (set numbers v (length slots + 1)) (get_or (slots ++ (v ∷ [])) x 0) 0 ≡ suc x)
    there x less = ⊎_elim (λ (l : x < length slots). earlier x l) (λ (l : length slots ≤ x). last x (omega (arith, more))) (cases_lt x (length slots))

    back : (u : ℕ) → 1 ≤ get_or (set numbers v (length slots + 1)) u 0 → (get_or (set numbers v (length slots + 1)) u 0 ≤ length (slots ++ (v ∷ []))) × (get_or (slots ++ (v ∷ [])) (get_or (set numbers v (length slots + 1)) u 0 - 1) 0 ≡ u)
    back u some = ⊎_elim at_v elsewhere (cases_eq u v)
      where
        at_v : u ≡ v → (get_or (set numbers v (length slots + 1)) u 0 ≤ length (slots ++ (v ∷ []))) × (get_or (slots ++ (v ∷ [])) (get_or (set numbers v (length slots + 1)) u 0 - 1) 0 ≡ u)
        at_v e =
            let is : get_or (set numbers v (length slots + 1)) u 0 ≡ length slots + 1 = ap (λ k. get_or (set numbers v (length slots + 1)) k 0) e ∙ number in
            (omega (arith, more), get_or_push slots v 0 (get_or (set numbers v (length slots + 1)) u 0 - 1) (omega arith) ∙ sym e)

        elsewhere : u ≢ v → (get_or (set numbers v (length slots + 1)) u 0 ≤ length (slots ++ (v ∷ []))) × (get_or (slots ++ (v ∷ [])) (get_or (set numbers v (length slots + 1)) u 0 - 1) 0 ≡ u)
        elsewhere ne =
            let is : get_or (set numbers v (length slots + 1)) u 0 ≡ get_or numbers u 0 = numbered u ne in
            let old = h.back u (omega arith) in
            let most : get_or numbers u 0 ≤ length slots = old.0 in
            (omega (arith, more), ap (λ k. get_or (slots ++ (v ∷ [])) (k - 1) 0) is ∙ other (get_or numbers u 0 - 1) (omega arith) ∙ old.1)

abbrev one_if : Bool → ℕ
one_if b = cond b 1 0

-- the slot that was numbered first is still ahead of slot i
abbrev pub not_yet : Bool → ℕ
not_yet b = cond b 0 1

abbrev pub ahead : Edge → ℕ → ℕ
ahead End i = 0
ahead (To f) i = not_yet (ltb f i)

-- the slots below i are numbered, and the first, to which the start leads
pub record Numbered (xs : List Vertex) (start lead : Edge) (i : ℕ) (slots numbers : List ℕ) : Type 0 where
  pub leads : lead ≡ led xs start
  pub pairs : Pairs xs slots numbers
  pub counted : length slots ≡ tally (take i xs) + ahead lead i
  pub done : (v : ℕ) → v < i → used (at xs v) ≡ true → 1 ≤ get_or numbers v 0
  pub rest : (v : ℕ) → i ≤ v → 1 ≤ get_or numbers v 0 → lead ≡ To v
  pub first : (v : ℕ) → lead ≡ To v → (1 ≤ get_or numbers v 0) × (get_or slots 0 0 ≡ v) × (1 ≤ length slots)
  pub each : length numbers ≡ 2048

-- the first slot, if there is one
pub numbered_none : (xs : List Vertex) (start lead : Edge) → lead ≡ led xs start → lead ≡ End → Numbered xs start lead 0 [] nothing
numbered_none xs start lead leads e = record {
  leads = leads;
  pairs = pairs_none xs;
  counted = sym (ap (λ l. 0 + ahead l 0) e);
  done = λ v h. absurd (omega arith);
  rest = λ v h some. absurd (omega (arith, zeros v));
  first = λ v h. absurd (apart v (sym e ∙ h));
  each = as_long;
}
  where
    apart : (v : ℕ) → End ≡ To v → ⊥
    apart v h = let z : ◌≡◌ {A = ℕ} 0 1 = cc in omega arith

-- a slot that an edge leads to is in use
pub lead_used : (xs : List Vertex) (e : Edge) (v : ℕ) → led xs e ≡ To v → used (at xs v) ≡ true
lead_used xs e v h = subst (Leads xs) h (led_leads xs e)

module _ (xs : List Vertex) (long : length xs ≡ 2048) (start lead : Edge) where
  used_first : lead ≡ led xs start → (v : ℕ) → lead ≡ To v → used (at xs v) ≡ true
  used_first is v e = lead_used xs start v (sym is ∙ e)

  pub numbered_first : lead ≡ led xs start → (f : ℕ) (none slots numbers : List ℕ) → lead ≡ To f → none ≡ [] → slots ≡ none ++ (f ∷ []) → numbers ≡ set nothing f (length none + 1) → Numbered xs start lead 0 slots numbers
  numbered_first leads f none slots numbers e z s-is n-is = rw (s-is ∙ ap (λ l. l ++ (f ∷ [])) z, n-is ∙ ap (λ l. set nothing f (length l + 1)) z) (record {
    leads = leads;
    pairs = pairs_add xs [] nothing f (omega (arith, as_long, small)) (used_first leads f e) (zeros f) (pairs_none xs);
    counted = sym (ap (λ l. 0 + ahead l 0) e ∙ one);
    done = λ v h. absurd (omega arith);
    rest = λ v h some. ⊎_elim (λ (s : v ≡ f). e ∙ ap To (sym s)) (λ (ne : v ≢ f). absurd (omega (arith, get_or-set_other nothing f v (0 + 1) 0 ne, zeros v))) (cases_eq v f);
    first = λ v h. let same : v ≡ f = to_is (sym h ∙ e) in (omega (arith, ap (λ k. get_or (set nothing f (0 + 1)) k 0) same, get_or-set_same nothing f (0 + 1) 0 (omega (arith, as_long, small))), sym same, omega arith);
    each = length-set nothing f (0 + 1) ∙ as_long;
  })
    where
      small : f < 2048
      small = omega (arith, used_within xs f (used_first leads f e))

      one : 0 + ahead (To f) 0 ≡ 1
      one = ap (λ b. 0 + not_yet b) (le-ltb f 0 (omega arith))

  -- one slot on: `ahead` falls where the first slot is passed
  ahead_passed : (i : ℕ) → lead ≡ To i → ahead lead i ≡ suc (ahead lead (i + 1))
  ahead_passed i e = ap (λ l. ahead l i) e ∙ ap not_yet (le-ltb i i (omega arith)) ∙ sym (ap (λ l. suc (ahead l (i + 1))) e ∙ ap (λ b. suc (not_yet b)) (lt-ltb i (i + 1) (omega arith)))

  ahead_same : (l : Edge) (i : ℕ) → (l ≡ To i → ⊥) → ahead l (i + 1) ≡ ahead l i
  ahead_same End i ne = refl
  ahead_same (To f) i ne = let apart : f ≡ i → ⊥ = λ e. ne (ap To e) in grind (arith, nat_tests, apart)

  tally_before : (i : ℕ) → tally (take i xs) ≤ i
  tally_before i = omega (arith, tally_at_most (take i xs), length-take i xs)

  module _ (i : ℕ) (slots numbers : List ℕ) (less : i < 2048) (h : Numbered xs start lead i slots numbers) where
    -- it is the first, and has its number
    pub numbered_had : lead ≡ To i → Numbered xs start lead (i + 1) slots numbers
    numbered_had e =
        let some : 1 ≤ get_or numbers i 0 = (h.first i e).0 in
        let stands : one_if (used (at xs i)) ≡ 1 = ap one_if (used_first h.leads i e) in
        record {
          leads = h.leads;
          pairs = h.pairs;
          counted = omega (arith, h.counted, tally_one_more xs i (omega arith), stands, ahead_passed i e);
          done = λ v l u. ⊎_elim (λ (k : v < i). h.done v k u) (λ (k : i ≤ v). let same : i ≡ v = omega arith in subst (λ n. 1 ≤ get_or numbers n 0) same some) (cases_lt v i);
          rest = λ v l s. h.rest v (omega arith) s;
          first = h.first;
          each = h.each;
        }

    -- it is free
    pub numbered_free : used (at xs i) ≡ false → Numbered xs start lead (i + 1) slots numbers
    numbered_free free =
        let ne : lead ≡ To i → ⊥ = λ e. true≢false (sym (used_first h.leads i e) ∙ free) in
        let unused : one_if (used (at xs i)) ≡ 0 = ap one_if free in
        record {
          leads = h.leads;
          pairs = h.pairs;
          counted = omega (arith, h.counted, tally_one_more xs i (omega arith), unused, ahead_same lead i ne);
          done = λ v l u. ⊎_elim (λ (k : v < i). h.done v k u) (λ (k : i ≤ v). let same : v ≡ i = omega arith in absurd (true≢false (sym u ∙ ap (λ n. used (at xs n)) same ∙ free))) (cases_lt v i);
          rest = λ v l s. h.rest v (omega arith) s;
          first = h.first;
          each = h.each;
        }

    -- it has no number yet
    unnumbered : (lead ≡ To i → ⊥) → get_or numbers i 0 ≡ 0
    unnumbered other = ⊎_elim (λ (k : get_or numbers i 0 < 1). omega arith) (λ (k : 1 ≤ get_or numbers i 0). absurd (other (h.rest i (omega arith) k))) (cases_lt (get_or numbers i 0) 1)

    -- there is room for one more
    pub numbered_room : (lead ≡ To i → ⊥) → length slots < 2048
    numbered_room other = go lead refl
      where
        go : (l : Edge) → lead ≡ l → length slots < 2048
        go End e = let z : ahead lead i ≡ 0 = ap (λ k. ahead k i) e in omega (arith, h.counted, tally_before i)
        go (To f) e =
            let small : f < 2048 = omega (arith, used_within xs f (used_first h.leads f e)) in
            let ne : f ≡ i → ⊥ = λ s. other (e ∙ ap To s) in
            let is : ahead lead i ≡ ahead (To f) i = ap (λ k. ahead k i) e in
            ⊎_elim
            (λ (k : f < i). let z : ahead (To f) i ≡ 0 = ap not_yet (lt-ltb f i k) in omega (arith, h.counted, tally_before i, is))
            (λ (k : i ≤ f). let z : ahead (To f) i ≡ 1 = ap not_yet (le-ltb f i k) in omega (arith, h.counted, tally_before i, is, ne))
            (cases_lt f i)

    -- it gets the next number
    pub numbered_add : (slots' numbers' : List ℕ) → (lead ≡ To i → ⊥) → used (at xs i) ≡ true → slots' ≡ slots ++ (i ∷ []) → numbers' ≡ set numbers i (length slots + 1) → Numbered xs start lead (i + 1) slots' numbers'
    numbered_add slots' numbers' apart stands s-is n-is = rw (s-is, n-is) (record {
      leads = h.leads;
      pairs = pairs_add xs slots numbers i (omega (arith, h.each)) stands (unnumbered apart) h.pairs;
      counted = omega (arith, length_push slots i, h.counted, tally_one_more xs i (omega arith), ap one_if stands, ahead_same lead i apart);
      done = done;
      rest = rest;
      first = first;
      each = length-set numbers i (length slots + 1) ∙ h.each;
    })
      where
        number : get_or (set numbers i (length slots + 1)) i 0 ≡ length slots + 1
        number = get_or-set_same numbers i (length slots + 1) 0 (omega (arith, h.each))

        numbered : (u : ℕ) → u ≢ i → get_or (set numbers i (length slots + 1)) u 0 ≡ get_or numbers u 0
        numbered u ne = get_or-set_other numbers i u (length slots + 1) 0 ne

        done : (v : ℕ) → v < i + 1 → used (at xs v) ≡ true → 1 ≤ get_or (set numbers i (length slots + 1)) v 0
        done v l u = ⊎_elim
            (λ (k : v < i). omega (arith, numbered v (omega arith), h.done v k u))
            (λ (k : i ≤ v). let same : i ≡ v = omega arith in subst (λ n. 1 ≤ get_or (set numbers i (length slots + 1)) n 0) same (omega (arith, number)))
            (cases_lt v i)

        rest : (v : ℕ) → i + 1 ≤ v → 1 ≤ get_or (set numbers i (length slots + 1)) v 0 → lead ≡ To v
        rest v l s = h.rest v (omega arith) (omega (arith, numbered v (omega arith)))

        first : (v : ℕ) → lead ≡ To v → (1 ≤ get_or (set numbers i (length slots + 1)) v 0) × (get_or (slots ++ (i ∷ [])) 0 0 ≡ v) × (1 ≤ length (slots ++ (i ∷ [])))
        first v e =
            let old = h.first v e in
            let ne : v ≢ i = λ s. apart (e ∙ ap To s) in
            (omega (arith, numbered v ne, old.0), get_or_append_left slots (i ∷ []) 0 0 (omega (arith, old.2)) ∙ old.1, omega (arith, length_push slots i))

  pub numbered_all : (i : ℕ) (n : Numbering) → 2048 ≤ i → Numbered xs start lead i n.slots.items n.numbers → Numbers xs (led xs start) n
  numbered_all i n past h = record {
    counted = h.counted ∙ (omega (arith, none_ahead lead refl, ap tally (take_all i xs (omega arith)), length_in_use 0 xs));
    numbers = h.pairs.there;
    slots = λ v u. let some = h.done v (omega (arith, used_within xs v u)) u in let old = h.pairs.back v some in (some, old.0, old.1);
    first = λ v e. (h.first v (h.leads ∙ e)).1;
  }
    where
      none_ahead : (l : Edge) → lead ≡ l → ahead lead i ≡ 0
      none_ahead End e = ap (λ k. ahead k i) e
      none_ahead (To f) e = ap (λ k. ahead k i) e ∙ ap not_yet (lt-ltb f i (omega (arith, used_within xs f (used_first h.leads f e))))

-- a slot that its edge is not taken to lead to is free
pub led_not_used : (xs : List Vertex) (n : ℕ) → (led xs (To n) ≡ To n → ⊥) → used (at xs n) ≡ false
led_not_used xs n h = ⊎_elim (λ (u : used (at xs n) ≡ true). absurd (h (led_used xs n u))) (λ (u : used (at xs n) ≡ false). u) (cases_Bool (used (at xs n)))

pub led_end_free : (xs : List Vertex) (n : ℕ) → End ≡ led xs (To n) → used (at xs n) ≡ false
led_end_free xs n h = led_not_used xs n (λ e. apart (h ∙ e))
  where
    apart : End ≡ To n → ⊥
    apart e = let z : ◌≡◌ {A = ℕ} 0 1 = cc in omega arith

pub led_to_used : (xs : List Vertex) (n m : ℕ) → To m ≡ led xs (To n) → used (at xs n) ≡ true
led_to_used xs n m h = ⊎_elim (λ (u : used (at xs n) ≡ true). u) (λ (u : used (at xs n) ≡ false). absurd (apart (h ∙ led_free xs n u))) (cases_Bool (used (at xs n)))
  where
    apart : To m ≡ End → ⊥
    apart e = let z : ◌≡◌ {A = ℕ} 0 1 = cc in omega arith
