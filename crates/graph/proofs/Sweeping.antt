-- The sweep: a loop over the slots, and the sound table that it leaves. Assumes nothing.
use Rattle.std.proofs.Common.{◌≡◌, ℕ, ◌+◌, ◌<◌, ◌≤◌, Bool, true, false, cond, ◌⊎◌, List, length, take, set, replicate, sym, ap, ◌∙◌, subst, inl, inr, arith, length-set}
use mathlib.Core.Logic.{∥∥₁_elim, ∥∥₁_map}
use mathlib.Core.List.Memᴰ
use mathlib.Core.List.{Mem, Memᴰ}
use mathlib.Core.HLevel.{Unit-prop, ×_prop}
use mathlib.Core.Bool.{Bool-set}
use lib.ListN.{length-replicate}
use Rattle.std.proofs.lemmas.Bool.{cases_Bool, cases_eq, cases_lt, both_ways, cond-true, cond-false}
use Rattle.std.proofs.lemmas.List.{get_or-set_same, get_or-set_other, get_or_past, get_or-replicate, take_more_set, take_all}
use Rattle.tree.specs.Tree.{Shape, shapes}
use Rattle.graph.specs.Slots.{used, zero_of, one_of, blank, at, Unfolds, unfolds_end, unfolds_to, Leads, Sound, in_use}
use Rattle.graph.specs.Keep.{depth, marked, Marks, Whole, Reached, Swept, KeptOnly}
use Rattle.graph.specs.declared.edge.Edge.{Edge}
use Rattle.graph.specs.declared.edge.Edge.TheVariants.{End, To}
use Rattle.graph.specs.declared.vertex.Vertex.{Vertex}
use Rattle.graph.proofs.Unfold.{EdgesOnce, edges_once, shapes_once, sides_lead, unfolds_once, unfolds_of_leads}
use Rattle.graph.proofs.Count.{tally, tally_push, tally_one_more, length_in_use}
use Rattle.graph.proofs.Depth.{depth_bound}

-- the first i slots are swept, and n of them are in use
pub record Sweeping (xs : List Vertex) (ms : List Bool) (i n : ℕ) (ys : List Vertex) : Type 0 where
  pub long : length ys ≡ 2048
  pub done : (k : ℕ) → k < i → at ys k ≡ cond (marked ms k) (at xs k) blank
  pub rest : (k : ℕ) → i ≤ k → at ys k ≡ at xs k
  pub count : n ≡ tally (take i ys)
  pub few : n ≤ i

module _ (xs : List Vertex) (ms : List Bool) (i n : ℕ) (ys : List Vertex) where
  pub sweep_free : Sweeping xs ms i n ys → i < 2048 → marked ms i ≡ false → Sweeping xs ms (i + 1) n (set ys i blank)
  sweep_free s less m = record {
    long = length-set ys i blank ∙ s.long;
    done = λ k h. done k h (cases_eq k i);
    rest = λ k h. get_or-set_other ys i k blank blank (omega arith) ∙ s.rest k (omega arith);
    count = s.count ∙ omega (arith, tally_push (take i ys) blank, ap tally (take_more_set ys i blank (omega (arith, s.long))));
    few = omega (arith, s.few);
  }
    where
      done : (k : ℕ) → k < i + 1 → (k ≡ i) ⊎ (k ≡ i → ⊥) → at (set ys i blank) k ≡ cond (marked ms k) (at xs k) blank
      done k h (inl e) = ap (at (set ys i blank)) e ∙ get_or-set_same ys i blank blank (omega (arith, s.long)) ∙ sym (cond-false (marked ms k) (at xs k) blank (ap (marked ms) e ∙ m))
      done k h (inr apart) = get_or-set_other ys i k blank blank apart ∙ s.done k (omega arith)

  pub sweep_keep : Sweeping xs ms i n ys → i < 2048 → marked ms i ≡ true → Sweeping xs ms (i + 1) (n + cond (used (at ys i)) 1 0) ys
  sweep_keep s less m = record {
    long = s.long;
    done = λ k h. done k h (cases_eq k i);
    rest = λ k h. s.rest k (omega arith);
    count = omega (arith, s.count, tally_one_more ys i (omega (arith, s.long)));
    few = few (used (at ys i));
  }
    where
      few : (b : Bool) → n + cond b 1 0 ≤ i + 1
      few true = omega (arith, s.few)
      few false = omega (arith, s.few)

      done : (k : ℕ) → k < i + 1 → (k ≡ i) ⊎ (k ≡ i → ⊥) → at ys k ≡ cond (marked ms k) (at xs k) blank
      done k h (inl e) = s.rest k (omega arith) ∙ sym (cond-true (marked ms k) (at xs k) blank (ap (marked ms) e ∙ m))
      done k h (inr apart) = s.done k (omega arith)

  pub sweep_all : Sweeping xs ms i n ys → 2048 ≤ i → length xs ≡ 2048 → Swept xs ms ys
  sweep_all s end long k = elim (cases_lt k 2048) [
    | inl h ↦ s.done k (omega arith)
    | inr h ↦ past (marked ms k) (get_or_past ys k blank (omega (arith, s.long))) (get_or_past xs k blank (omega arith))
  ]
    where
      past : (b : Bool) → at ys k ≡ blank → at xs k ≡ blank → at ys k ≡ cond b (at xs k) blank
      past true p q = p ∙ sym q
      past false p q = p

  pub sweep_count : Sweeping xs ms i n ys → 2048 ≤ i → n ≡ length (in_use ys)
  sweep_count s end = s.count ∙ ap tally (take_all i ys (omega (arith, s.long))) ∙ sym (length_in_use 0 ys)

-- the same, where the values go by other names
pub sweep_is : (xs : List Vertex) (ms : List Bool) (i n : ℕ) (ys : List Vertex) (n' : ℕ) (ys' : List Vertex) → n' ≡ n → ys' ≡ ys → Sweeping xs ms i n ys → Sweeping xs ms i n' ys'
sweep_is xs ms i n ys n' ys' e f s = rw (e, f) s

-- the empty marks
pub unmarked : (k n : ℕ) → marked (replicate k false) n ≡ true → ⊥
unmarked k n h = both_ways (marked (replicate k false) n) none h
  where
    none : marked (replicate k false) n ≡ false
    none = elim (cases_lt n k) [ inl h ↦ get_or-replicate k n false false h | inr h ↦ get_or_past (replicate k false) n false (rw (length-replicate k false) h) ]

marks_prop : (ms : List Bool) (e : Edge) → IsProp (Marks ms e)
marks_prop ms End = Unit-prop
marks_prop ms (To n) = Bool-set _ _

module _ (xs : List Vertex) (ms : List Bool) (ys : List Vertex) (whole : Whole xs ms) (swept : Swept xs ms ys) where
  stays : (n : ℕ) → marked ms n ≡ true → at ys n ≡ at xs n
  stays n m = swept n ∙ cond-true (marked ms n) (at xs n) blank m

  goes : (n : ℕ) → marked ms n ≡ false → at ys n ≡ blank
  goes n m = swept n ∙ cond-false (marked ms n) (at xs n) blank m

  used_marked : (n : ℕ) → used (at ys n) ≡ true → marked ms n ≡ true
  used_marked n u = elim (cases_Bool (marked ms n)) [ inl m ↦ m | inr m ↦ absurd (both_ways (used (at ys n)) (ap used (goes n m)) u) ]

  used_before : (n : ℕ) → used (at ys n) ≡ true → used (at xs n) ≡ true
  used_before n u = ap used (sym (stays n (used_marked n u))) ∙ u

  pub unfolds_swept : {e : Edge} {t : Shape} → Unfolds xs e t → Marks ms e → Unfolds ys e t
  unfolds_swept unfolds_end m = unfolds_end
  unfolds_swept (unfolds_to {n} u l r) m =
      let e = stays n m in
      unfolds_to (rw e u) (rw e (unfolds_swept l (whole n m).0)) (rw e (unfolds_swept r (whole n m).1))

  once_swept : EdgesOnce xs → EdgesOnce ys
  once_swept once m n u v a b =
      let s = stays m (used_marked m u) in
      let t = stays n (used_marked n v) in
      once m n (used_before m u) (used_before n v) (cc) (cc)

  unfolds_left : Sound xs → (n : ℕ) → used (at ys n) ≡ true → ∥ ((t : Shape) × Unfolds ys (To n) t) ∥₁
  unfolds_left sound n u = ∥∥₁_map (sound.unfolds n (used_before n u)) λ (t, h). (t, unfolds_swept h (used_marked n u))

  pub sound_swept : Sound xs → Sound ys
  sound_swept sound = record {
    leads = λ n u. sides_lead ys n (unfolds_left sound n u);
    unfolds = unfolds_left sound;
    once = shapes_once (once_swept (edges_once sound));
  }

  -- each shape below a marked edge is unfolded from a marked slot
  reached : {e : Edge} {t s : Shape} → Unfolds xs e t → Marks ms e → Memᴰ s (shapes t) → (n : ℕ) × (marked ms n ≡ true) × Unfolds xs (To n) s
  reached unfolds_end h m = absurd (Memᴰ.not-nil m)
  reached (unfolds_to {n} u l r) h (Memᴰ.head e) = (n, h, rw e (unfolds_to u l r))
  reached (unfolds_to {n} {a} u l r) h (Memᴰ.tail m) = elim (Memᴰ.append_cases (shapes a) m) [ inl d ↦ reached l (whole n h).0 d | inr d ↦ reached r (whole n h).1 d ]

  module _ (sound : ∥ Sound xs ∥₁) (start : Edge) (t : Shape) (h : Unfolds xs start t) (here : Marks ms start) where
    marks_part : (e : Edge) (s : Shape) → Mem s (shapes t) → Unfolds xs e s → Marks ms e
    marks_part e s m k = ∥∥₁_elim sound (marks_prop ms e) λ so. ∥∥₁_elim m (marks_prop ms e) λ d. go so (reached h here d)
      where
        go : Sound xs → (n : ℕ) × (marked ms n ≡ true) × Unfolds xs (To n) s → Marks ms e
        go so (n, mark, l) = subst (Marks ms) (unfolds_once (edges_once so) l k) mark

    marks_whole : (e : Edge) → Unfolds xs e t → Marks ms e
    marks_whole e k = ∥∥₁_elim sound (marks_prop ms e) λ so. subst (Marks ms) (unfolds_once (edges_once so) h k) here

    pub kept_only : ((n : ℕ) → marked ms n ≡ true → (s : Shape) × Memᴰ s (shapes t) × Unfolds xs (To n) s) → KeptOnly xs ys t
    kept_only only = record {
      slots = λ n. (
        λ u. (used_before n u, ∣ member n (only n (used_marked n u)) ∣₁),
        λ (u, p). ∥∥₁_elim p (Bool-set _ _) λ (s, m, k). ap used (stays n (marks_part (To n) s m k)) ∙ u,
      );
      same = λ n u. stays n (used_marked n u);
      whole = λ e k. unfolds_swept k (marks_whole e k);
      parts = λ e s m k. unfolds_swept k (marks_part e s m k);
    }
      where
        member : (n : ℕ) → (s : Shape) × Memᴰ s (shapes t) × Unfolds xs (To n) s → (s : Shape) × Mem s (shapes t) × Unfolds xs (To n) s
        member n (s, d, k) = (s, ∣ d ∣₁, k)

-- what marking from an edge that leads leaves, started from no marks
module _ (xs : List Vertex) (ms : List Bool) (e : Edge) (long : length xs ≡ 2048)
    (does : (t : Shape) → Unfolds xs e t → depth t ≤ 2048 → Whole xs (replicate 2048 false) → Reached xs (replicate 2048 false) ms e t) where
  from_none : (t : Shape) → Unfolds xs e t → Reached xs (replicate 2048 false) ms e t
  from_none t h = does t h (omega (arith, depth_bound xs e t h)) (λ n m. absurd (unmarked 2048 n m))

  marks_whole_of : Sound xs → Leads xs e → Whole xs ms
  marks_whole_of sound leads n m = ∥∥₁_elim (unfolds_of_leads xs e sound leads) (×_prop (marks_prop ms (zero_of (at xs n))) (marks_prop ms (one_of (at xs n)))) λ (t, h). (from_none t h).whole n m

  pub sound_kept : (ys : List Vertex) → ∥ Sound xs ∥₁ → Leads xs e → Swept xs ms ys → ∥ Sound ys ∥₁
  sound_kept ys sound leads swept = ∥∥₁_map sound λ s. sound_swept xs ms ys (marks_whole_of s leads) swept s

  pub kept_from : (ys : List Vertex) → ∥ Sound xs ∥₁ → Swept xs ms ys → (t : Shape) → Unfolds xs e t → KeptOnly xs ys t
  kept_from ys sound swept t h =
      let r = from_none t h in
      kept_only xs ms ys r.whole swept sound e t h r.here (λ n m. only n (r.only n m))
    where
      only : (n : ℕ) → (marked (replicate 2048 false) n ≡ true) ⊎ ((s : Shape) × Memᴰ s (shapes t) × Unfolds xs (To n) s) → (s : Shape) × Memᴰ s (shapes t) × Unfolds xs (To n) s
      only n (inl m) = absurd (unmarked 2048 n m)
      only n (inr p) = p
