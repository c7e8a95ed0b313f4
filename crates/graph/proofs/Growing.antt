-- Growing a path: one step up, and what the whole path leaves. Assumes nothing.
use Rattle.std.proofs.Common.{◌≡◌, ℕ, ◌+◌, ◌<◌, ◌≤◌, Bool, true, false, cond, not, List, ◌∷◌, ◌++◌, length, get_or, drop, Result, sym, refl, ap, ◌∙◌, subst, inl, inr, arith, MatchResult}
use mathlib.Core.Logic.{∥∥₁_elim, ∥∥₁_map, ∥∥₁_prop}
use mathlib.Core.List.Memᴰ
use mathlib.Core.List.{Mem, Memᴰ}
use mathlib.Core.Bool.{Bool-set}
use Rattle.std.proofs.lemmas.List.{drop_all, drop_more}
use Rattle.std.proofs.lemmas.Result.{MatchResult-weaker}
use Rattle.std.proofs.lemmas.Bool.{cases_Bool, cases_eq}
use Rattle.bits.specs.Lists.{any, different}
use Rattle.bits.specs.Rows.{Bits}
use Rattle.bits.proofs.Sets.{without, different_without, any_of_member}
use Rattle.bits.proofs.Tests.{only_is}
use Rattle.refusal.specs.declared.Refusal.{Refusal}
use Rattle.tree.specs.Tree.{Shape, leaf, fork, grown, shapes, alike}
use Rattle.tree.proofs.Shapes.{alike_equality}
use Rattle.graph.specs.Slots.{used, at, next, led, Unfolds, unfolds_end, unfolds_to, Sound, in_use}
use Rattle.graph.specs.Calls.{Kept, Unheld, Made, Refused}
use Rattle.graph.specs.View.{Holds}
use Rattle.graph.specs.Grow.{New, Pathed, Stopped, Paths, Grown, Overfull, Grows}
use Rattle.graph.specs.declared.edge.Edge.{Edge}
use Rattle.graph.specs.declared.edge.Edge.TheVariants.{To}
use Rattle.graph.specs.declared.vertex.Vertex.{Vertex}
use Rattle.graph.proofs.Edges.{to_is}
use Rattle.graph.proofs.Unfold.{led_unfolds}
use Rattle.graph.proofs.Marking.{member_left, member_right}
use Rattle.graph.proofs.Back.{slot_of}
use Rattle.graph.proofs.Count.{length_in_use, tally_at_most}
use Rattle.graph.proofs.View.{parts, at_most, number}

-- the sides of a tree, where a leaf has leaves
abbrev pub side : Bool → Shape → Shape
side b leaf = leaf
side false (fork l r) = l
side true (fork l r) = r

pub grown_zero : (p : Bits) (t : Shape) → grown (false ∷ p) t ≡ fork (grown p (side false t)) (side true t)
grown_zero p leaf = refl
grown_zero p (fork l r) = refl

pub grown_one : (p : Bits) (t : Shape) → grown (true ∷ p) t ≡ fork (side false t) (grown p (side true t))
grown_one p leaf = refl
grown_one p (fork l r) = refl

pub unfolds_side : {xs : List Vertex} {e : Edge} {t : Shape} (b : Bool) → Unfolds xs e t → Unfolds xs (next xs e b) (side b t)
unfolds_side false unfolds_end = unfolds_end
unfolds_side true unfolds_end = unfolds_end
unfolds_side false (unfolds_to u l r) = l
unfolds_side true (unfolds_to u l r) = r

-- what unfolds is taken for itself
pub taken : {xs : List Vertex} {e : Edge} {t : Shape} → Unfolds xs e t → Unfolds xs (led xs e) t
taken {xs} {e} {t} h = subst (λ f. Unfolds xs f t) (sym (led_unfolds h)) h

pub kept_then : (xs ys zs : List Vertex) → Kept xs ys → Kept ys zs → Kept xs zs
kept_then xs ys zs k l = record {
  slots = λ n u. let e = k.slots n u in l.slots n (ap used e ∙ u) ∙ e;
  shapes = λ e t h. l.shapes e t (k.shapes e t h);
}

-- the shapes of a side are shapes of the fork
pub left_within : (a b : Shape) (s : Shape) → Mem s (shapes a) → Mem s (shapes (fork a b))
left_within a b s m = ∥∥₁_map m λ d. Memᴰ.tail (member_left (shapes b) d)

pub right_within : (a b : Shape) (s : Shape) → Mem s (shapes b) → Mem s (shapes (fork a b))
right_within a b s m = ∥∥₁_map m λ d. Memᴰ.tail (member_right (shapes a) d)

pub new_none : (xs : List Vertex) (ss : List Shape) → New xs xs ss
new_none xs ss n u = inl u

new_more : (xs ys : List Vertex) (ss ts : List Shape) → ((s : Shape) → Mem s ss → Mem s ts) → New xs ys ss → New xs ys ts
new_more xs ys ss ts sub new n u = elim (new n u) [ inl old ↦ inl old | inr some ↦ inr (∥∥₁_map some λ (s, m, h). (s, sub s m, h)) ]

-- a step up: below, the side c of the fork a b was grown from xs to ys
module _ (xs ys : List Vertex) (a b c : Shape) (sub : (s : Shape) → Mem s (shapes c) → Mem s (shapes (fork a b))) where
  pub stopped_up : (why : Refusal) → Stopped xs ys c why → Stopped xs ys (fork a b) why
  stopped_up why stop = record {
    why_full = stop.why_full;
    new = new_more xs ys (shapes c) (shapes (fork a b)) sub stop.new;
    full = stop.full;
    missing = (stop.missing.0, sub stop.missing.0 stop.missing.1, stop.missing.2);
  }

  pub refused_up : (zs : List Vertex) (why : Refusal) → New xs ys (shapes c) → Refused ys zs (fork a b) why → Stopped xs zs (fork a b) why
  refused_up zs why new full = rw full.same (record {
    why_full = full.why_full;
    new = new_more xs ys (shapes c) (shapes (fork a b)) sub new;
    full = full.full;
    missing = (fork a b, ∣ Memᴰ.head refl ∣₁, full.new);
  })

  pub made_up : (zs : List Vertex) (e : Edge) → New xs ys (shapes c) → Kept ys zs → Made ys zs (fork a b) e → Pathed xs zs (fork a b) e
  made_up zs e new kept made = record { unfolds = made.unfolds; new = go (slot_of made.unfolds) }
    where
      go : (k : ℕ) × (e ≡ To k) × Unfolds zs (To k) (fork a b) → New xs zs (shapes (fork a b))
      go (k, is, h) n u = elim (cases_eq n k) [
        | inl same ↦ inr ∣ (fork a b, ∣ Memᴰ.head refl ∣₁, rw same h) ∣₁
        | inr apart ↦ (
            let other : at zs n ≡ at ys n = made.others n (λ f. apart (sym (to_is (sym is ∙ f)))) in
            elim (new n (ap used (sym other) ∙ u)) [ inl old ↦ inl old | inr some ↦ inr (∥∥₁_map some λ (s, m, l). (s, sub s m, kept.shapes (To n) s l)) ])
      ]

-- the edge to a side leads to that side's tree
pub to_side : (xs : List Vertex) (node e : Edge) (t : Shape) (b c : Bool) → e ≡ next xs (led xs node) c → c ≡ b → Unfolds xs (led xs node) t → Unfolds xs (led xs e) (side b t)
to_side xs node e t b c is same h = taken (rw (is, same) (unfolds_side b h))

-- from a node of the path, whose row goes on with a bit and then p: below it e was grown from xs to ys, and then the fork gave r and zs
module _ (xs ys : List Vertex) (node : Edge) (t : Shape) (h : Unfolds xs (led xs node) t) (kept : Kept xs ys) where
  pub up_stopped : (b : Bool) (row p : Bits) (why : Refusal) → row ≡ b ∷ p → Stopped xs ys (grown p (side b t)) why → Stopped xs ys (grown row t) why
  up_stopped false row p why is stop = rw (is, grown_zero p t) (stopped_up xs ys (grown p (side false t)) (side true t) (grown p (side false t)) (left_within _ _) why stop)
  up_stopped true row p why is stop = rw (is, grown_one p t) (stopped_up xs ys (side false t) (grown p (side true t)) (grown p (side true t)) (right_within _ _) why stop)

  module _ (zs : List Vertex) (more : Kept ys zs) (row p : Bits) (e beside : Edge) (r : Result Edge Refusal) where
    abbrev Forks : Edge → Edge → Type 0
    Forks z o = (a b : Shape) → Unfolds ys (led ys z) a → Unfolds ys (led ys o) b → MatchResult r (Made ys zs (fork a b)) (Refused ys zs (fork a b))

    pub up_zero : row ≡ false ∷ p → Pathed xs ys (grown p (side false t)) e → beside ≡ next xs (led xs node) true → Forks e beside → MatchResult r (Pathed xs zs (grown row t)) (Stopped xs zs (grown row t))
    up_zero is path to forks = rw (is, grown_zero p t) (MatchResult-weaker r
        (forks (grown p (side false t)) (side true t) (taken path.unfolds) (taken (kept.shapes beside (side true t) (rw to (unfolds_side true h)))))
        (λ f made. made_up xs ys _ _ (grown p (side false t)) (left_within _ _) zs f path.new more made)
        (λ why full. refused_up xs ys _ _ (grown p (side false t)) (left_within _ _) zs why path.new full))

    pub up_one : row ≡ true ∷ p → Pathed xs ys (grown p (side true t)) e → beside ≡ next xs (led xs node) false → Forks beside e → MatchResult r (Pathed xs zs (grown row t)) (Stopped xs zs (grown row t))
    up_one is path to forks = rw (is, grown_one p t) (MatchResult-weaker r
        (forks (side false t) (grown p (side true t)) (taken (kept.shapes beside (side false t) (rw to (unfolds_side false h)))) (taken path.unfolds))
        (λ f made. made_up xs ys _ _ (grown p (side true t)) (right_within _ _) zs f path.new more made)
        (λ why full. refused_up xs ys _ _ (grown p (side true t)) (right_within _ _) zs why path.new full))

    pub up : (b : Bool) → row ≡ b ∷ p → Pathed xs ys (grown p (side b t)) e → beside ≡ next xs (led xs node) (not b) → Forks (cond b beside e) (cond b e beside)
        → MatchResult r (Pathed xs zs (grown row t)) (Stopped xs zs (grown row t))
    up false = up_zero
    up true = up_one

-- the row, from its bit at d on
pub goes_on : (row : Bits) (d : ℕ) (b : Bool) → d < length row → get_or row d false ≡ b → drop d row ≡ b ∷ drop (d + 1) row
goes_on row d b less is = rw (← is) (drop_more row d false less)

-- at the prefix's node
pub pathed_here : (xs : List Vertex) (node : Edge) (row : Bits) (d : ℕ) (e : Edge) (t : Shape) → length row ≤ d → e ≡ led xs node → Unfolds xs (led xs node) t → Pathed xs xs (grown (drop d row) t) e
pathed_here xs node row d e t past is h = rw (drop_all d row past) (record { unfolds = rw is h; new = new_none xs (shapes t) })

-- the whole path
module _ (xs ys : List Vertex) (ss : List Shape) (t : Shape) (kept : Kept xs ys) (sound : ∥ Sound ys ∥₁) (long : length ys ≡ 2048) (held : Holds xs ss) where
  only_grown : New xs ys (shapes t) → (n : ℕ) → used (at ys n) ≡ true → ∥ ((s : Shape) × Mem s (ss ++ shapes t) × Unfolds ys (To n) s) ∥₁
  only_grown new n u = elim (new n u) [
    | inl old ↦ ∥∥₁_map (held.only n old) λ (s, m, h). (s, ∥∥₁_map m (λ d. member_left (shapes t) d), kept.shapes (To n) s h)
    | inr some ↦ ∥∥₁_map some λ (s, m, h). (s, ∥∥₁_map m (λ d. member_right ss d), h)
  ]

  pub grown_whole : (e : Edge) → Pathed xs ys t e → Grown ys ss t e
  grown_whole e path = record { unfolds = path.unfolds; holds = holds; number = count; room = omega (arith, count, length_in_use 0 ys, tally_at_most ys) }
    where
      every : (s : Shape) → Memᴰ s (ss ++ shapes t) → ∥ ((n : ℕ) × Unfolds ys (To n) s) ∥₁
      every s d = elim (Memᴰ.append_cases ss d) [
        | inl old ↦ ∥∥₁_map (held.every s ∣ old ∣₁) λ (n, h). (n, kept.shapes (To n) s h)
        | inr part ↦ parts ys e t s path.unfolds ∣ part ∣₁
      ]

      holds : Holds ys (ss ++ shapes t)
      holds = record { only = only_grown path.new; every = λ s m. ∥∥₁_elim m ∥∥₁_prop λ d. every s d }

      count : length (in_use ys) ≡ different alike (ss ++ shapes t)
      count = number ys (ss ++ shapes t) sound holds

  -- a shape that is wanted and not held is one more than those of the slots in use
  pub too_many : (why : Refusal) → Stopped xs ys t why → Overfull ys ss t why
  too_many why stop = record { why_full = stop.why_full; many = many stop.missing; only = only_grown stop.new }
    where
      many : (s : Shape) × Mem s (shapes t) × Unheld ys s → 2048 < different alike (ss ++ shapes t)
      many (s, m, unheld) = omega (arith, stop.full, most, one, different_without alike_equality s (ss ++ shapes t))
        where
          there : any (alike s) (ss ++ shapes t) ≡ true
          there = ∥∥₁_elim m (Bool-set _ _) λ d. any_of_member alike_equality (member_right ss d)

          one : ◌≡◌ {A = ℕ} (cond (any (alike s) (ss ++ shapes t)) 1 0) 1
          one = rw there refl

          other : (n : ℕ) (r : Shape) → Unfolds ys (To n) r → not (alike r s) ≡ true
          other n r h = elim (cases_Bool (alike r s)) [ inl same ↦ absurd (unheld (To n) (subst (Unfolds ys (To n)) (alike_equality.sound same) h)) | inr apart ↦ rw apart refl ]

          most : length (in_use ys) ≤ different alike (without alike s (ss ++ shapes t))
          most = at_most ys (without alike s (ss ++ shapes t)) sound
              (λ n u. ∥∥₁_map (only_grown stop.new n u) λ (r, k, h). (r, (only_is (λ y. not (alike y s)) (ss ++ shapes t) r).1 (k, other n r h), h))

-- what the path's answer says of the whole
pub grows : (xs ys : List Vertex) (start : Edge) (row : Bits) (r : Result Edge Refusal) → Kept xs ys → ∥ Sound ys ∥₁ → length ys ≡ 2048 → Paths xs ys start row r → Grows xs ys start row r
grows xs ys start row r kept sound long paths t ss h held = MatchResult-weaker r (paths t h)
    (λ e path. grown_whole xs ys ss (grown row t) kept sound long held e path)
    (λ why stop. too_many xs ys ss (grown row t) kept sound long held why stop)
