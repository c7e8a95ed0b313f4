-- Walks through a graph by the bits of a row, some at a time. Assumes nothing.
use Rattle.std.proofs.Common.{◌≡◌, ℕ, suc, ◌+◌, ◌-◌, ◌<◌, ◌≤◌, Bool, false, [], ◌∷◌, ◌++◌, length, take, drop, replicate, Some, None, Option, sym, refl, ap, ◌∙◌, inl, inr, arith}
use Rattle.std.proofs.lemmas.List.{append-nil, take_all, length-take-le, take-append-drop}
use Rattle.std.proofs.lemmas.Bool.{cases_lt}
use Rattle.bits.specs.Rows.{Bits, padded}
use Rattle.tree.specs.Graph.{Edge, end, to, more, walk}
use Rattle.image.specs.Picture.{down}

pub none_some : {n : ℕ} → ◌≡◌ {A = Option ℕ} None (Some n) → ⊥
none_some h = let z : ◌≡◌ {A = ℕ} 0 1 = cc in omega arith

never : {A : Type 0} {n : ℕ} → ◌≡◌ {A = Option ℕ} None (Some n) → A
never h = absurd (none_some h)

pub more_some : (o : Option ℕ) (d : ℕ) → more o ≡ Some d → (k : ℕ) × (o ≡ Some k) × (d ≡ suc k)
more_some None d h = never h
more_some (Some k) d h = (k, refl, cc)

pub more_none : (o : Option ℕ) → more o ≡ None → o ≡ None
more_none None h = refl
more_none (Some k) h = never (sym h)

module _ (edge : ℕ → Bool → Edge) where
  pub walk_within : (e : Edge) (p : Bits) (d : ℕ) → walk edge e p ≡ Some d → d ≤ length p
  walk_within end p d h = let z : 0 ≡ d = cc in omega arith
  walk_within (to v) [] d h = never h
  walk_within (to v) (b ∷ p) d h =
      let (k, o, m) = more_some (walk edge (edge v b) p) d h in
      let ih = walk_within (edge v b) p k o in
      omega arith

  pub walk_some : (v : ℕ) (p : Bits) (d : ℕ) → walk edge (to v) p ≡ Some d → 1 ≤ d
  walk_some v [] d h = never h
  walk_some v (b ∷ p) d h = let (k, o, m) = more_some (walk edge (edge v b) p) d h in omega arith

  -- a walk that has ended looks at no more bits
  pub walk_append : (e : Edge) (p q : Bits) (d : ℕ) → walk edge e p ≡ Some d → walk edge e (p ++ q) ≡ Some d
  walk_append end p q d h = h
  walk_append (to v) [] q d h = never h
  walk_append (to v) (b ∷ p) q d h =
      let (k, o, m) = more_some (walk edge (edge v b) p) d h in
      ap more (walk_append (edge v b) p q k o) ∙ ap Some (sym m)

  -- nor at any past those that it took
  pub walk_taken : (e : Edge) (p : Bits) (d : ℕ) → walk edge e p ≡ Some d → walk edge e (take d p) ≡ Some d
  walk_taken end p d h = h
  walk_taken (to v) [] d h = never h
  walk_taken (to v) (b ∷ p) d h =
      let (k, o, m) = more_some (walk edge (edge v b) p) d h in
      rw m (ap more (walk_taken (edge v b) p k o))

  pub walk_front : (e : Edge) (p q : Bits) (d : ℕ) → walk edge e p ≡ Some d → take d p ≡ take d q → walk edge e q ≡ Some d
  walk_front e p q d h t =
      let taken : walk edge e (take d q) ≡ Some d = rw (← t) (walk_taken e p d h) in
      rw take-append-drop at (walk_append e (take d q) (drop d q) d taken)

  -- the bits of a walk that has ended lead to the end
  pub down_end : (e : Edge) (p : Bits) (d : ℕ) → walk edge e p ≡ Some d → down edge e p ≡ end
  down_end end p d h = refl
  down_end (to v) [] d h = never h
  down_end (to v) (b ∷ p) d h = let (k, o, m) = more_some (walk edge (edge v b) p) d h in down_end (edge v b) p k o

  -- those of any other lead to a vertex, from where it goes on
  pub record GoesOn (e : Edge) (p q : Bits) (d : ℕ) : Type 0 where
    pub vertex : ℕ
    pub left : ℕ
    pub down_to : down edge e p ≡ to vertex
    pub walks : walk edge (to vertex) q ≡ Some left
    pub all : d ≡ length p + left

  pub walk_goes_on : (e : Edge) (p q : Bits) (d : ℕ) → walk edge e p ≡ None → walk edge e (p ++ q) ≡ Some d → GoesOn e p q d
  walk_goes_on end p q d n h = never (sym n)
  walk_goes_on (to v) [] q d n h = record { vertex = v; left = d; down_to = refl; walks = h; all = omega arith }
  walk_goes_on (to v) (b ∷ p) q d n h =
      let (k, o, m) = more_some (walk edge (edge v b) (p ++ q)) d h in
      let ih = walk_goes_on (edge v b) p q k (more_none _ n) o in
      record { vertex = ih.vertex; left = ih.left; down_to = ih.down_to; walks = ih.walks; all = omega (arith, ih.all) }

  -- bit by bit
  pub down_append : (e : Edge) (p q : Bits) → down edge e (p ++ q) ≡ down edge (down edge e p) q
  down_append end p q = refl
  down_append (to v) [] q = refl
  down_append (to v) (b ∷ p) q = down_append (edge v b) p q

  -- a walk that has not ended with the first bits ends where the last of them leads
  pub walk_behind : (e : Edge) (p q : Bits) (d : ℕ) → walk edge e p ≡ None → walk edge (down edge e p) q ≡ Some d → walk edge e (p ++ q) ≡ Some (length p + d)
  walk_behind end p q d n h = never (sym n)
  walk_behind (to v) [] q d n h = h ∙ ap Some (omega arith)
  walk_behind (to v) (b ∷ p) q d n h = ap more (walk_behind (edge v b) p q d (more_none _ n) h) ∙ ap Some (omega arith)

  pub walk_not_yet : (e : Edge) (p q : Bits) → walk edge e p ≡ None → walk edge (down edge e p) q ≡ None → walk edge e (p ++ q) ≡ None
  walk_not_yet end p q n h = n
  walk_not_yet (to v) [] q n h = h
  walk_not_yet (to v) (b ∷ p) q n h = ap more (walk_not_yet (edge v b) p q (more_none _ n) h)

-- a row's next s bits are its own, as far as it has them
pub next_whole : (s : ℕ) (a : Bits) → s ≤ length a → padded s (take s a) ≡ take s a
next_whole s a h =
    let n : length (take s a) ≡ s = length-take-le s a h in
    let none : s - s ≡ 0 = omega arith in
    rw (n, none, append-nil) refl

pub next_short : (s : ℕ) (a : Bits) → length a ≤ s → padded s (take s a) ≡ a ++ replicate (s - length a) false
next_short s a h = rw (take_all s a h) refl

module _ (edge : ℕ → Bool → Edge) (e : Edge) (s : ℕ) (a : Bits) (d : ℕ) (ends : walk edge e a ≡ Some d) where
  -- where they lead to an end, the row leads there
  pub next_ends : (j : ℕ) → walk edge e (padded s (take s a)) ≡ Some j → j ≡ d
  next_ends j h = elim (cases_lt (length a) s) [ inl l ↦ short l | inr l ↦ long l ]
    where
      short : length a < s → j ≡ d
      short l = cc (next_short s a (omega arith), walk_append edge e a (replicate (s - length a) false) d ends)

      long : s ≤ length a → j ≡ d
      long l =
          let all : walk edge e a ≡ Some j = rw take-append-drop at (walk_append edge e (take s a) (drop s a) j (rw (next_whole s a l) at h)) in
          cc

  -- where they don't, it has them all, and goes on behind them
  pub next_goes_on : walk edge e (padded s (take s a)) ≡ None → GoesOn edge e (padded s (take s a)) (drop s a) d
  next_goes_on h = elim (cases_lt (length a) s) [ inl l ↦ short l | inr l ↦ long l ]
    where
      short : length a < s → GoesOn edge e (padded s (take s a)) (drop s a) d
      short l = never (sym h ∙ ap (walk edge e) (next_short s a (omega arith)) ∙ walk_append edge e a (replicate (s - length a) false) d ends)

      long : s ≤ length a → GoesOn edge e (padded s (take s a)) (drop s a) d
      long l = walk_goes_on edge e (padded s (take s a)) (drop s a) d h (rw (next_whole s a l, take-append-drop) ends)
