-- The leaves that a node decides and the rows that a walk goes through, side by side, and visits of these. Assumes nothing.
use Rattle.std.proofs.Common.{◌≡◌, ℕ, zero, suc, ◌+◌, ◌-◌, ◌<◌, ◌≤◌, Bool, true, false, ◌&&◌, ◌⊎◌, List, [], ◌∷◌, ◌++◌, length, slice_index_or, is_some, Result, Ok, Err, sym, refl, ap, ◌∙◌, inl, inr, arith, length-append}
use Rattle.std.proofs.lemmas.Bool.{cases_lt}
use Rattle.std.proofs.lemmas.Bool.Decides.{nat_tests}
use Rattle.bits.specs.Lists.{only}
use Rattle.bits.specs.Rows.{Bits}
use Rattle.tree.specs.Tree.{Shape, leaf, fork}
use Rattle.tree.specs.Changes.{painted, unless}
use Rattle.store.specs.Content.{Told, Map}
use Rattle.graph.specs.Slots.{next, led, Unfolds, unfolds_end, unfolds_to}
use Rattle.graph.specs.declared.edge.Edge.{Edge}
use Rattle.graph.specs.declared.edge.Edge.TheVariants.{End, To}
use Rattle.graph.specs.declared.vertex.Vertex.{Vertex}
use Rattle.graph.proofs.Growing as tree
use Rattle.paint.specs.Reach.{has, nameable, reached, side, cut, walked, Visits, visits_none, visits_more, visits_fail, Reaches}
use Rattle.paint.proofs.Lengths.{nameable_short, nameable_long}

only_join : {A : Type 0} (t : A → Bool) (xs ys : List A) → only t (xs ++ ys) ≡ only t xs ++ only t ys
only_join t [] ys = refl
only_join t (x ∷ xs) ys = go (t x) (only_join t xs ys)
  where
    go : (b : Bool) → only t (xs ++ ys) ≡ only t xs ++ only t ys → elim b [ true ↦ x ∷ only t (xs ++ ys) | false ↦ only t (xs ++ ys) ] ≡ elim b [ true ↦ x ∷ only t xs | false ↦ only t xs ] ++ only t ys
    go true ih = ap (λ zs. x ∷ zs) ih
    go false ih = ih

only_unless : (t : Bits → Bool) (b : Bool) (xs : List Bits) → only t (unless b xs) ≡ unless b (only t xs)
only_unless t true xs = refl
only_unless t false xs = refl

unless_none : (x : Bool) → unless x [] ≡ []
unless_none true = refl
unless_none false = refl

-- visits go on, or end where one fails
module _ {S E : Type 0} (R : S → Bits → Result (Unit {0}) E → S → Type 0) where
  pub visits_then : (xs ys : List Bits) (s m s' : S) (r : Result (Unit {0}) E) → Visits R xs s (Ok tt) m → Visits R ys m r s' → Visits R (xs ++ ys) s r s'
  visits_then xs ys s m s' r visits_none k = k
  visits_then xs ys s m s' r (visits_more step h) k = visits_more step (visits_then _ ys _ m s' r h k)

  pub visits_stop : (xs ys : List Bits) (s s' : S) (e : E) → Visits R xs s (Err e) s' → Visits R (xs ++ ys) s (Err e) s'
  visits_stop xs ys s s' e (visits_more step h) = visits_more step (visits_stop _ ys _ s' e h)
  visits_stop xs ys s s' e (visits_fail step) = visits_fail step

  pub visits_one : (x : Bits) (s : S) (r : Result (Unit {0}) E) (s' : S) → R s x r s' → Visits R (x ∷ []) s r s'
  visits_one x s (Ok tt) s' step = visits_more step visits_none
  visits_one x s (Err e) s' step = visits_fail step

-- the same seen through a view of the states, where each step is seen as a step
pub visits_seen : {S C E : Type 0} (view : S → C) (P : S → Bits → Result (Unit {0}) E → S → Type 0) (R : C → Bits → Result (Unit {0}) E → C → Type 0)
    → ((s : S) (x : Bits) (r : Result (Unit {0}) E) (s' : S) → P s x r s' → R (view s) x r (view s'))
    → (xs : List Bits) (s s' : S) (r : Result (Unit {0}) E) → Visits P xs s r s' → Visits R xs (view s) r (view s')
visits_seen view P R f xs s s' r visits_none = visits_none
visits_seen view P R f xs s s' r (visits_more step h) = visits_more (f _ _ _ _ step) (visits_seen view P R f _ _ s' r h)
visits_seen view P R f xs s s' r (visits_fail step) = visits_fail (f _ _ _ _ step)

-- what a look-up says
pub has_of : (m : Map) (q q' : Bits) (o : Told) (t : Bool) → o ≡ m q → q ≡ q' → is_some o ≡ t → has m q' ≡ t
has_of m q q' o t found same_row some = rw (← same_row, ← found) some

module _ (own : Bits → Bool) where
  -- a leaf's row is a prefix's
  pub reached_leaf : (q : Bits) → length q ≤ 128 → reached own leaf q ≡ q ∷ []
  unfolding reached painted
  reached_leaf q short = grind (arith, nat_tests)

  pub reached_fork : (a b : Shape) (q : Bits) → reached own (fork a b) q ≡ side own a q false ++ side own b q true
  unfolding reached painted
  reached_fork a b q =
      let left = q ++ (false ∷ []) in
      let right = q ++ (true ∷ []) in
      rw (
        only_join nameable (unless (own left) (painted own a left)) (unless (own right) (painted own b right)),
        only_unless nameable (own left) (painted own a left),
        only_unless nameable (own right) (painted own b right),
      ) refl

  -- no prefix has more than 128 bits
  pub reached_deep : (t : Shape) (q : Bits) → 128 < length q → reached own t q ≡ []
  unfolding reached painted
  reached_deep leaf q long = grind (arith, nat_tests)
  reached_deep (fork a b) q long =
      let left = q ++ (false ∷ []) in
      let right = q ++ (true ∷ []) in
      rw (reached_fork a b q, reached_deep a left (omega (arith, length-append q (false ∷ []))), reached_deep b right (omega (arith, length-append q (true ∷ []))))
      (both (own left) (own right))
    where
      both : (x y : Bool) → unless x [] ++ unless y [] ≡ []
      both true true = refl
      both true false = refl
      both false true = refl
      both false false = refl

  -- a walk passes this row by: a prefix has it, and it has a route
  abbrev pub passed : Bits → Bool
  passed x = nameable x && own x

  -- of the tree t below q: the part on one side, and the parts on the first i sides
  abbrev pub half : Shape → Bits → Bool → List Bits
  half t q b = unless (passed (q ++ (b ∷ []))) (walked own (tree.side b t) (q ++ (b ∷ [])))

  abbrev pub begun : Shape → Bits → ℕ → List Bits
  begun t q zero = []
  begun t q (suc zero) = half t q false
  begun t q (suc (suc n)) = half t q false ++ half t q true

  pub begun_more : (t : Shape) (q : Bits) (i : ℕ) (b : Bool) → i < 2 → b ≡ slice_index_or (false ∷ true ∷ []) i false → begun t q (i + 1) ≡ begun t q i ++ half t q b
  begun_more t q zero b less is = rw is refl
  begun_more t q (suc zero) b less is = rw is refl
  begun_more t q (suc (suc n)) b less is = absurd (omega arith)

  cut_leaf : (n : ℕ) (q : Bits) → painted passed (cut n leaf) q ≡ q ∷ []
  unfolding painted
  cut_leaf zero q = refl
  cut_leaf (suc n) q = refl

  cut_fork : (n k : ℕ) (a b : Shape) (q : Bits) → n ≡ suc k
      → painted passed (cut n (fork a b)) q
      ≡ unless (passed (q ++ (false ∷ []))) (painted passed (cut k a) (q ++ (false ∷ []))) ++ unless (passed (q ++ (true ∷ []))) (painted passed (cut k b) (q ++ (true ∷ [])))
  unfolding painted
  cut_fork n k a b q is = rw is refl

  pub walked_leaf : (q : Bits) → walked own leaf q ≡ q ∷ []
  unfolding walked
  walked_leaf q = cut_leaf (129 - length q) q

  -- one level down, one is left
  left_over : (q : Bits) (b : Bool) → length q ≤ 128 → 129 - length q ≡ suc (129 - length (q ++ (b ∷ [])))
  left_over q b short = let more = length-append q (b ∷ []) in omega arith

  pub walked_fork : (a b : Shape) (q : Bits) → length q ≤ 128 → walked own (fork a b) q ≡ half (fork a b) q false ++ half (fork a b) q true
  unfolding walked
  walked_fork a b q short =
      let same_left : 129 - length (q ++ (true ∷ [])) ≡ 129 - length (q ++ (false ∷ [])) = rw (length-append q (true ∷ []), length-append q (false ∷ [])) refl in
      rw (cut_fork (129 - length q) (129 - length (q ++ (false ∷ []))) a b q (left_over q false short), same_left) refl

  -- a walk goes no deeper than one bit over 128
  pub walked_deep : (t : Shape) (q : Bits) → 128 < length q → walked own t q ≡ q ∷ []
  unfolding walked painted
  walked_deep t q long = let none : 129 - length q ≡ 0 = omega arith in rw none refl

  pub half_deep : (t : Shape) (q : Bits) (b : Bool) → length q ≡ 128 → half t q b ≡ (q ++ (b ∷ [])) ∷ []
  half_deep t q b full =
      let long : 128 < length (q ++ (b ∷ [])) = omega (arith, length-append q (b ∷ [])) in
      rw (nameable_long (q ++ (b ∷ [])) long) (walked_deep (tree.side b t) (q ++ (b ∷ [])) long)

  pub half_covered : (t : Shape) (q : Bits) (b : Bool) → nameable (q ++ (b ∷ [])) ≡ true → own (q ++ (b ∷ [])) ≡ true → half t q b ≡ []
  half_covered t q b named covered = rw (named, covered) refl

  pub half_free : (t : Shape) (q : Bits) (b : Bool) → nameable (q ++ (b ∷ [])) ≡ true → own (q ++ (b ∷ [])) ≡ false → half t q b ≡ walked own (tree.side b t) (q ++ (b ∷ []))
  half_free t q b named free = rw (named, free) refl

  only_leaf : (q : Bits) → only nameable (q ∷ []) ≡ reached own leaf q
  unfolding reached painted
  only_leaf q = refl

  -- of the rows that a walk goes through, those that a prefix can have are the leaves that the node decides
  pub only_walked : (t : Shape) (q : Bits) → only nameable (walked own t q) ≡ reached own t q
  only_walked leaf q = rw (walked_leaf q) (only_leaf q)
  only_walked (fork a b) q = go (cases_lt 128 (length q)) (only_walked a (q ++ (false ∷ []))) (only_walked b (q ++ (true ∷ [])))
    where
      one : (t : Shape) (x : Bits) → only nameable (walked own t x) ≡ reached own t x → only nameable (unless (passed x) (walked own t x)) ≡ unless (own x) (reached own t x)
      one t x ih = elim (cases_lt 128 (length x)) [
        | inl long ↦ rw (nameable_long x long) (ih ∙ reached_deep t x long ∙ sym (ap (unless (own x)) (reached_deep t x long) ∙ unless_none (own x)))
        | inr short ↦ rw (nameable_short x short, only_unless nameable (own x) (walked own t x), ih) refl
      ]

      go : (128 < length q) ⊎ (length q ≤ 128) → only nameable (walked own a (q ++ (false ∷ []))) ≡ reached own a (q ++ (false ∷ []))
          → only nameable (walked own b (q ++ (true ∷ []))) ≡ reached own b (q ++ (true ∷ [])) → only nameable (walked own (fork a b) q) ≡ reached own (fork a b) q
      go (inl long) left right = rw (walked_deep (fork a b) q long, nameable_long q long, only) (sym (reached_deep (fork a b) q long))
      go (inr short) left right =
          rw (walked_fork a b q short, only_join nameable (half (fork a b) q false) (half (fork a b) q true), one a (q ++ (false ∷ [])) left, one b (q ++ (true ∷ [])) right)
          (sym (reached_fork a b q))

module _ (m : Map) (slots : List Vertex) (q : Bits) {S E : Type 0} (R : S → Bits → Result (Unit {0}) E → S → Type 0) where
  -- the leaves on the first i sides are visited
  abbrev pub Begun : Edge → ℕ → S → Result (Unit {0}) E → S → Type 0
  Begun e i s r s' = (t : Shape) → Unfolds slots e t → Visits R (begun (has m) t q i) s r s'

  -- at the end there is one leaf
  end_to : (s s' : S) (r : Result (Unit {0}) E) → Visits R (q ∷ []) s r s' → (t : Shape) → Unfolds slots End t → Visits R (walked (has m) t q) s r s'
  end_to s s' r h t unfolds_end = rw (walked_leaf (has m) q) h

  pub reaches_end : (e : Edge) (s s' : S) (r : Result (Unit {0}) E) → e ≡ End → Visits R (q ∷ []) s r s' → Reaches m slots e q R s r s'
  reaches_end e s s' r is h = rw is (end_to s s' r h)

  whole_to : (n : ℕ) (s s' : S) (r : Result (Unit {0}) E) → length q ≤ 128 → Begun (To n) 2 s r s' → (t : Shape) → Unfolds slots (To n) t → Visits R (walked (has m) t q) s r s'
  whole_to n s s' r short h t u = go u
    where
      go : {t : Shape} → Unfolds slots (To n) t → Visits R (walked (has m) t q) s r s'
      go (unfolds_to {a} {b} used x y) = rw (walked_fork (has m) a b q short) (h (fork a b) (unfolds_to used x y))

  -- both sides are all
  pub reaches_both : (e : Edge) (n i : ℕ) (s s' : S) (r : Result (Unit {0}) E) → length q ≤ 128 → e ≡ To n → 2 ≤ i → Begun e i s r s' → Reaches m slots e q R s r s'
  reaches_both e n zero s s' r short is all h = absurd (omega arith)
  reaches_both e n (suc zero) s s' r short is all h = absurd (omega arith)
  reaches_both e n (suc (suc i)) s s' r short is all h = rw is (whole_to n s s' r short (rw is at h))

  module _ (e : Edge) (i : ℕ) (b : Bool) (less : i < 2) (side_is : b ≡ slice_index_or (false ∷ true ∷ []) i false) (s s' : S) (h : Begun e i s (Ok tt) s') where
    more : (r : Result (Unit {0}) E) (last : S) (t : Shape) → Unfolds slots e t → Visits R (half (has m) t q b) s' r last → Visits R (begun (has m) t q (i + 1)) s r last
    more r last t u k = rw (begun_more (has m) t q i b less side_is) (visits_then R _ _ s s' last r (h t u) k)

    -- a child of a node of 128 bits is visited itself, and a covered one is passed over
    pub begun_deep : length q ≡ 128 → (r : Result (Unit {0}) E) (last : S) → R s' (q ++ (b ∷ [])) r last → Begun e (i + 1) s r last
    begun_deep full r last step t u = more r last t u (rw (half_deep (has m) t q b full) (visits_one R _ s' r last step))

    module _ (named : nameable (q ++ (b ∷ [])) ≡ true) where
      pub begun_covered : has m (q ++ (b ∷ [])) ≡ true → Begun e (i + 1) s (Ok tt) s'
      begun_covered covered t u = more (Ok tt) s' t u (rw (half_covered (has m) t q b named covered) visits_none)

      module _ (child : Edge) (follows : child ≡ next slots (led slots e) b) (free : has m (q ++ (b ∷ [])) ≡ false) where
        pub begun_child : (r : Result (Unit {0}) E) (last : S) → Reaches m slots child (q ++ (b ∷ [])) R s' r last → Begun e (i + 1) s r last
        begun_child r last below t u =
            more r last t u (rw (half_free (has m) t q b named free) (below (tree.side b t) (rw follows (tree.unfolds_side b (tree.taken u)))))

  -- what fails on a side fails as a whole
  pub begun_fails : (e : Edge) (i : ℕ) (error : E) (s s' : S) → i < 2 → Begun e (i + 1) s (Err error) s' → Begun e 2 s (Err error) s'
  begun_fails e zero error s s' less h t u = visits_stop R _ _ s s' error (h t u)
  begun_fails e (suc zero) error s s' less h t u = h t u
  begun_fails e (suc (suc n)) error s s' less h t u = absurd (omega arith)
