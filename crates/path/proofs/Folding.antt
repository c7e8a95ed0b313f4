-- Folding a path back: one step up, and what the whole path leaves. Assumes nothing.
use Rattle.std.proofs.Common.{◌≡◌, ℕ, ◌+◌, ◌<◌, ◌≤◌, Bool, true, false, cond, not, ◌&&◌, ◌||◌, List, [], ◌∷◌, ◌++◌, length, get_or, take, drop, Result, sym, refl, ap, ◌∙◌, subst, inl, inr, arith, MatchResult}
use mathlib.Core.Path.{fun_ext}
use mathlib.Core.List.{Mem, not-mem-nil}
use Rattle.std.proofs.lemmas.List.{length-take-le, take_more, drop_all, append_assoc}
use Rattle.std.proofs.lemmas.Result.{MatchResult-weaker}
use Rattle.std.proofs.lemmas.Bool.{cases_Bool, true≢false, or_left}
use Rattle.bits.specs.Rows.{Bits}
use Rattle.net.specs.Prefix.{row_of}
use Rattle.net.specs.declared.prefix.Prefix.{Prefix}
use Rattle.net.proofs.Prefixes.{length_row}
use Rattle.store.specs.Content.{Map}
use Rattle.refusal.specs.declared.Refusal.{Refusal}
use Rattle.tree.specs.Tree.{Shape, leaf, fork, shapes}
use Rattle.tree.specs.Changes.{below, folded, pruned}
use Rattle.graph.specs.Slots.{is_end, led, next, Unfolds, unfolds_end, Sound}
use Rattle.graph.specs.Calls.{Kept, Made, Refused}
use Rattle.graph.specs.Grow.{New, Pathed, Stopped}
use Rattle.graph.specs.declared.edge.Edge.{Edge}
use Rattle.graph.specs.declared.edge.Edge.TheVariants.{End, To}
use Rattle.graph.specs.declared.vertex.Vertex.{Vertex}
use Rattle.graph.proofs.Growing.{side, taken, goes_on, left_within, right_within, new_none, stopped_up, refused_up, made_up, grown_whole, too_many}
use Rattle.path.specs.Prune.{others, seen_from, owning, folding, Prunes, PrunesBelow}
use Rattle.graph.proofs.Descending.{is_leaf, end_leaf, vertex_forks, follows}

-- a fold is a leaf where both sides are and neither has a route of its own, and else a fork
folded_leaf : (o : Bool) (a b : Shape) → is_leaf a ≡ true → is_leaf b ≡ true → o ≡ false → folded o a b ≡ leaf
folded_leaf o leaf leaf x y z = rw z refl
folded_leaf o leaf (fork c d) x y z = absurd (true≢false (sym y))
folded_leaf o (fork a b) leaf x y z = absurd (true≢false (sym x))
folded_leaf o (fork a b) (fork c d) x y z = absurd (true≢false (sym x))

folded_fork : (o : Bool) (a b : Shape) → ((is_leaf a && is_leaf b) && not o) ≡ false → folded o a b ≡ fork a b
folded_fork o leaf leaf h = grind arith
folded_fork o leaf (fork c d) h = refl
folded_fork o (fork a b) leaf h = refl
folded_fork o (fork a b) (fork c d) h = refl

pub pruned_end : (own : Bits → Bool) (p : Bits) → pruned own leaf p ≡ leaf
pruned_end own [] = refl
pruned_end own (c ∷ p) = refl

-- a branching node's fold, by the side that the row goes on
pruned_zero : (own : Bits → Bool) (b : Bool) (p : Bits) (t : Shape) → is_leaf t ≡ false → b ≡ false → pruned own t (b ∷ p) ≡ folded (owning own) (pruned (below b own) (side b t) p) (side (not b) t)
pruned_zero own b p leaf h is = absurd (true≢false h)
pruned_zero own false p (fork l r) h is = refl
pruned_zero own true p (fork l r) h is = absurd (true≢false is)

pruned_one : (own : Bits → Bool) (b : Bool) (p : Bits) (t : Shape) → is_leaf t ≡ false → b ≡ true → pruned own t (b ∷ p) ≡ folded (owning own) (side (not b) t) (pruned (below b own) (side b t) p)
pruned_one own b p leaf h is = absurd (true≢false h)
pruned_one own true p (fork l r) h is = refl
pruned_one own false p (fork l r) h is = absurd (true≢false (sym is))

-- a tree with a branching shape is no leaf
some_shape : (c s : Shape) → Mem s (shapes c) → is_leaf c ≡ false
some_shape leaf s m = absurd (not-mem-nil m)
some_shape (fork a b) s m = refl

leaf_is : (c : Shape) → is_leaf c ≡ true → c ≡ leaf
leaf_is leaf h = refl
leaf_is (fork a b) h = absurd (true≢false (sym h))

-- what is asked of the node of the first d bits, where its children are asked one after the other
module _ (m : Map) (prefix node : Prefix) (d : ℕ) (less : d < length (row_of prefix)) (is : row_of node ≡ take d (row_of prefix)) where
  abbrev asked : Bool → Bool
  asked one = others m (row_of prefix) (row_of node ++ (one ∷ []))

  short : length (row_of node) < 128
  short = let long = length_row prefix in let most = prefix.short in let cut : length (row_of node) ≡ d = ap length is ∙ length-take-le d (row_of prefix) (omega arith) in omega arith

  told : (asked false || asked true) ≡ owning (seen_from (take d (row_of prefix)) (others m (row_of prefix)))
  told = ap (λ q. others m (row_of prefix) (q ++ (false ∷ [])) || others m (row_of prefix) (q ++ (true ∷ []))) is

  pub child_left : (r : Bool) → (length (row_of node) < 128 → r ≡ asked false) → r ≡ true → r ≡ owning (seen_from (take d (row_of prefix)) (others m (row_of prefix)))
  child_left r says is-so = is-so ∙ sym (or_left (asked false) (asked true) (sym (says short) ∙ is-so)) ∙ told

  pub child_right : (r s : Bool) → (length (row_of node) < 128 → r ≡ asked false) → (length (row_of node) < 128 → s ≡ asked true) → r ≡ false
      → s ≡ owning (seen_from (take d (row_of prefix)) (others m (row_of prefix)))
  child_right r s says tells not_so = tells short ∙ ap (λ x. x || asked true) (sym (sym (says short) ∙ not_so)) ∙ told

-- at a node that is not folded: at the prefix's own, and at a leaf above it
pub here : (xs : List Vertex) (node : Edge) (own : Bits → Bool) (row : Bits) (d : ℕ) (t : Shape) → length row ≤ d → Unfolds xs node t → Pathed xs xs (pruned own t (drop d row)) node
here xs node own row d t past h = rw (drop_all d row past) (record { unfolds = h; new = new_none xs (shapes t) })

pub above_it : (xs : List Vertex) (node : Edge) (own : Bits → Bool) (p : Bits) (t : Shape) → node ≡ End → Unfolds xs node t → Pathed xs xs (pruned own t p) End
above_it xs node own p t is h = subst (λ s. Pathed xs xs (pruned own s p) End) (sym (leaf_is t (sym (end_leaf h) ∙ ap is_end is)))
    (rw (pruned_end own p) (record { unfolds = unfolds_end; new = new_none xs [] }))

-- the test of nodes, one bit down the row
one_down : (row : Bits) (d : ℕ) (b : Bool) (own : Bits → Bool) → d < length row → get_or row d false ≡ b → seen_from (take (d + 1) row) own ≡ below b (seen_from (take d row) own)
one_down row d b own less is = fun_ext (λ q. ap own (ap (λ r. r ++ q) (take_more row d false less ∙ ap (λ c. take d row ++ (c ∷ [])) is) ∙ append_assoc (take d row) (b ∷ []) q))

-- from a vertex d bits down the path, where b is the row's next bit: below it the path was folded from xs to ys
module _ (xs ys : List Vertex) (node : Edge) (n : ℕ) (is : node ≡ To n) (t : Shape) (h : Unfolds xs node t) (own : Bits → Bool) (row : Bits) (d : ℕ) (b : Bool) (less : d < length row) (bit : b ≡ get_or row d false) where
  abbrev test : Bits → Bool
  test = seen_from (take d row) own

  -- the node's tree, and the two sides of it: the folded one, and the one beside the path
  abbrev whole : Shape
  whole = pruned test t (drop d row)

  abbrev under : Shape
  under = pruned (seen_from (take (d + 1) row) own) (side b t) (drop (d + 1) row)

  abbrev beyond : Shape
  beyond = side (not b) t

  under_is : pruned (below b test) (side b t) (drop (d + 1) row) ≡ under
  under_is = ap (λ o. pruned o (side b t) (drop (d + 1) row)) (sym (one_down row d b own less (sym bit)))

  forks : is_leaf t ≡ false
  forks = vertex_forks n is h

  on_zero : b ≡ false → whole ≡ folded (owning test) under beyond
  on_zero zero = ap (pruned test t) (goes_on row d b less (sym bit)) ∙ pruned_zero test b (drop (d + 1) row) t forks zero ∙ ap (λ s. folded (owning test) s beyond) under_is

  on_one : b ≡ true → whole ≡ folded (owning test) beyond under
  on_one one = ap (pruned test t) (goes_on row d b less (sym bit)) ∙ pruned_one test b (drop (d + 1) row) t forks one ∙ ap (λ s. folded (owning test) beyond s) under_is

  -- what stops the path below it stops it
  pub up_stopped : (why : Refusal) → Stopped xs ys under why → Stopped xs ys whole why
  up_stopped why stop = elim (cases_Bool b) [
    | inl one ↦ subst (λ s. Stopped xs ys s why) (sym (on_one one ∙ folded_fork _ beyond under (grind (arith, some)))) (stopped_up xs ys beyond under under (right_within _ _) why stop)
    | inr zero ↦ subst (λ s. Stopped xs ys s why) (sym (on_zero zero ∙ folded_fork _ under beyond (grind (arith, some)))) (stopped_up xs ys under beyond under (left_within _ _) why stop)
  ]
    where
      some : is_leaf under ≡ false
      some = some_shape under stop.missing.0 stop.missing.1

  module _ (e beside : Edge) (path : Pathed xs ys under e) (to : beside ≡ next xs (led xs node) (not b)) where
    other : Unfolds xs beside beyond
    other = follows xs node beside t (not b) (not b) to refl h

    -- neither side branches, and no child has a route of its own
    pub up_leaf : folding test e beside ≡ true → Pathed xs ys whole End
    up_leaf ends = subst (λ s. Pathed xs ys s End) (sym bare) (record { unfolds = unfolds_end; new = subst (λ s. New xs ys (shapes s)) (leaf_is under one) path.new })
      where
        one : is_leaf under ≡ true
        one = sym (end_leaf path.unfolds) ∙ grind (arith, ends)

        two : is_leaf beyond ≡ true
        two = sym (end_leaf other) ∙ grind (arith, ends)

        none : owning test ≡ false
        none = grind (arith, ends)

        bare : whole ≡ leaf
        bare = elim (cases_Bool b) [ inl up ↦ on_one up ∙ folded_leaf _ beyond under two one none | inr down ↦ on_zero down ∙ folded_leaf _ under beyond one two none ]

    -- else the node branches, by a fork that gave r and zs
    module _ (kept : Kept xs ys) (zs : List Vertex) (more : Kept ys zs) (r : Result Edge Refusal) (stays : folding test e beside ≡ false) where
      abbrev Forks : Edge → Edge → Type 0
      Forks z o = (x y : Shape) → Unfolds ys (led ys z) x → Unfolds ys (led ys o) y → MatchResult r (Made ys zs (fork x y)) (Refused ys zs (fork x y))

      there : Unfolds ys beside beyond
      there = kept.shapes beside beyond other

      stands : ((is_leaf under && is_leaf beyond) && not (owning test)) ≡ false
      stands = ap (λ x. (x && is_leaf beyond) && not (owning test)) (sym (end_leaf path.unfolds)) ∙ ap (λ x. (is_end e && x) && not (owning test)) (sym (end_leaf other)) ∙ stays

      pub up : Forks (cond b beside e) (cond b e beside) → MatchResult r (Pathed xs zs whole) (Stopped xs zs whole)
      up made = elim (cases_Bool b) [
        | inl one ↦ subst (λ s. MatchResult r (Pathed xs zs s) (Stopped xs zs s)) (sym (on_one one ∙ folded_fork _ beyond under (grind (arith, stands)))) (MatchResult-weaker r
            ((rw one at made) beyond under (taken there) (taken path.unfolds))
            (λ f m. made_up xs ys _ _ under (right_within _ _) zs f path.new more m)
            (λ why full. refused_up xs ys _ _ under (right_within _ _) zs why path.new full))
        | inr zero ↦ subst (λ s. MatchResult r (Pathed xs zs s) (Stopped xs zs s)) (sym (on_zero zero ∙ folded_fork _ under beyond stands)) (MatchResult-weaker r
            ((rw zero at made) under beyond (taken path.unfolds) (taken there))
            (λ f m. made_up xs ys _ _ under (left_within _ _) zs f path.new more m)
            (λ why full. refused_up xs ys _ _ under (left_within _ _) zs why path.new full))
      ]

-- the whole path
pub prunes : (xs ys : List Vertex) (start first : Edge) (own : Bits → Bool) (row : Bits) (r : Result Edge Refusal) → Kept xs ys → ∥ Sound ys ∥₁ → length ys ≡ 2048
    → first ≡ led xs start → PrunesBelow xs ys first own row r → Prunes xs ys start own row r
prunes xs ys start first own row r kept sound long is path t ss h held = MatchResult-weaker r (path t (rw is h))
    (λ e path. grown_whole xs ys ss (pruned own t row) kept sound long held e path)
    (λ why stop. too_many xs ys ss (pruned own t row) kept sound long held why stop)
