-- Where the bits of an edge lead, by the spot that the table's way down ends at. Assumes nothing.
use Rattle.std.proofs.Common.{◌≡◌, ℕ, ◌+◌, ◌-◌, ◌*◌, ◌%◌, ◌^◌, ◌<◌, ◌≤◌, Bool, true, false, List, [], ◌∷◌, length, take, drop, Some, None, Option, sym, refl, ap, ◌∙◌, subst, inl, inr, ⊎_elim, arith}
use mathlib.Core.Logic.{∥∥₁_elim}
use denote.Struct.Props.{props}
use Rattle.std.proofs.lemmas.Bool.{cases_Bool, true≢false}
use Rattle.std.proofs.lemmas.List.{take_all, take-append-le, take-append-drop, length-take-le}
use Rattle.std.proofs.lemmas.Nat.{shl-shr, shl_whole}
use Rattle.bits.specs.Rows.{Bits, word, halves}
use Rattle.bits.proofs.Words.{length_word, take_word}
use Rattle.tree.specs.Tree.{Shape, leaf, has_node, shape_at}
use Rattle.tree.specs.Graph.{to, walk}
use Rattle.graph.specs.Slots.{is_end, blank, at, used, side_of, led, next, Unfolds, unfolds_end, unfolds_to, Sound}
use Rattle.graph.specs.View.{way, out}
use Rattle.graph.specs.Descend.{SpotOf, Descends}
use Rattle.graph.specs.declared.edge.Edge.{Edge}
use Rattle.graph.specs.declared.edge.Edge.TheVariants.{End, To}
use Rattle.graph.specs.declared.spot.Spot.{Spot}
use Rattle.graph.specs.declared.vertex.Vertex.{Vertex}
use Rattle.graph.proofs.Edges.{free_is, led_used, led_free}
use Rattle.graph.proofs.Descending.{vertex_forks}
use Rattle.graph.proofs.Unfold.{unfolds_one, one_edge, each_unfolds}
use Rattle.graph.proofs.Walking.{walk_to_leaf, walk_to_fork}
use Rattle.image.specs.Image.{edges_each}
use Rattle.image.specs.Picture.{down}
use Rattle.image.proofs.Downs.{down_end}
use Rattle.imaging.specs.Vertices.{Goes}

-- the bits of an edge, at the front of a word
pub edge_bits : (s e : ℕ) → s ≤ 6 → e < edges_each s → take s (halves ((e * 2 ^ (64 - s)) % 2 ^ 64) 0) ≡ word s e
edge_bits s e most less =
    let size : s + (64 - s) ≡ 64 = omega arith in
    take-append-le s (word 64 ((e * 2 ^ (64 - s)) % 2 ^ 64)) (word 64 0) (omega (arith, length_word 64 ((e * 2 ^ (64 - s)) % 2 ^ 64))) ∙
    ap (λ n. take s (word 64 n)) (shl_whole e s (64 - s) 64 less (omega arith)) ∙ ap (λ w. take s (word w (e * 2 ^ (64 - s)))) (sym size) ∙
    take_word s (64 - s) (e * 2 ^ (64 - s)) ∙ ap (word s) (shl-shr e (64 - s))

-- an edge that is followed by a table is followed in its graph
pub followed_out : (xs : List Vertex) (n : ℕ) (e : Edge) (b : Bool) → e ≡ next xs (led xs (To n)) b → way e ≡ out xs n b
followed_out xs n e b is = ⊎_elim in_use free (cases_Bool (used (at xs n)))
  where
    in_use : used (at xs n) ≡ true → way e ≡ out xs n b
    in_use u = ap way (is ∙ ap (λ f. next xs f b) (led_used xs n u))

    blank_side : (c : Bool) → side_of blank c ≡ End
    blank_side true = refl
    blank_side false = refl

    free : used (at xs n) ≡ false → way e ≡ out xs n b
    free u = ap way (is ∙ ap (λ f. next xs f b) (led_free xs n u)) ∙ sym (ap (λ v. way (side_of v b)) (free_is (at xs n) u) ∙ ap way (blank_side b))

-- the bits of a node lead to the edge of its tree
down_unfolds : {xs : List Vertex} {e : Edge} {t : Shape} (q : Bits) → Unfolds xs e t → has_node t q ≡ true → (f : Edge) × (down (out xs) (way e) q ≡ way f) × Unfolds xs f (shape_at t q)
down_unfolds [] unfolds_end node = (End, refl, unfolds_end)
down_unfolds [] (unfolds_to u l r) node = (To _, refl, unfolds_to u l r)
down_unfolds (c ∷ q) unfolds_end node = absurd (true≢false (sym node))
down_unfolds (false ∷ q) (unfolds_to u l r) node = down_unfolds q l node
down_unfolds (true ∷ q) (unfolds_to u l r) node = down_unfolds q r node

-- a slot in use, and the spot that the table's way down from it by the edge's bits ends at
module _ (xs : List Vertex) (sound : ∥ Sound xs ∥₁) (v : ℕ) (stands : used (at xs v) ≡ true) (s e : ℕ) (most : s ≤ 6) (less : e < edges_each s) where
  start : led xs (To v) ≡ To v
  start = led_used xs v stands

  module _ (p : Bits) (spot : Spot) (path : p ≡ word s e) (descends : Descends xs (To v) p spot) where
    long : length p ≡ s
    long = ap length path ∙ length_word s e

    -- the same of the slot as of what its edge is taken for
    from_start : {o : Option ℕ} → walk (out xs) (way (led xs (To v))) p ≡ o → walk (out xs) (to v) p ≡ o
    from_start h = ap (λ l. walk (out xs) (way l) p) (sym start) ∙ h

    within : spot.depth ≤ s
    within = ∥∥₁_elim (each_unfolds xs (To v) sound) (hlevel props) λ (t, h). omega (arith, long, (descends t h).within)

    ends : spot.edge ≡ End → walk (out xs) (to v) p ≡ Some spot.depth
    ends is = ∥∥₁_elim (each_unfolds xs (To v) sound) (hlevel props) λ (t, h). from_start (at_leaf t h (descends t h))
      where
        at_leaf : (t : Shape) → Unfolds xs (led xs (To v)) t → SpotOf xs t p spot → walk (out xs) (way (led xs (To v))) p ≡ Some spot.depth
        at_leaf t h here =
            let flat : shape_at t (take spot.depth p) ≡ leaf = unfolds_one (subst (λ f. Unfolds xs f (shape_at t (take spot.depth p))) is here.unfolds) unfolds_end in
            ap (walk (out xs) (way (led xs (To v)))) (sym (take-append-drop spot.depth p)) ∙ walk_to_leaf (take spot.depth p) (drop spot.depth p) h here.node flat ∙ ap Some (length-take-le spot.depth p here.within)

    module _ (n : ℕ) (is : spot.edge ≡ To n) where
      all : spot.depth ≡ s
      all = ∥∥₁_elim (each_unfolds xs (To v) sound) (hlevel props) λ (t, h). elim (descends t h).stops [ inl whole ↦ whole ∙ long | inr short ↦ absurd (true≢false (ap is_end (sym short.2 ∙ is))) ]

      whole : take spot.depth p ≡ p
      whole = take_all spot.depth p (omega (arith, all, long))

      goes_on : walk (out xs) (to v) p ≡ None
      goes_on = ∥∥₁_elim (each_unfolds xs (To v) sound) (hlevel props) λ (t, h). from_start
          (ap (walk (out xs) (way (led xs (To v)))) (sym whole) ∙ walk_to_fork (take spot.depth p) h (vertex_forks n is (descends t h).unfolds))

      leads_on : to n ≡ down (out xs) (to v) p
      leads_on = ∥∥₁_elim (each_unfolds xs (To v) sound) (hlevel props) λ (t, h). on t h (descends t h)
        where
          on : (t : Shape) → Unfolds xs (led xs (To v)) t → SpotOf xs t p spot → to n ≡ down (out xs) (to v) p
          on t h here =
              let (f, leads, unfolds) = down_unfolds (take spot.depth p) h here.node in
              let same : f ≡ spot.edge = one_edge xs f spot.edge _ sound unfolds here.unfolds in
              sym (ap (down (out xs) (to v)) (sym whole) ∙ ap (λ l. down (out xs) (way l) (take spot.depth p)) (sym start) ∙ leads ∙ ap way (same ∙ is))

    goes_down : Goes xs s v e spot.edge (s - spot.depth)
    goes_down = go spot.edge refl
      where
        go : (f : Edge) → spot.edge ≡ f → Goes xs s v e spot.edge (s - spot.depth)
        go End is =
            let met : walk (out xs) (to v) (word s e) ≡ Some spot.depth = subst (λ q. walk (out xs) (to v) q ≡ Some spot.depth) path (ends is) in
            record {
              leads = ap way is ∙ sym (down_end (out xs) (to v) (word s e) spot.depth met);
              left = rw met (omega (arith, within));
              few = omega arith;
            }
        go (To n) is =
            let on : walk (out xs) (to v) (word s e) ≡ None = subst (λ q. walk (out xs) (to v) q ≡ None) path (goes_on n is) in
            record {
              leads = ap way is ∙ leads_on n is ∙ ap (down (out xs) (to v)) path;
              left = rw on (omega (arith, all n is));
              few = omega arith;
            }

  -- as the code has it, which takes the bits from the front of a word
  module _ {bits : ℕ} (is : bits ≡ s) {p : Bits} {spot : Spot} (front : p ≡ take bits (halves ((e * 2 ^ (64 - bits)) % 2 ^ 64) 0)) (descends : Descends xs (To v) p spot) where
    path : p ≡ word s e
    path = front ∙ ap (λ b. take b (halves ((e * 2 ^ (64 - b)) % 2 ^ 64) 0)) is ∙ edge_bits s e most less

    pub few_taken : spot.depth ≤ bits
    few_taken = omega (arith, is, within p spot path descends)

    pub goes : Goes xs s v e spot.edge (bits - spot.depth)
    goes = subst (λ b. Goes xs s v e spot.edge (b - spot.depth)) (sym is) (goes_down p spot path descends)
