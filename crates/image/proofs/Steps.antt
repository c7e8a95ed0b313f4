-- The steps of an image's walk, one at a time. Assumes nothing.
use Rattle.std.proofs.Common.{◌≡◌, ℕ, suc, ◌+◌, ◌-◌, ◌*◌, ◌<◌, ◌≤◌, true, false, eqb, ltb, length, drop, Some, None, refl, ap, ◌∙◌, arith}
use Rattle.std.proofs.lemmas.Nat.{div-add-mod', mod_below}
use Rattle.std.proofs.lemmas.Bool.{eq-eqb, ne_eqb, lt-ltb, le-ltb}
use Rattle.bits.specs.Rows.{Bits}
use Rattle.image.specs.Image.{Image, next_edge, edge_at, marks_of, run, log2, within, unfolded, leaf_length, steps, most_steps, image_walk}

-- an edge of 0 leads to the end
pub steps_end : (i : Image) (W n k v : ℕ) (a : Bits) → edge_at i v (next_edge i.stride a) ≡ 0 → steps i W (suc n) k v a ≡ leaf_length i W v (next_edge i.stride a) k
unfolding steps
steps_end i W n k v a h = let t : eqb (edge_at i v (next_edge i.stride a)) 0 ≡ true = eq-eqb _ _ h in grind arith

-- one of a vertex goes on there
pub steps_on : (i : Image) (W n k v to : ℕ) (a : Bits) → edge_at i v (next_edge i.stride a) ≡ to → 1 ≤ to → to ≤ i.vertices → steps i W (suc n) k v a ≡ steps i W n (suc k) to (drop i.stride a)
unfolding steps
steps_on i W n k v to a h p q =
    let f : eqb (edge_at i v (next_edge i.stride a)) 0 ≡ false = ne_eqb _ _ (λ z. omega arith) in
    let g : ltb i.vertices (edge_at i v (next_edge i.stride a)) ≡ false = le-ltb _ _ (omega arith) in
    grind arith

-- any other breaks the walk, and so does a walk with too many steps
pub steps_broken : (i : Image) (W n k v : ℕ) (a : Bits) → i.vertices < edge_at i v (next_edge i.stride a) → steps i W (suc n) k v a ≡ None
unfolding steps
steps_broken i W n k v a h =
    let f : eqb (edge_at i v (next_edge i.stride a)) 0 ≡ false = ne_eqb _ _ (λ z. omega arith) in
    let g : ltb i.vertices (edge_at i v (next_edge i.stride a)) ≡ true = lt-ltb _ _ h in
    grind arith

pub steps_over : (i : Image) (W k v : ℕ) (a : Bits) → steps i W 0 k v a ≡ None
unfolding steps
steps_over i W k v a = refl

-- a run of 2 ^ l edges takes l bits off the leaf's length
pub leaf_length_is : (i : Image) (W v e k l d : ℕ) → log2 i.stride (run (marks_of i v) e) ≡ Some l → i.stride * suc k ≡ d + l → d ≤ W → leaf_length i W v e k ≡ Some d
leaf_length_is i W v e k l d h t w =
    let less : i.stride * suc k - l ≡ d = omega arith in
    let f : ltb W d ≡ false = le-ltb _ _ w in
    let whole : within W d ≡ Some d = grind arith in
    ap (unfolded W (i.stride * suc k)) h ∙ ap (within W) less ∙ whole

-- so many steps take at least W bits
pub most_steps_enough : (W s : ℕ) → 1 ≤ s → W ≤ s * most_steps W s
most_steps_enough W s h = omega (arith, div-add-mod' (W + (s - 1)) s, mod_below (W + (s - 1)) s h)

pub no_vertices : (i : Image) (a : Bits) → i.vertices ≡ 0 → image_walk i a ≡ Some 0
no_vertices i a h = let t : eqb i.vertices 0 ≡ true = eq-eqb _ _ h in grind arith

pub some_vertices : (i : Image) (a : Bits) → 1 ≤ i.vertices → image_walk i a ≡ steps i (length a) (most_steps (length a) i.stride) 0 1 a
some_vertices i a h = let f : eqb i.vertices 0 ≡ false = ne_eqb _ _ (λ z. omega arith) in grind arith
