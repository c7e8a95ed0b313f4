-- The steps of a walk through an image. Assumes nothing.
use Rattle.std.proofs.Common.{◌≡◌, ℕ, suc, ◌+◌, ◌-◌, ◌*◌, ◌<◌, ◌≤◌, length, drop, Some, None, Option, sym, refl, ap, ◌∙◌, suc-mul, mul_comm, div-lt_iff_lt-mul, le-div_iff_mul-le, mul-suc, arith}
use native.Mathlib.Nat.{sub-zero}
use Rattle.std.proofs.lemmas.List.{drop-drop}
use Rattle.std.proofs.lemmas.Bool.{eq-eqb, ne_eqb}
use Rattle.bits.specs.Rows.{Bits}
use Rattle.image.specs.Image.{Image, next_edge, edge_at, marks_of, run, log2, unfolded, steps, most_steps, image_walk}
use Rattle.image.proofs.Steps.{steps_end, steps_on, steps_broken, steps_over}

-- a step is left exactly while a bit is
steps_left : (s W k : ℕ) → 1 ≤ s → s * k < W → k < most_steps W s
steps_left s W k least less = (le-div_iff_mul-le {k = s} {x = suc k} {y = W + (s - 1)} (omega arith)).1 (omega (arith, suc-mul k s, mul_comm s k))

none_left : (s W k : ℕ) → 1 ≤ s → W ≤ s * k → most_steps W s ≤ k
none_left s W k least past = let h : most_steps W s < suc k = (div-lt_iff_lt-mul {k = s} {x = W + (s - 1)} {y = suc k} (omega arith)).1 (omega (arith, suc-mul k s, mul_comm s k)) in omega arith

-- after some steps, with `taken` bits taken, the walk is at the vertex v
pub record Walking (i : Image) (a : Bits) (taken v : ℕ) : Type 0 where
  pub k : ℕ
  pub taken_is : taken ≡ i.stride * k
  pub least : 1 ≤ v
  pub rest : image_walk i a ≡ steps i (length a) (most_steps (length a) i.stride - k) k v (drop taken a)

-- before the first step
module _ (i : Image) (a : Bits) where
  pub walk_none : i.vertices ≡ 0 → Some 0 ≡ image_walk i a
  walk_none e = rw (image_walk, eq-eqb i.vertices 0 e) refl

  pub walk_start : (i.vertices ≡ 0 → ⊥) → Walking i a 0 1
  walk_start some = record { k = 0; taken_is = omega arith; least = omega arith; rest = rw (image_walk, ne_eqb i.vertices 0 some) (ap (λ n. steps i (length a) n 0 1 a) (sym (sub-zero (most_steps (length a) i.stride)))) }

module _ {i : Image} {a : Bits} {taken v : ℕ} (least : 1 ≤ i.stride) (h : Walking i a taken v) where
  pub walk_past : length a ≤ taken → None ≡ image_walk i a
  walk_past past =
      let none : most_steps (length a) i.stride - h.k ≡ 0 = omega (arith, none_left i.stride (length a) h.k least (omega arith)) in
      sym (h.rest ∙ ap (λ n. steps i (length a) n h.k v (drop taken a)) none ∙ steps_over i (length a) h.k v (drop taken a))

  -- one step on, by the edge e, which leads to `to`
  module _ {e : ℕ} (less : taken < length a) (edge : e ≡ next_edge i.stride (drop taken a)) where
    one_more : image_walk i a ≡ steps i (length a) (suc (most_steps (length a) i.stride - suc h.k)) h.k v (drop taken a)
    one_more =
        let some : most_steps (length a) i.stride - h.k ≡ suc (most_steps (length a) i.stride - suc h.k) = omega (arith, steps_left i.stride (length a) h.k least (omega arith)) in
        h.rest ∙ ap (λ n. steps i (length a) n h.k v (drop taken a)) some

    leads : {to : ℕ} → to ≡ edge_at i v e → edge_at i v (next_edge i.stride (drop taken a)) ≡ to
    leads is = ap (edge_at i v) (sym edge) ∙ sym is

    pub walk_broken : {to : ℕ} → to ≡ edge_at i v e → i.vertices < to → None ≡ image_walk i a
    walk_broken is over = sym (one_more ∙ steps_broken i (length a) _ h.k v (drop taken a) (omega (arith, leads is)))

    pub walk_next : {to : ℕ} → 1 ≤ to → to ≡ edge_at i v e → to ≤ i.vertices → Walking i a (taken + i.stride) to
    walk_next {to} some is within = record {
      k = suc h.k;
      taken_is = omega (arith, h.taken_is, mul-suc i.stride h.k);
      least = some;
      rest = one_more ∙ steps_on i (length a) _ h.k v to (drop taken a) (leads is) some within ∙ ap (steps i (length a) _ (suc h.k) to) (drop-drop i.stride taken a);
    }

    -- the end is met by an edge in whose run are t edges
    pub walk_answer : {W t : ℕ} {r : Option ℕ} → W ≡ length a → 0 ≡ edge_at i v e → t ≡ run (marks_of i v) e → r ≡ unfolded W (taken + i.stride) (log2 i.stride t) → r ≡ image_walk i a
    walk_answer {W} {t} {r} wide none many answer =
        let far : taken + i.stride ≡ i.stride * suc h.k = omega (arith, h.taken_is, mul-suc i.stride h.k) in
        answer ∙ ap (λ w. unfolded w (taken + i.stride) (log2 i.stride t)) wide ∙ ap (λ d. unfolded (length a) d (log2 i.stride t)) far ∙
        ap (λ n. unfolded (length a) (i.stride * suc h.k) (log2 i.stride n)) (many ∙ ap (run (marks_of i v)) edge) ∙
        sym (one_more ∙ steps_end i (length a) _ h.k v (drop taken a) (leads none))
