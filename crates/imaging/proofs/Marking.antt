-- The marks of a vertex, from edge 0 up. Assumes nothing.
use Rattle.std.proofs.Common.{◌≡◌, ℕ, zero, suc, ◌+◌, ◌-◌, ◌%◌, ◌^◌, ◌<◌, ◌≤◌, Bool, true, false, cond, not, eqb, ◌↔◌, List, Some, None, Option, sym, refl, ap, ◌∙◌, subst, true≢false, pow-suc, pow_mono, arith}
use mathlib.Core.Bool.{false≢true}
use Rattle.std.proofs.lemmas.Bool.{eqb-true, eqb-false, eq-eqb, ne_eqb}
use Rattle.bits.specs.Rows.{word}
use Rattle.tree.specs.Graph.{to, walk}
use Rattle.graph.specs.View.{out}
use Rattle.graph.specs.declared.edge.Edge.{Edge}
use Rattle.graph.specs.declared.vertex.Vertex.{Vertex}
use Rattle.image.specs.Image.{edges_each}
use Rattle.image.specs.Picture.{Joined, Marked, mark}
use Rattle.image.proofs.Groups.{alone, joined_next}
use Rattle.image.proofs.Marks.{with_mark, with_mark_here, MarkedTo, marked_first, marked_more, marked_all}
use Rattle.imaging.specs.Vertices.{Left, Goes}

-- the marks of the edges below e, and the last of them
pub record Marking (xs : List Vertex) (s v e m : ℕ) (one : Bool) : Type 0 where
  pub marked : MarkedTo (out xs) s v e m
  pub last : mark m (e - 1) ≡ one

module _ (xs : List Vertex) (s v : ℕ) where
  pub marking_start : Marking xs s v 1 0 false
  marking_start = record { marked = marked_first (out xs) s v; last = refl }

  -- the next edge is of the same group unless a block of the edges that the last leads with begins with it
  pub joined_by : (e n : ℕ) (w : Edge) → suc e < edges_each s → Goes xs s v e w n → Joined (out xs) s v e (suc e) ↔ (suc e % 2 ^ n ≡ 0 → ⊥)
  joined_by e n w less h = go (walk (out xs) (to v) (word s e)) refl h.left
    where
      go : (o : Option ℕ) → walk (out xs) (to v) (word s e) ≡ o → Left o s n → Joined (out xs) s v e (suc e) ↔ (suc e % 2 ^ n ≡ 0 → ⊥)
      go (Some d) ends left =
          let size : s - d ≡ n = omega arith in
          subst (λ k. Joined (out xs) s v e (suc e) ↔ (suc e % 2 ^ k ≡ 0 → ⊥)) size (joined_next (out xs) s v e d ends less)
      go None goes left =
          let unit : suc e % 2 ^ n ≡ 0 = ap (λ k. suc e % 2 ^ k) left ∙ (omega arith) in
          (λ j. let same = alone (out xs) s v e (suc e) goes j in absurd (omega arith), λ f. absurd (f unit))

  -- one edge on: the mark changes where a block begins
  marking_next : (k m n : ℕ) (w : Edge) (one b : Bool) → suc k < edges_each s → Goes xs s v k w n → b ≡ cond (eqb (suc k % 2 ^ n) 0) (not one) one → MarkedTo (out xs) s v (suc k) m → mark m k ≡ one →
      MarkedTo (out xs) s v (suc (suc k)) (with_mark m (suc k) b)
  marking_next k m n w one b less goes is so_far last = marked_more (out xs) s v k m b so_far (go (eqb (suc k % 2 ^ n) 0) refl one last)
    where
      joined : Joined (out xs) s v k (suc k) ↔ (suc k % 2 ^ n ≡ 0 → ⊥)
      joined = joined_by k n w less goes

      other : (o : Bool) → o ≡ not o → ⊥
      other true e = true≢false e
      other false e = false≢true e

      go : (t : Bool) → eqb (suc k % 2 ^ n) 0 ≡ t → (o : Bool) → mark m k ≡ o → (mark m k ≡ b) ↔ Joined (out xs) s v k (suc k)
      go true begins o at =
          let turned : b ≡ not one = is ∙ ap (λ t. cond t (not one) one) begins in
          (λ h. absurd (other one (sym last ∙ h ∙ turned)), λ j. absurd (joined.0 j (eqb-true (suc k % 2 ^ n) 0 begins)))
      go false begins o at =
          let same : b ≡ one = is ∙ ap (λ t. cond t (not one) one) begins in
          (λ h. joined.1 (eqb-false (suc k % 2 ^ n) 0 begins), λ j. last ∙ sym same)

  pub marking_more : (e m n : ℕ) (w : Edge) (one b : Bool) → 1 ≤ e → e < edges_each s → Goes xs s v (e - 1) w n → b ≡ cond (eqb (e % 2 ^ n) 0) (not one) one → Marking xs s v e m one → Marking xs s v (e + 1) (with_mark m e b) b
  marking_more zero m n w one b least less goes is h = absurd (omega arith)
  marking_more (suc k) m n w one b least less goes is h =
      let back : suc k - 1 ≡ k = omega arith in
      let on : suc (suc k) ≡ suc k + 1 = omega arith in
      let here : suc k + 1 - 1 ≡ suc k = omega arith in
      record {
        marked = subst (λ j. MarkedTo (out xs) s v j (with_mark m (suc k) b)) on
            (marking_next k m n w one b less (subst (λ j. Goes xs s v j w n) back goes) is h.marked (ap (mark m) (sym back) ∙ h.last));
        last = ap (mark (with_mark m (suc k) b)) here ∙ with_mark_here m (suc k) b h.marked.high;
      }

  -- as the code has it: d is the block's size, one' and m' what the turn leaves
  module _ (e m n d : ℕ) (w : Edge) (one : Bool) (least : 1 ≤ e) (less : e < edges_each s) (size : d ≡ 2 ^ n) (goes : Goes xs s v (e - 1) w n) (h : Marking xs s v e m one) where
    pub turned : (b : Bool) → e % d ≡ 0 → b ≡ not one → b ≡ cond (eqb (e % 2 ^ n) 0) (not one) one
    turned b begins is = is ∙ sym (ap (λ t. cond t (not one) one) (eq-eqb (e % 2 ^ n) 0 (ap (λ k. e % k) (sym size) ∙ begins)))

    pub unturned : (b : Bool) → (e % d ≡ 0 → ⊥) → b ≡ one → b ≡ cond (eqb (e % 2 ^ n) 0) (not one) one
    unturned b inside is = is ∙ sym (ap (λ t. cond t (not one) one) (ne_eqb (e % 2 ^ n) 0 (λ z. inside (ap (λ k. e % k) size ∙ z))))

    pub marking_turn : (b : Bool) (m' : ℕ) → b ≡ cond (eqb (e % 2 ^ n) 0) (not one) one → m' ≡ with_mark m e b → Marking xs s v (e + 1) m' b
    marking_turn b m' is marks = subst (λ k. Marking xs s v (e + 1) k b) (sym marks) (marking_more e m n w one b least less goes is h)

  -- the marks fit
  pub marking_fits : (e m : ℕ) (one : Bool) → e < edges_each s → s ≤ 6 → Marking xs s v e m one → m + 2 ^ e < 2 ^ 64
  marking_fits e m one less most h = omega (arith, h.marked.high, pow-suc 2 e, pow_mono {i = suc e} {j = 64} (omega (arith, pow_mono {i = s} {j = 6} most)))

  pub marking_all : (e m : ℕ) (one : Bool) → e ≡ edges_each s → Marking xs s v e m one → Marked (out xs) s v m
  marking_all e m one all h = marked_all (out xs) s v m (subst (λ k. MarkedTo (out xs) s v k m) all h.marked)
