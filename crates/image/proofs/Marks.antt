-- Marks written from edge 0 up, as a maker of images writes them. Assumes nothing.
use Rattle.std.proofs.Common.{◌≡◌, ℕ, suc, ◌+◌, ◌-◌, ◌*◌, ◌/◌, ◌%◌, ◌^◌, ◌<◌, Bool, true, false, cond, eqb, ◌↔◌, sym, refl, ap, ◌∙◌, inl, inr, pow-suc, arith}
use native.Mathlib.Nat.{add-mul-div_right}
use Rattle.std.proofs.lemmas.Nat.{pow_pos, pow-add, shr_high}
use Rattle.std.proofs.lemmas.Bool.{cases_eq}
use Rattle.tree.specs.Graph.{Edge}
use Rattle.image.specs.Image.{edges_each}
use Rattle.image.specs.Picture.{Joined, mark, Marked}

-- the marks m of the edges below e, with the mark b for e
abbrev pub with_mark : ℕ → ℕ → Bool → ℕ
with_mark m e b = m + cond b (2 ^ e) 0

pub with_mark_fits : (m e : ℕ) (b : Bool) → m < 2 ^ e → with_mark m e b < 2 ^ suc e
with_mark_fits m e true h = omega (arith, pow-suc 2 e)
with_mark_fits m e false h = omega (arith, pow-suc 2 e)

pub with_mark_here : (m e : ℕ) (b : Bool) → m < 2 ^ e → mark (with_mark m e b) e ≡ b
with_mark_here m e true h =
    let one : (m + 2 ^ e) / 2 ^ e ≡ 1 = ap (λ k. k / 2 ^ e) (omega arith) ∙ shr_high 1 e m h in
    ap (λ k. eqb (k % 2) 1) one
with_mark_here m e false h =
    let none : (m + 0) / 2 ^ e ≡ 0 = ap (λ k. k / 2 ^ e) (omega arith) ∙ shr_high 0 e m h in
    ap (λ k. eqb (k % 2) 1) none

pub with_mark_below : (m e f : ℕ) (b : Bool) → f < e → mark (with_mark m e b) f ≡ mark m f
with_mark_below m e f true h =
    let c : ℕ = 2 ^ suc (e - suc f) in
    let w : suc (e - suc f) + f ≡ e = omega arith in
    let high : 2 ^ e ≡ c * 2 ^ f = ap (λ k. 2 ^ k) (sym w) ∙ pow-add 2 (suc (e - suc f)) f in
    let moved : (m + 2 ^ e) / 2 ^ f ≡ m / 2 ^ f + c = ap (λ k. (m + k) / 2 ^ f) high ∙ add-mul-div_right m c (pow_pos f) in
    let even : (m / 2 ^ f + c) % 2 ≡ m / 2 ^ f % 2 = omega (arith, pow-suc 2 (e - suc f)) in
    ap (λ k. eqb (k % 2) 1) moved ∙ ap (λ k. eqb k 1) even
with_mark_below m e f false h = ap (λ k. mark k f) (omega arith)

-- the marks m of the edges below n are right so far
pub record MarkedTo (edge : ℕ → Bool → Edge) (s v n m : ℕ) : Type 0 where
  pub first : mark m 0 ≡ false
  pub groups : (e : ℕ) → suc e < n → (mark m e ≡ mark m (suc e)) ↔ Joined edge s v e (suc e)
  pub high : m < 2 ^ n

module _ (edge : ℕ → Bool → Edge) (s v : ℕ) where
  pub marked_first : MarkedTo edge s v 1 0
  marked_first = record { first = refl; groups = λ e h. absurd (omega arith); high = omega arith }

  -- the next edge has the same mark exactly if it is of the same group
  pub marked_more : (n m : ℕ) (b : Bool) → MarkedTo edge s v (suc n) m → (mark m n ≡ b) ↔ Joined edge s v n (suc n) → MarkedTo edge s v (suc (suc n)) (with_mark m (suc n) b)
  marked_more n m b to next = record {
    first = with_mark_below m (suc n) 0 b (omega arith) ∙ to.first;
    groups = λ e h. elim (cases_eq e n) [ inl t ↦ at_last e t | inr t ↦ before e (omega arith) ];
    high = with_mark_fits m (suc n) b to.high;
  }
    where
      before : (e : ℕ) → e < n → (mark (with_mark m (suc n) b) e ≡ mark (with_mark m (suc n) b) (suc e)) ↔ Joined edge s v e (suc e)
      before e l =
          let here = with_mark_below m (suc n) e b (omega arith) in
          let there = with_mark_below m (suc n) (suc e) b (omega arith) in
          let old = to.groups e (omega arith) in
          (λ h. old.0 (sym here ∙ h ∙ there), λ t. here ∙ old.1 t ∙ sym there)

      at_last : (e : ℕ) → e ≡ n → (mark (with_mark m (suc n) b) e ≡ mark (with_mark m (suc n) b) (suc e)) ↔ Joined edge s v e (suc e)
      at_last e t =
          let here = with_mark_below m (suc n) n b (omega arith) in
          let there = with_mark_here m (suc n) b to.high in
          rw t (λ h. next.0 (sym here ∙ h ∙ there), λ j. here ∙ next.1 j ∙ sym there)

  pub marked_all : (m : ℕ) → MarkedTo edge s v (edges_each s) m → Marked edge s v m
  marked_all m to = record { first = to.first; groups = to.groups; high = to.high }
