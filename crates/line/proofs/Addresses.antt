-- The address that a field writes. Assumes nothing.
use Rattle.std.proofs.Common.{◌≡◌, ℕ, ◌*◌, ◌≤◌, cond, leb, List, length, take, Some, None, Option, sym, refl, ap, ◌∙◌, subst, arith}
use Rattle.std.proofs.lemmas.Bool.{eq-eqb, le-leb}
use Rattle.bits.specs.Rows.{Bits, halves}
use Rattle.bits.specs.declared.halves.Halves.{Halves}
use Rattle.bits.proofs.Fronts.{padded_front}
use Rattle.text.specs.Fields.{hex_row, Holds}
use Rattle.text.proofs.Digits.{hex_length}
use Rattle.line.specs.Line.{address}

pub address_read : (W : ℕ) (bs : List ℕ) (o : Option Halves) (h : Halves) (row : Bits) → W ≤ 128 → 4 * length bs ≡ W → Holds (cond (leb (length bs) 32) (hex_row bs) None) o → o ≡ Some h
    → row ≡ take W (halves h.first h.second) → address W bs ≡ Some row
address_read W bs o h row most e holds some r =
    ap (λ t. cond t (hex_row bs) None) (eq-eqb (4 * length bs) W e)
    ∙ go (hex_row bs) (λ q. hex_length bs q) (subst (λ k. Holds k (Some h)) (ap (λ t. cond t (hex_row bs) None) (le-leb (length bs) 32 (omega arith))) (subst (λ p. Holds (cond (leb (length bs) 32) (hex_row bs) None) p) some holds))
  where
    go : (k : Option Bits) → ((q : Bits) → k ≡ Some q → length q ≡ 4 * length bs) → Holds k (Some h) → k ≡ Some row
    go None long f = absurd f
    go (Some q) long f = ap Some (sym (padded_front 128 W q (long q refl ∙ e)) ∙ ap (take W) (sym f) ∙ sym r)
