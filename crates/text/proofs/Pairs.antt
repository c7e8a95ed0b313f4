-- A hexadecimal field, read as two words. Assumes nothing.
use Rattle.std.proofs.Common.{◌≡◌, ℕ, ◌+◌, ◌-◌, ◌*◌, ◌≤◌, min, false, cond, leb, ◌⊎◌, List, [], ◌++◌, length, take, drop, replicate, Some, None, sym, refl, ap, ◌∙◌, inl, inr, arith}
use Rattle.std.proofs.lemmas.List.{append_assoc, append-nil, length-append, length-take, length-drop, take-append-drop, nil_from_length, replicate-append-replicate}
use Rattle.std.proofs.lemmas.Bool.{le-leb, cases_lt}
use Rattle.bits.specs.Rows.{Bits, padded, word}
use Rattle.bits.specs.declared.halves.Halves.{Halves}
use Rattle.text.specs.Fields.{hex_row, Holds}
use Rattle.text.proofs.Digits.{both, hex_append, hex_length}

-- two rows filled up to words, where the first is whole or the second has no bit
two_padded : (p q : Bits) → length p ≤ 64 → (length p ≡ 64) ⊎ (q ≡ []) → padded 64 p ++ padded 64 q ≡ padded 128 (p ++ q)
two_padded p q h (inl e) =
    let none : 64 - length p ≡ 0 = omega arith in
    let sum : 128 - length (p ++ q) ≡ 64 - length q = omega (arith, length-append p q) in
    rw (none, append-nil, sum) (sym (append_assoc p q (replicate (64 - length q) false)))
two_padded p q h (inr e) =
    let sum : (64 - length p) + (64 - 0) ≡ 128 - length p = omega arith in
    rw (e, append-nil, append_assoc, replicate-append-replicate, sum) refl

-- the field is within bounds, and its parts are those before and behind the place k
module _ (bs : List ℕ) (k : ℕ) (h : length bs ≤ 32) where
  parts : cond (leb (length bs) 32) (hex_row bs) None ≡ both (hex_row (take k bs)) (hex_row (drop k bs))
  parts = ap (λ t. cond t (hex_row bs) None) (le-leb (length bs) 32 h) ∙ ap hex_row (sym (take-append-drop k bs)) ∙ hex_append (take k bs) (drop k bs)

  pub first_bad : hex_row (take k bs) ≡ None → Holds (cond (leb (length bs) 32) (hex_row bs) None) None
  first_bad e = rw (parts ∙ ap (λ o. both o (hex_row (drop k bs))) e) tt

  pub second_bad : (p : Bits) → hex_row (take k bs) ≡ Some p → hex_row (drop k bs) ≡ None → Holds (cond (leb (length bs) 32) (hex_row bs) None) None
  second_bad p e f = rw (parts ∙ ap (λ o. both o (hex_row (drop k bs))) e ∙ ap (both (Some p)) f) tt

  pub both_good : (h : Halves) (p q : Bits) → k ≡ min (length bs) 16 → hex_row (take k bs) ≡ Some p → hex_row (drop k bs) ≡ Some q
      → word 64 h.first ≡ padded 64 p → word 64 h.second ≡ padded 64 q
      → Holds (cond (leb (length bs) 32) (hex_row bs) None) (Some h)
  both_good h p q m e f g i =
      let fore : length p ≡ 4 * length (take k bs) = hex_length (take k bs) p e in
      let aft : length q ≡ 4 * length (drop k bs) = hex_length (drop k bs) q f in
      let found : cond (leb (length bs) 32) (hex_row bs) None ≡ Some (p ++ q) = parts ∙ ap (λ o. both o (hex_row (drop k bs))) e ∙ ap (both (Some p)) f in
      let room : length (take k bs) ≤ 16 = simp length-take (omega arith) in
      let short : length p ≤ 64 = omega arith in
      rw found (ap (λ r. r ++ word 64 h.second) g ∙ ap (λ r. padded 64 p ++ r) i ∙ two_padded p q short (ways fore aft))
    where
      ways : length p ≡ 4 * length (take k bs) → length q ≡ 4 * length (drop k bs) → (length p ≡ 64) ⊎ (q ≡ [])
      ways fore aft = elim (cases_lt 16 (length bs)) [
        | inl s ↦ inl (let n : length (take k bs) ≡ 16 = simp length-take (omega arith) in omega arith)
        | inr s ↦ inr (nil_from_length q (let n : length (drop k bs) ≡ 0 = simp length-drop (omega arith) in omega arith))
      ]
