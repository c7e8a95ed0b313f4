-- The parts of a line, cut off one after the other. Assumes nothing.
use Rattle.std.proofs.Common.{◌≡◌, ℕ, ◌+◌, ◌-◌, ◌<◌, Bool, true, false, not, is_some, List, [], ◌∷◌, length, take, drop, Some, None, Option, sym, refl, ap, ◌∙◌, subst, arith}
use Rattle.std.specs.Borrow.{Bor}
use Rattle.std.proofs.lemmas.List.{length-take-le, take_rest}
use Rattle.text.specs.Fields.{first_of, fields}
use Rattle.text.proofs.Marks.{parted_at, parted_none}
use Rattle.command.specs.Command.{Part, placed}
use Rattle.command.specs.Left.{Done}
use Rattle.command.specs.declared.fields.Fields.{Fields}

-- without a comma all that is left is the last field
pub last_field : (bs : List ℕ) (c : ℕ) → None ≡ first_of 44 bs → placed c (fields bs) ≡ record { bytes = bs; column = c } ∷ []
unfolding placed
last_field bs c e = ap (placed c) (parted_none 44 bs (sym e))

-- and else the first comma ends the first field
pub first_field : (bs : List ℕ) (c i : ℕ) → Some i ≡ first_of 44 bs → i < length bs
    → placed c (fields bs) ≡ record { bytes = take i bs; column = c } ∷ placed (c + (i + 1)) (fields (take (length bs - (i + 1)) (drop (i + 1) bs)))
unfolding placed
first_field bs c i e h =
    let next : c + length (take i bs) + 1 ≡ c + (i + 1) = let long : length (take i bs) ≡ i = length-take-le i bs (omega arith) in omega arith in
    ap (placed c) (parted_at 44 bs i (sym e))
    ∙ ap (λ n. record { bytes = take i bs; column = c } ∷ placed n (fields (drop (i + 1) bs))) next
    ∙ ap (λ r. record { bytes = take i bs; column = c } ∷ placed (c + (i + 1)) (fields r)) (sym (take_rest bs (i + 1)))

-- bytes that are left have a field
pub some_left : (bs : List ℕ) (c : ℕ) → (p : Part) × (ps : List Part) × (placed c (fields bs) ≡ p ∷ ps)
unfolding placed
some_left bs c = go (first_of 44 bs) refl
  where
    go : (o : Option ℕ) → first_of 44 bs ≡ o → (p : Part) × (ps : List Part) × (placed c (fields bs) ≡ p ∷ ps)
    go None e = (_, _, ap (placed c) (parted_none 44 bs e))
    go (Some i) e = (_, _, ap (placed c) (parted_at 44 bs i e))

pub done_is : (s : Fields) (b : Bool) → is_some s.rest ≡ not b → Done s b
done_is s b e = subst (Done s) (told b (is_some s.rest) e) (go s.rest refl)
  where
    told : (b d : Bool) → d ≡ not b → not d ≡ b
    told true d e = ap not e
    told false d e = ap not e

    go : (o : Option (Bor (List ℕ))) → s.rest ≡ o → Done s (not (is_some s.rest))
    go None f = rw f refl
    go (Some r) f = rw f (some_left r.now s.column)
