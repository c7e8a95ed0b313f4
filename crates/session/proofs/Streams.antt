-- An input that grows byte by byte: the lines that it has ended, and the one that it has not. Assumes nothing.
use Rattle.std.proofs.Common.{◌≡◌, ℕ, Bool, true, false, cond, eqb, List, [], ◌∷◌, ◌++◌, sym, refl, ap, ◌∙◌, subst}
use Rattle.std.proofs.lemmas.List.{append-nil}
use Rattle.std.proofs.lemmas.Bool.{ne_eqb}
use Rattle.text.specs.Fields.{in_front, parted}
use Rattle.text.specs.Lines.{lines}
use Rattle.text.proofs.Marks.{some_part}
use Rattle.session.specs.Session.{all_but_last, last_of, ended, unended}

-- b behind the last part
abbrev onto_last : ℕ → List (List ℕ) → List (List ℕ)
onto_last b [] = (b ∷ []) ∷ []
onto_last b (p ∷ []) = (p ++ (b ∷ [])) ∷ []
onto_last b (p ∷ q ∷ ps) = p ∷ onto_last b (q ∷ ps)

-- one byte more, where a mark was or was not
abbrev grown : ℕ → ℕ → List (List ℕ) → List (List ℕ)
grown m b ps = cond (eqb b m) (ps ++ ([] ∷ [])) (onto_last b ps)

front_grown : (m x b : ℕ) (ps : List (List ℕ)) → (p : List ℕ) (qs : List (List ℕ)) → ps ≡ p ∷ qs → in_front x (cond (eqb b m) (ps ++ ([] ∷ [])) (onto_last b ps)) ≡ cond (eqb b m) (in_front x ps ++ ([] ∷ [])) (onto_last b (in_front x ps))
front_grown m x b ps p qs e = subst (λ (zs : List (List ℕ)). in_front x (cond (eqb b m) (zs ++ ([] ∷ [])) (onto_last b zs)) ≡ cond (eqb b m) (in_front x zs ++ ([] ∷ [])) (onto_last b (in_front x zs))) (sym e) (go (eqb b m) qs)
  where
    go : (t : Bool) (qs : List (List ℕ)) → in_front x (cond t ((p ∷ qs) ++ ([] ∷ [])) (onto_last b (p ∷ qs))) ≡ cond t (in_front x (p ∷ qs) ++ ([] ∷ [])) (onto_last b (in_front x (p ∷ qs)))
    go true qs = refl
    go false [] = refl
    go false (q ∷ qs) = refl

mark_grown : (m b : ℕ) (ps : List (List ℕ)) → (p : List ℕ) (qs : List (List ℕ)) → ps ≡ p ∷ qs → [] ∷ cond (eqb b m) (ps ++ ([] ∷ [])) (onto_last b ps) ≡ cond (eqb b m) (([] ∷ ps) ++ ([] ∷ [])) (onto_last b ([] ∷ ps))
mark_grown m b ps p qs e = subst (λ (zs : List (List ℕ)). [] ∷ cond (eqb b m) (zs ++ ([] ∷ [])) (onto_last b zs) ≡ cond (eqb b m) (([] ∷ zs) ++ ([] ∷ [])) (onto_last b ([] ∷ zs))) (sym e) (go (eqb b m))
  where
    go : (t : Bool) → [] ∷ cond t ((p ∷ qs) ++ ([] ∷ [])) (onto_last b (p ∷ qs)) ≡ cond t (([] ∷ (p ∷ qs)) ++ ([] ∷ [])) (onto_last b ([] ∷ (p ∷ qs)))
    go true = refl
    go false = refl

parted_push : (m : ℕ) (bs : List ℕ) (b : ℕ) → parted m (bs ++ (b ∷ [])) ≡ cond (eqb b m) (parted m bs ++ ([] ∷ [])) (onto_last b (parted m bs))
unfolding parted
parted_push m [] b = refl
parted_push m (x ∷ bs) b =
    let some = some_part m bs in
    ap (λ ps. cond (eqb x m) ([] ∷ ps) (in_front x ps)) (parted_push m bs b) ∙ go (eqb x m) (parted m bs) some.0 some.1 some.2
  where
    go : (t : Bool) (ps : List (List ℕ)) (p : List ℕ) (qs : List (List ℕ)) → ps ≡ p ∷ qs
        → cond t ([] ∷ cond (eqb b m) (ps ++ ([] ∷ [])) (onto_last b ps)) (in_front x (cond (eqb b m) (ps ++ ([] ∷ [])) (onto_last b ps)))
        ≡ cond (eqb b m) (cond t ([] ∷ ps) (in_front x ps) ++ ([] ∷ [])) (onto_last b (cond t ([] ∷ ps) (in_front x ps)))
    go true ps p qs e = mark_grown m b ps p qs e
    go false ps p qs e = front_grown m x b ps p qs e

-- a byte that is no line feed goes behind the line that has not ended
last_onto : (b : ℕ) (p : List ℕ) (qs : List (List ℕ)) → last_of (onto_last b (p ∷ qs)) ≡ last_of (p ∷ qs) ++ (b ∷ [])
last_onto b p [] = refl
last_onto b p (q ∷ []) = refl
last_onto b p (q ∷ r ∷ rs) = last_onto b q (r ∷ rs)

but_last_onto : (b : ℕ) (p : List ℕ) (qs : List (List ℕ)) → all_but_last (onto_last b (p ∷ qs)) ≡ all_but_last (p ∷ qs)
but_last_onto b p [] = refl
but_last_onto b p (q ∷ []) = refl
but_last_onto b p (q ∷ r ∷ rs) = ap (λ z. p ∷ z) (but_last_onto b q (r ∷ rs))

-- a line feed ends it
last_push : (p : List ℕ) (qs : List (List ℕ)) → last_of ((p ∷ qs) ++ ([] ∷ [])) ≡ []
last_push p [] = refl
last_push p (q ∷ qs) = last_push q qs

but_last_push : (p : List ℕ) (qs : List (List ℕ)) → all_but_last ((p ∷ qs) ++ ([] ∷ [])) ≡ all_but_last (p ∷ qs) ++ (last_of (p ∷ qs) ∷ [])
but_last_push p [] = refl
but_last_push p (q ∷ qs) = ap (λ z. p ∷ z) (but_last_push q qs)

module _ (bs : List ℕ) (b : ℕ) (n : b ≡ 10 → ⊥) where
  other : parted 10 (bs ++ (b ∷ [])) ≡ onto_last b (parted 10 bs)
  other = parted_push 10 bs b ∙ ap (λ t. cond t (parted 10 bs ++ ([] ∷ [])) (onto_last b (parted 10 bs))) (ne_eqb b 10 n)

  pub ended_other : ended (bs ++ (b ∷ [])) ≡ ended bs
  ended_other = let some = some_part 10 bs in ap all_but_last other ∙ subst (λ (z : List (List ℕ)). all_but_last (onto_last b z) ≡ all_but_last z) (sym some.2) (but_last_onto b some.0 some.1)

  pub unended_other : unended (bs ++ (b ∷ [])) ≡ unended bs ++ (b ∷ [])
  unended_other = let some = some_part 10 bs in ap last_of other ∙ subst (λ (z : List (List ℕ)). last_of (onto_last b z) ≡ last_of z ++ (b ∷ [])) (sym some.2) (last_onto b some.0 some.1)

module _ (bs : List ℕ) where
  feed : parted 10 (bs ++ (10 ∷ [])) ≡ parted 10 bs ++ ([] ∷ [])
  feed = parted_push 10 bs 10

  pub ended_feed : ended (bs ++ (10 ∷ [])) ≡ ended bs ++ (unended bs ∷ [])
  ended_feed = let some = some_part 10 bs in ap all_but_last feed ∙ subst (λ (z : List (List ℕ)). all_but_last (z ++ ([] ∷ [])) ≡ all_but_last z ++ (last_of z ∷ [])) (sym some.2) (but_last_push some.0 some.1)

  pub unended_feed : unended (bs ++ (10 ∷ [])) ≡ []
  unended_feed = let some = some_part 10 bs in ap last_of feed ∙ subst (λ (z : List (List ℕ)). last_of (z ++ ([] ∷ [])) ≡ []) (sym some.2) (last_push some.0 some.1)

-- the lines of an input are those that it has ended, and what follows them, if anything does
abbrev rest_lines : List ℕ → List (List ℕ)
rest_lines [] = []
rest_lines (b ∷ bs) = (b ∷ bs) ∷ []

front_whole : (b : ℕ) (p : List ℕ) (qs : List (List ℕ)) → in_front b (all_but_last (p ∷ qs) ++ rest_lines (last_of (p ∷ qs))) ≡ all_but_last (in_front b (p ∷ qs)) ++ rest_lines (last_of (in_front b (p ∷ qs)))
front_whole b [] [] = refl
front_whole b (x ∷ p) [] = refl
front_whole b p (q ∷ qs) = refl

lines_parted : (bs : List ℕ) → lines bs ≡ all_but_last (parted 10 bs) ++ rest_lines (last_of (parted 10 bs))
unfolding lines parted
lines_parted [] = refl
lines_parted (b ∷ bs) =
    let some = some_part 10 bs in
    ap (λ ls. cond (eqb b 10) ([] ∷ ls) (in_front b ls)) (lines_parted bs) ∙ go (eqb b 10) (parted 10 bs) some.0 some.1 some.2
  where
    go : (t : Bool) (ps : List (List ℕ)) (p : List ℕ) (qs : List (List ℕ)) → ps ≡ p ∷ qs
        → cond t ([] ∷ (all_but_last ps ++ rest_lines (last_of ps))) (in_front b (all_but_last ps ++ rest_lines (last_of ps)))
        ≡ all_but_last (cond t ([] ∷ ps) (in_front b ps)) ++ rest_lines (last_of (cond t ([] ∷ ps) (in_front b ps)))
    go true ps p qs e = subst (λ (z : List (List ℕ)). [] ∷ (all_but_last z ++ rest_lines (last_of z)) ≡ all_but_last ([] ∷ z) ++ rest_lines (last_of ([] ∷ z))) (sym e) refl
    go false ps p qs e = subst (λ (z : List (List ℕ)). in_front b (all_but_last z ++ rest_lines (last_of z)) ≡ all_but_last (in_front b z) ++ rest_lines (last_of (in_front b z))) (sym e) (front_whole b p qs)

pub lines_ended : (bs : List ℕ) → unended bs ≡ [] → lines bs ≡ ended bs
lines_ended bs e = lines_parted bs ∙ ap (λ z. ended bs ++ rest_lines z) e ∙ append-nil (ended bs)

pub lines_unended : (bs : List ℕ) → (unended bs ≡ [] → ⊥) → lines bs ≡ ended bs ++ (unended bs ∷ [])
lines_unended bs n = lines_parted bs ∙ ap (λ z. ended bs ++ z) (go (unended bs) n)
  where
    go : (u : List ℕ) → (u ≡ [] → ⊥) → rest_lines u ≡ u ∷ []
    go [] n = absurd (n refl)
    go (b ∷ u) n = refl
