-- The first mark among bytes, found from left to right, and the parts between marks. Assumes nothing.
use Rattle.std.proofs.Common.{◌≡◌, ℕ, suc, ◌+◌, ◌-◌, ◌≤◌, Bool, true, false, cond, eqb, ltb, List, [], ◌∷◌, length, take, drop, Some, None, Option, sym, refl, ap, ◌∙◌, subst, arith}
use Rattle.std.proofs.lemmas.Option.{none-some}
use Rattle.std.proofs.lemmas.List.{drop_all, take_rest}
use Rattle.std.proofs.lemmas.Bool.Decides.{nat_tests}
use Rattle.std.specs.List.{position_or_len}
use Rattle.text.specs.Fields.{one_more, first_of, moved, end_of_line, in_front, parted}

pub first_is : (m : ℕ) (bs : List ℕ) → cond (ltb (position_or_len (λ b. eqb b m) bs) (length bs)) (Some (position_or_len (λ b. eqb b m) bs)) None ≡ first_of m bs
unfolding first_of
first_is m [] = refl
first_is m (b ∷ bs) = let ih = first_is m bs in grind (arith, nat_tests)

-- where the first mark stands, the first part ends
pub parted_at : (m : ℕ) (bs : List ℕ) (i : ℕ) → first_of m bs ≡ Some i → parted m bs ≡ take i bs ∷ parted m (drop (i + 1) bs)
unfolding first_of parted
parted_at m [] i e = absurd (none-some i e)
parted_at m (b ∷ bs) i e = go (eqb b m) (first_of m bs) (λ k. parted_at m bs k) e
  where
    go : (t : Bool) (o : Option ℕ) → ((k : ℕ) → o ≡ Some k → parted m bs ≡ take k bs ∷ parted m (drop (k + 1) bs)) → cond t (Some 0) (one_more o) ≡ Some i
        → cond t ([] ∷ parted m bs) (in_front b (parted m bs)) ≡ take i (b ∷ bs) ∷ parted m (drop (i + 1) (b ∷ bs))
    go true o ih f = let z : 0 ≡ i = cc in subst (λ j. [] ∷ parted m bs ≡ take j (b ∷ bs) ∷ parted m (drop (j + 1) (b ∷ bs))) z refl
    go false None ih f = absurd (none-some i f)
    go false (Some k) ih f =
        let z : suc k ≡ i = cc in
        let s : suc k + 1 ≡ suc (k + 1) = omega arith in
        subst (λ j. in_front b (parted m bs) ≡ take j (b ∷ bs) ∷ parted m (drop (j + 1) (b ∷ bs))) z (rw s (ap (in_front b) (ih k refl)))

pub parted_none : (m : ℕ) (bs : List ℕ) → first_of m bs ≡ None → parted m bs ≡ bs ∷ []
unfolding first_of parted
parted_none m [] e = refl
parted_none m (b ∷ bs) e = go (eqb b m) (first_of m bs) (parted_none m bs) e
  where
    go : (t : Bool) (o : Option ℕ) → (o ≡ None → parted m bs ≡ bs ∷ []) → cond t (Some 0) (one_more o) ≡ None → cond t ([] ∷ parted m bs) (in_front b (parted m bs)) ≡ (b ∷ bs) ∷ []
    go true o ih f = absurd (none-some 0 (sym f))
    go false None ih f = ap (in_front b) (ih refl)
    go false (Some k) ih f = absurd (none-some (suc k) (sym f))

-- the end of the line that begins at place k
pub end_past : (bs : List ℕ) (k : ℕ) → length bs ≤ k → length bs ≡ end_of_line bs k
unfolding first_of
end_past bs k h = sym (ap (λ r. moved (length bs) k (first_of 10 r)) (drop_all k bs h))

pub end_none : (bs : List ℕ) (k : ℕ) → None ≡ first_of 10 (take (length bs - k) (drop k bs)) → length bs ≡ end_of_line bs k
end_none bs k e = ap (moved (length bs) k) (e ∙ ap (first_of 10) (take_rest bs k))

pub end_found : (bs : List ℕ) (k i : ℕ) → Some i ≡ first_of 10 (take (length bs - k) (drop k bs)) → k + i ≡ end_of_line bs k
end_found bs k i e = ap (moved (length bs) k) (e ∙ ap (first_of 10) (take_rest bs k))

-- there is a part at least
pub some_part : (m : ℕ) (bs : List ℕ) → (f : List ℕ) × (fs : List (List ℕ)) × (parted m bs ≡ f ∷ fs)
unfolding parted
some_part m [] = ([], [], refl)
some_part m (b ∷ bs) = go (eqb b m) (parted m bs)
  where
    go : (t : Bool) (ps : List (List ℕ)) → (f : List ℕ) × (fs : List (List ℕ)) × (cond t ([] ∷ ps) (in_front b ps) ≡ f ∷ fs)
    go true ps = ([], ps, refl)
    go false [] = (b ∷ [], [], refl)
    go false (p ∷ ps) = (b ∷ p, ps, refl)
