-- The first line of an input, and the lines behind it. Assumes nothing.
use Rattle.std.proofs.Common.{◌≡◌, ℕ, suc, ◌+◌, ◌<◌, Bool, true, false, cond, eqb, List, [], ◌∷◌, length, take, drop, Some, None, Option, sym, refl, ap, subst, arith}
use Rattle.std.proofs.lemmas.Option.{none-some}
use Rattle.text.specs.Fields.{one_more, first_of, in_front}
use Rattle.text.specs.Lines.{lines}

pub no_lines : (bs : List ℕ) → length bs ≡ 0 → lines bs ≡ []
unfolding lines
no_lines [] e = refl
no_lines (b ∷ bs) e = absurd (omega arith)

-- the line ends at the first line feed
pub lines_at : (bs : List ℕ) (i : ℕ) → Some i ≡ first_of 10 bs → lines bs ≡ take i bs ∷ lines (drop (i + 1) bs)
unfolding first_of lines
lines_at [] i e = absurd (none-some i (sym e))
lines_at (b ∷ bs) i e = go (eqb b 10) (first_of 10 bs) (λ k. lines_at bs k) e
  where
    go : (t : Bool) (o : Option ℕ) → ((k : ℕ) → Some k ≡ o → lines bs ≡ take k bs ∷ lines (drop (k + 1) bs)) → Some i ≡ cond t (Some 0) (one_more o)
        → cond t ([] ∷ lines bs) (in_front b (lines bs)) ≡ take i (b ∷ bs) ∷ lines (drop (i + 1) (b ∷ bs))
    go true o ih f = let z : 0 ≡ i = cc in subst (λ j. [] ∷ lines bs ≡ take j (b ∷ bs) ∷ lines (drop (j + 1) (b ∷ bs))) z refl
    go false None ih f = absurd (none-some i (sym f))
    go false (Some k) ih f =
        let z : suc k ≡ i = cc in
        let s : suc k + 1 ≡ suc (k + 1) = omega arith in
        subst (λ j. in_front b (lines bs) ≡ take j (b ∷ bs) ∷ lines (drop (j + 1) (b ∷ bs))) z (rw s (ap (in_front b) (ih k refl)))

-- with no line feed all of the input is one line
pub lines_one : (bs : List ℕ) → 0 < length bs → None ≡ first_of 10 bs → lines bs ≡ bs ∷ []
unfolding first_of lines
lines_one [] some e = absurd (omega arith)
lines_one (b ∷ bs) some e = go (eqb b 10) (first_of 10 bs) (rest bs (λ k h. lines_one bs k h)) e
  where
    go : (t : Bool) (o : Option ℕ) → (None ≡ o → in_front b (lines bs) ≡ (b ∷ bs) ∷ []) → None ≡ cond t (Some 0) (one_more o) → cond t ([] ∷ lines bs) (in_front b (lines bs)) ≡ (b ∷ bs) ∷ []
    go true o ih f = absurd (none-some 0 f)
    go false None ih f = ih refl
    go false (Some k) ih f = absurd (none-some (suc k) f)

    rest : (cs : List ℕ) → (0 < length cs → None ≡ first_of 10 cs → lines cs ≡ cs ∷ []) → None ≡ first_of 10 cs → in_front b (lines cs) ≡ (b ∷ cs) ∷ []
    rest [] ih h = refl
    rest (c ∷ cs) ih h = ap (in_front b) (ih (omega arith) h)
