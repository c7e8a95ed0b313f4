-- The rows that a walk goes through lie below its node, and none is met twice. Assumes nothing.
use Rattle.std.proofs.Common.{◌≡◌, ◌-◌, Bool, true, false, ◌&&◌, ◌⊎◌, List, [], ◌∷◌, ◌++◌, length, sym, refl, ◌∙◌, inl, inr}
use Rattle.std.proofs.lemmas.Bool.{cases_Bool, or_cases, or_left, or_parts, or_from, true≢false}
use Rattle.bits.specs.Lists.{any}
use Rattle.bits.specs.Rows.{Bits, same, begins}
use Rattle.bits.proofs.Sets.{NoRepeats}
use Rattle.bits.proofs.Members.{any_join, same_self}
use Rattle.bits.proofs.Begins.{begins_same, begins_shorter, begins_one_side}
use Rattle.tree.specs.Tree.{Shape, leaf, fork}
use Rattle.tree.specs.Changes.{painted, unless}
use Rattle.paint.specs.Reach.{nameable, cut, walked}

-- no row is in both
abbrev Apart : List Bits → List Bits → Type 0
Apart xs ys = (q : Bits) → any (same q) ys ≡ true → any (same q) xs ≡ false

abbrev Below : Bits → List Bits → Type 0
Below q xs = (p : Bits) → any (same p) xs ≡ true → begins q p ≡ true

below_unless : (b : Bool) (q : Bits) (xs : List Bits) → Below q xs → Below q (unless b xs)
below_unless true q xs h p k = absurd (true≢false (sym k))
below_unless false q xs h p k = h p k

below_append : (q : Bits) (xs ys : List Bits) → Below q xs → Below q ys → Below q (xs ++ ys)
below_append q xs ys f g p h = elim (or_cases _ _ (sym (any_join (same p) xs ys) ∙ h)) [ inl k ↦ f p k | inr k ↦ g p k ]

repeats_unless : (b : Bool) (xs : List Bits) → NoRepeats same xs → NoRepeats same (unless b xs)
repeats_unless true xs h = tt
repeats_unless false xs h = h

repeats_join : (xs ys : List Bits) → NoRepeats same xs → NoRepeats same ys → Apart xs ys → NoRepeats same (xs ++ ys)
repeats_join [] ys h k apart = k
repeats_join (x ∷ xs) ys (new, h) k apart = (
  any_join (same x) xs ys ∙ or_from _ _ new (fresh (cases_Bool (any (same x) ys))),
  repeats_join xs ys h k (λ q e. (or_parts (same q x) _ (apart q e)).1),
)
  where
    fresh : (any (same x) ys ≡ true) ⊎ (any (same x) ys ≡ false) → any (same x) ys ≡ false
    fresh (inl e) = absurd (true≢false (sym (or_left (same x x) (any (same x) xs) (same_self x)) ∙ apart x e))
    fresh (inr e) = e

module _ (own : Bits → Bool) where
  -- what painting reaches on a side
  abbrev part : Shape → Bits → Bool → List Bits
  part t q b = unless (own (q ++ (b ∷ []))) (painted own t (q ++ (b ∷ [])))

  below_painted : (t : Shape) (q : Bits) → Below q (painted own t q)
  unfolding painted
  below_painted leaf q p h = elim (or_cases (same p q) false h) [ inl k ↦ begins_same q p k | inr k ↦ absurd (true≢false (sym k)) ]
  below_painted (fork a b) q p h =
      let left = below_painted a (q ++ (false ∷ [])) in
      let right = below_painted b (q ++ (true ∷ [])) in
      below_append q _ _
      (λ p h. begins_shorter q _ p (below_unless (own (q ++ (false ∷ []))) _ _ left p h))
      (λ p h. begins_shorter q _ p (below_unless (own (q ++ (true ∷ []))) _ _ right p h))
      p h

  -- what lies below one side does not lie below the other
  sides_apart : (a b : Shape) (q : Bits) → Apart (part a q false) (part b q true)
  sides_apart a b q p h =
      elim (cases_Bool (any (same p) (part a q false))) [
        | inl k ↦ absurd (begins_one_side q p
            (below_unless (own (q ++ (false ∷ []))) _ _ (below_painted a _) p k)
            (below_unless (own (q ++ (true ∷ []))) _ _ (below_painted b _) p h))
        | inr k ↦ k
      ]

  painted_once : (t : Shape) (q : Bits) → NoRepeats same (painted own t q)
  unfolding painted
  painted_once leaf q = (refl, tt)
  painted_once (fork a b) q =
      repeats_join (part a q false) (part b q true)
      (repeats_unless (own (q ++ (false ∷ []))) _ (painted_once a (q ++ (false ∷ []))))
      (repeats_unless (own (q ++ (true ∷ []))) _ (painted_once b (q ++ (true ∷ []))))
      (sides_apart a b q)

pub walked_once : (own : Bits → Bool) (t : Shape) (q : Bits) → NoRepeats same (walked own t q)
unfolding walked
walked_once own t q = painted_once (λ x. nameable x && own x) (cut (129 - length q) t) q
