-- The longest match once a route is entered or struck, and the leaves that no longer route covers. Assumes nothing.
use Rattle.std.proofs.Common.{◌≡◌, ℕ, ◌≤◌, Bool, true, false, cond, not, ◌&&◌, ◌||◌, ltb, ◌⊎◌, List, [], ◌∷◌, ◌++◌, length, Some, None, Option, sym, refl, ap, ◌∙◌, inl, inr, arith}
use Rattle.std.proofs.lemmas.Bool.{cases_Bool, or_parts, true≢false, and_parts, ltb-true, le-ltb}
use Rattle.std.proofs.lemmas.Bool.Decides.{nat_tests}
use Rattle.bits.specs.Lists.{any}
use Rattle.bits.specs.Rows.{Bits, same, begins}
use Rattle.tree.specs.Tree.{Route, Routes, Shape, leaf, fork, leaves, longer, longest}
use Rattle.tree.specs.Ledger.{stands, struck, entered}
use Rattle.tree.specs.Changes.{painted, unless}
use Rattle.bits.proofs.Tests.{same_is}
use Rattle.bits.proofs.Members.{any_join}
use Rattle.bits.proofs.Begins.{begins_same, begins_length, begins_shorter}

-- some route longer than p matches q
abbrev pub covered : Routes → Bits → Bits → Bool
covered rs p q = any (λ r. ltb (length p) (length r.at) && begins r.at q) rs

-- a match longer than p is the child of p on the way, or longer than that
one_longer : (a p q : Bits) (b : Bool) → begins (p ++ (b ∷ [])) q ≡ true →
    (ltb (length p) (length a) && begins a q) ≡ (same a (p ++ (b ∷ [])) || ltb (length (p ++ (b ∷ []))) (length a) && begins a q)
one_longer [] [] q b h = refl
one_longer [] (c ∷ p) q b h = grind (arith, nat_tests)
one_longer (x ∷ a) [] [] b h = absurd (true≢false (sym h))
one_longer (x ∷ []) [] (y ∷ q) b h = grind (arith, nat_tests)
one_longer (x ∷ z ∷ a) [] (y ∷ q) b h = grind (arith, nat_tests)
one_longer (x ∷ a) (c ∷ p) [] b h = absurd (true≢false (sym h))
one_longer (x ∷ a) (c ∷ p) (y ∷ q) b h = let ih = one_longer a p q b (and_parts _ _ h).1 in grind arith

covered_step : (rs : Routes) (p q : Bits) (b : Bool) → begins (p ++ (b ∷ [])) q ≡ true → covered rs p q ≡ (stands rs (p ++ (b ∷ [])) || covered rs (p ++ (b ∷ [])) q)
covered_step [] p q b h = refl
covered_step (r ∷ rs) p q b h = let ih = covered_step rs p q b h in let here = one_longer r.at p q b h in grind arith

pub covered_none : (rs : Routes) (p : Bits) → covered rs p p ≡ false
covered_none [] p = refl
covered_none (r ∷ rs) p =
    let ih = covered_none rs p in
    elim (cases_Bool (begins r.at p)) [
      | inl h ↦ (let short = le-ltb _ _ (begins_length r.at p h) in grind arith)
      | inr h ↦ grind arith
    ]

any_unless : (p : Bits → Bool) (b : Bool) (xs : List Bits) → any p (unless b xs) ≡ (not b && any p xs)
any_unless p true xs = refl
any_unless p false xs = refl

pub leaves_begin : (t : Shape) (q p : Bits) → any (same p) (leaves t q) ≡ true → begins q p ≡ true
leaves_begin leaf q p h = begins_same q p (grind arith)
leaves_begin (fork a b) q p h =
    let both = any_join (same p) (leaves a (q ++ (false ∷ []))) (leaves b (q ++ (true ∷ []))) in
    let left : any (same p) (leaves a (q ++ (false ∷ []))) ≡ true → begins q p ≡ true = λ k. begins_shorter q (false ∷ []) p (leaves_begin a _ p k) in
    let right : any (same p) (leaves b (q ++ (true ∷ []))) ≡ true → begins q p ≡ true = λ k. begins_shorter q (true ∷ []) p (leaves_begin b _ p k) in
    grind arith

joins : (A B s₀ s₁ c₀ c₁ c : Bool) → (A ≡ true → c ≡ (s₀ || c₀)) → (B ≡ true → c ≡ (s₁ || c₁)) →
    (not s₀ && (A && not c₀) || not s₁ && (B && not c₁)) ≡ ((A || B) && not c)
joins A B s₀ s₁ c₀ c₁ c f g = grind arith

-- the painted leaves are those that no longer route matches
pub painted_is : (rs : Routes) (t : Shape) (p q : Bits) → any (same q) (painted (stands rs) t p) ≡ (any (same q) (leaves t p) && not (covered rs p q))
unfolding painted
painted_is rs leaf p q =
    elim (cases_Bool (same q p)) [
      | inl h ↦ (let e = same_is q p h in let none : covered rs p q ≡ false = rw e (covered_none rs p) in grind arith)
      | inr h ↦ grind arith
    ]
painted_is rs (fork a b) p q =
    let left = painted_is rs a (p ++ (false ∷ [])) q in
    let right = painted_is rs b (p ++ (true ∷ [])) q in
    rw (any_join, any_join, any_unless, any_unless, left, right)
    (joins (any (same q) (leaves a (p ++ (false ∷ [])))) (any (same q) (leaves b (p ++ (true ∷ [])))) (stands rs (p ++ (false ∷ []))) (stands rs (p ++ (true ∷ [])))
    (covered rs (p ++ (false ∷ [])) q) (covered rs (p ++ (true ∷ [])) q) (covered rs p q)
    (λ h. covered_step rs p q false (leaves_begin a _ q h)) (λ h. covered_step rs p q true (leaves_begin b _ q h)))

-- a match longer than p
abbrev beyond : Bits → Option Route → Bool
beyond p None = false
beyond p (Some r) = ltb (length p) (length r.at)

beyond_longer : (p : Bits) (x y : Option Route) → beyond p (longer x y) ≡ (beyond p x || beyond p y)
beyond_longer p None y = refl
beyond_longer p (Some r) None = grind arith
beyond_longer p (Some r) (Some s) = grind (arith, nat_tests)

beyond_longest : (rs : Routes) (p q : Bits) → beyond p (longest rs q) ≡ covered rs p q
beyond_longest [] p q = refl
beyond_longest (r ∷ rs) p q =
    let ih = beyond_longest rs p q in
    let split = beyond_longer p (cond (begins r.at q) (Some r) None) (longest rs q) in
    elim (cases_Bool (begins r.at q)) [ inl h ↦ grind arith | inr h ↦ grind arith ]

-- of two matches the one beyond p
longer_second : (p : Bits) (r : Route) (y : Option Route) → r.at ≡ p → beyond p y ≡ true → longer (Some r) y ≡ y
longer_second p r None e h = absurd (true≢false (sym h))
longer_second p r (Some s) e h = let l = ap length e in grind (arith, nat_tests)

longer_first : (p : Bits) (r : Route) (y : Option Route) → length p ≤ length r.at → beyond p y ≡ false → longer (Some r) y ≡ Some r
longer_first p r None l h = refl
longer_first p r (Some s) l h = grind (arith, nat_tests)

struck_covered : (rs : Routes) (p q : Bits) → covered (struck rs p) p q ≡ covered rs p q
struck_covered [] p q = refl
struck_covered (r ∷ rs) p q =
    let ih = struck_covered rs p q in
    elim (cases_Bool (same r.at p)) [
      | inl h ↦ (let e = ap length (same_is r.at p h) in grind (arith, nat_tests))
      | inr h ↦ grind arith
    ]

pub struck_drop : (r : Route) (rs : Routes) (p : Bits) → same r.at p ≡ true → struck (r ∷ rs) p ≡ struck rs p
struck_drop r rs p h = grind arith

pub struck_keep : (r : Route) (rs : Routes) (p : Bits) → same r.at p ≡ false → struck (r ∷ rs) p ≡ r ∷ struck rs p
struck_keep r rs p h = grind arith

-- without the routes of p the longest match is the same, if it is longer or p does not match
pub struck_longest : (rs : Routes) (p q : Bits) → (covered rs p q || not (begins p q)) ≡ true → longest (struck rs p) q ≡ longest rs q
struck_longest [] p q h = refl
struck_longest (r ∷ rs) p q h = go (cases_Bool (same r.at p)) (cases_Bool (begins p q)) (cases_Bool (covered rs p q)) (struck_longest rs p q)
  where
    go : (same r.at p ≡ true) ⊎ (same r.at p ≡ false) → (begins p q ≡ true) ⊎ (begins p q ≡ false) → (covered rs p q ≡ true) ⊎ (covered rs p q ≡ false) →
        ((covered rs p q || not (begins p q)) ≡ true → longest (struck rs p) q ≡ longest rs q) → longest (struck (r ∷ rs) p) q ≡ longest (r ∷ rs) q
    go (inl s) (inl b) (inl c) ih =
        let e = same_is r.at p s in
        let here : begins r.at q ≡ true = rw e b in
        rw (struck_drop r rs p s, here) (ih (rw c) ∙ sym (longer_second p r (longest rs q) e (beyond_longest rs p q ∙ c)))
    go (inl s) (inl b) (inr c) ih = let l = ap length (same_is r.at p s) in absurd (grind (arith, nat_tests))
    go (inl s) (inr b) c ih =
        let here : begins r.at q ≡ false = rw (same_is r.at p s) b in
        rw (struck_drop r rs p s, here) (ih (grind arith))
    go (inr s) b (inl c) ih = rw (struck_keep r rs p s, ih (rw c))
    go (inr s) (inr b) (inr c) ih = rw (struck_keep r rs p s, ih (grind arith))
    go (inr s) (inl b) (inr c) ih =
        let first : (ltb (length p) (length r.at) && begins r.at q) ≡ true = grind arith in
        let parts = and_parts (ltb (length p) (length r.at)) (begins r.at q) first in
        let l : length p ≤ length r.at = omega (arith, ltb-true (length p) (length r.at) parts.0) in
        rw (struck_keep r rs p s, parts.1)
        (longer_first p r (longest (struck rs p) q) l (beyond_longest (struck rs p) p q ∙ struck_covered rs p q ∙ c)
        ∙ sym (longer_first p r (longest rs q) l (beyond_longest rs p q ∙ c)))

pub struck_elsewhere : (rs : Routes) (p q : Bits) → begins p q ≡ false → longest (struck rs p) q ≡ longest rs q
struck_elsewhere rs p q b = struck_longest rs p q (grind arith)

pub struck_under : (rs : Routes) (p q : Bits) → covered rs p q ≡ true → longest (struck rs p) q ≡ longest rs q
struck_under rs p q c = struck_longest rs p q (grind arith)

pub entered_elsewhere : (rs : Routes) (p : Bits) (h : ℕ) (q : Bits) → begins p q ≡ false → longest (entered rs p h) q ≡ longest rs q
entered_elsewhere rs p h q b = rw b (struck_elsewhere rs p q b)

pub entered_under : (rs : Routes) (p : Bits) (h : ℕ) (q : Bits) → begins p q ≡ true → covered rs p q ≡ true → longest (entered rs p h) q ≡ longest rs q
entered_under rs p h q b c =
    let e : longest (struck rs p) q ≡ longest rs q = struck_under rs p q c in
    rw (b, e) (longer_second p (record { at = p; hop = h }) (longest rs q) refl (beyond_longest rs p q ∙ c))

pub entered_here : (rs : Routes) (p : Bits) (h : ℕ) (q : Bits) → begins p q ≡ true → covered rs p q ≡ false → longest (entered rs p h) q ≡ Some (record { at = p; hop = h })
entered_here rs p h q b c =
    rw b (longer_first p (record { at = p; hop = h }) (longest (struck rs p) q) (omega arith) (beyond_longest (struck rs p) p q ∙ struck_covered rs p q ∙ c))

-- a match of q that is not longer than p matches p
begins_both : (a p q : Bits) → begins p q ≡ true → (ltb (length p) (length a) && begins a q) ≡ false → begins a q ≡ begins a p
begins_both [] p q b h = refl
begins_both (x ∷ a) [] q b h = grind (arith, nat_tests)
begins_both (x ∷ a) (c ∷ p) [] b h = absurd (true≢false (sym b))
begins_both (x ∷ a) (c ∷ p) (y ∷ q) b h = let ih = begins_both a p q in grind arith

near_longest : (rs : Routes) (p q : Bits) → begins p q ≡ true → covered rs p q ≡ false → longest rs q ≡ longest rs p
near_longest [] p q b c = refl
near_longest (r ∷ rs) p q b c =
    let parts = or_parts (ltb (length p) (length r.at) && begins r.at q) (covered rs p q) c in
    rw (begins_both r.at p q b parts.0, near_longest rs p q b parts.1)

-- what no longer route covers has p's own longest match, once the route of p is struck
pub struck_here : (rs : Routes) (p q : Bits) → begins p q ≡ true → covered rs p q ≡ false → longest (struck rs p) q ≡ longest (struck rs p) p
struck_here rs p q b c = near_longest (struck rs p) p q b (struck_covered rs p q ∙ c)
