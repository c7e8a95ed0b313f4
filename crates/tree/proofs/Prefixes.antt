-- What depends on the prefixes of a list of routes alone, and which prefixes a change leaves. Assumes nothing.
use Rattle.std.proofs.Common.{◌≡◌, ℕ, Bool, true, not, ◌&&◌, ◌||◌, [], ◌∷◌, sym, ◌∙◌, arith}
use mathlib.Core.List.Memᴰ
use mathlib.Core.List.{Memᴰ}
use Rattle.bits.specs.Lists.{any}
use Rattle.bits.specs.Rows.{Bits, same, begins}
use Rattle.tree.specs.Tree.{Route, Routes, above, pushed, matches}
use Rattle.tree.specs.Ledger.{stands, struck, entered}
use Rattle.tree.specs.TreeLaws.{SamePrefixes}
use Rattle.bits.proofs.Tests.{same_is}
use Rattle.bits.proofs.Members.{same_self}
use Rattle.tree.proofs.Pushed.{one_tree, pushed_is}

any_stands : (f : Bits → Bool) (ss : Routes) (p : Bits) → stands ss p ≡ true → f p ≡ true → any (λ r. f r.at) ss ≡ true
any_stands f [] p s h = grind arith
any_stands f (r ∷ ss) p s h = let ih = any_stands f ss p in let e : same r.at p ≡ true → f r.at ≡ true = λ k. rw (same_is r.at p k) h in grind arith

any_more : (f : Bits → Bool) (rs ss : Routes) → ((p : Bits) → stands rs p ≡ true → stands ss p ≡ true) → any (λ r. f r.at) rs ≡ true → any (λ r. f r.at) ss ≡ true
any_more f [] ss sub h = grind arith
any_more f (r ∷ rs) ss sub h =
    let here = any_stands f ss r.at (sub r.at (rw (same_self r.at))) in
    let ih = any_more f rs ss (λ p s. sub p (let k = same r.at p in grind arith)) in
    grind arith

-- a test of prefixes finds the same in both
pub any_by_prefixes : (f : Bits → Bool) (rs ss : Routes) → SamePrefixes rs ss → any (λ r. f r.at) rs ≡ any (λ r. f r.at) ss
any_by_prefixes f rs ss e =
    let there = any_more f rs ss (λ p s. sym (e p) ∙ s) in
    let back = any_more f ss rs (λ p s. e p ∙ s) in
    grind arith

pub pushed_by_prefixes : (rs ss : Routes) → SamePrefixes rs ss → pushed rs ≡ pushed ss
pushed_by_prefixes rs ss e = one_tree _ _ (λ q. pushed_is rs q ∙ any_by_prefixes (above q) rs ss e ∙ sym (pushed_is ss q))

pub matches_by_prefixes : (rs ss : Routes) → SamePrefixes rs ss → (q : Bits) → matches rs q ≡ matches ss q
matches_by_prefixes rs ss e q = any_by_prefixes (λ p. begins p q) rs ss e

-- all prefixes stand but p
pub stands_struck : (rs : Routes) (p q : Bits) → stands (struck rs p) q ≡ (not (same p q) && stands rs q)
stands_struck [] p q = grind arith
stands_struck (r ∷ rs) p q =
    let ih = stands_struck rs p q in
    let e = same_is r.at p in
    let k : same r.at p ≡ true → same r.at q ≡ same p q = λ h. rw (e h) in
    let l : same p q ≡ true → same r.at q ≡ same r.at p = λ h. rw (← same_is p q h) in
    grind arith

pub stands_entered : (rs : Routes) (p : Bits) (h : ℕ) (q : Bits) → stands (entered rs p h) q ≡ (same p q || stands rs q)
stands_entered rs p h q = let k = stands_struck rs p q in grind arith

-- what was struck, entered again
pub restored : (rs : Routes) (p : Bits) (h : ℕ) → stands rs p ≡ true → SamePrefixes (record { at = p; hop = h } ∷ struck rs p) rs
restored rs p h s q = let k = stands_struck rs p q in let e : same p q ≡ true → stands rs q ≡ true = λ j. rw (← same_is p q j) s in grind arith

pub rehopped : (rs : Routes) (p : Bits) (h : ℕ) → stands rs p ≡ true → SamePrefixes (entered rs p h) rs
rehopped = restored

-- the route of each member stands
pub member_stands : (rs : Routes) (r : Route) → Memᴰ r rs → stands rs r.at ≡ true
member_stands [] r m = absurd (Memᴰ.not-nil m)
member_stands (s ∷ rs) r (Memᴰ.head e) = let k : same s.at r.at ≡ true = rw e (same_self s.at) in grind arith
member_stands (s ∷ rs) r (Memᴰ.tail m) = let ih = member_stands rs r m in grind arith
