-- The longest match, found by the lengths of the beginnings at which a route stands. Assumes nothing.
use Rattle.std.proofs.Common.{◌≡◌, ℕ, ◌<◌, ◌≤◌, true, false, length, take, Some, None, Option, sym, refl, ap, ◌∙◌, inl, inr, arith, length-take, take_all}
use mathlib.Core.Logic.{∥∥₁_elim}
use mathlib.Core.List.{Mem}
use mathlib.Core.Bool.{Bool-set}
use Rattle.std.proofs.lemmas.Bool.{both_ways, cases_eq}
use Rattle.bits.specs.Rows.{Bits, same}
use Rattle.tree.specs.Tree.{Route, Routes, longest, hop_of}
use Rattle.tree.specs.Ledger.{stands, struck}
use Rattle.tree.specs.LeafLaws.{Best}
use Rattle.tree.specs.HopLaws.{leaf_hop}
use Rattle.tree.specs.LedgerLaws.{Once}
use Rattle.tree.specs.StoreLaws.{hop_at}
use Rattle.bits.proofs.Tests.{same_is, never}
use Rattle.bits.proofs.Members.{same_self}
use Rattle.bits.proofs.Begins.{take_begins, begins_take, begins_length}
use Rattle.tree.proofs.Prefixes.{member_stands, stands_struck}
use Rattle.tree.proofs.Longest.{Says, says}
use Rattle.tree.proofs.Stores.{told_at, struck_hop}
use Rattle.tree.proofs.Sounds.{once_struck}

-- a route that q begins with stands at a beginning of q
best_stands : (rs : Routes) (q : Bits) (r : Route) → Best rs q r → stands rs (take (length r.at) q) ≡ true
best_stands rs q r b = ∥∥₁_elim b.member (Bool-set _ _) (λ m. rw (← begins_take r.at q b.front) (member_stands rs r m))

pub none_by_length : (rs : Routes) (q : Bits) → ((k : ℕ) → k ≤ length q → stands rs (take k q) ≡ false) → leaf_hop rs q ≡ None
none_by_length rs q none = go (longest rs q) (says rs q)
  where
    go : (o : Option Route) → Says rs q o → hop_of o ≡ None
    go None k = refl
    go (Some r) k = absurd (both_ways _ (none (length r.at) (begins_length r.at q k.front)) (best_stands rs q r k))

pub found_by_length : (rs : Routes) (q : Bits) (n h : ℕ) → Once rs → n ≤ length q → hop_at rs (take n q) ≡ Some h
    → ((k : ℕ) → n < k → k ≤ length q → stands rs (take k q) ≡ false) → leaf_hop rs q ≡ Some h
found_by_length rs q n h once within here none = go (longest rs q) (says rs q)
  where
    member : Mem (record { at = take n q; hop = h }) rs
    member = (told_at rs (take n q) h once).0 here

    long : length (take n q) ≡ n
    long = simp length-take (omega arith)

    go : (o : Option Route) → Says rs q o → hop_of o ≡ Some h
    go None k = absurd (k (record { at = take n q; hop = h }) member (take_begins n q))
    go (Some r) k =
        let most = k.most (record { at = take n q; hop = h }) member (take_begins n q) in
        let fits = begins_length r.at q k.front in
        let up : n < length r.at → ⊥ = λ l. both_ways _ (none (length r.at) l fits) (best_stands rs q r k) in
        let as_long : length r.at ≡ n = grind (arith, long) in
        let row : r.at ≡ take n q = begins_take r.at q k.front ∙ ap (λ m. take m q) as_long in
        sym ((told_at rs r.at r.hop once).1 k.member) ∙ ap (hop_at rs) row ∙ here

-- the beginnings of p that stand once p is struck
struck_begins : (rs : Routes) (p : Bits) (k : ℕ) → (k < length p → stands rs (take k p) ≡ false) → k ≤ length p → stands (struck rs p) (take k p) ≡ false
struck_begins rs p k none within =
    let s = stands_struck rs p (take k p) in
    let full : same p (take k p) ≡ false → stands rs (take k p) ≡ false = λ d. none (shorter d) in
    grind arith
  where
    shorter : same p (take k p) ≡ false → k < length p
    shorter d = elim (cases_eq k (length p)) [
      | inl e ↦ absurd (both_ways _ d (rw (take_all k p (omega arith)) (same_self p)))
      | inr n ↦ grind arith
    ]

pub next_shorter : (rs : Routes) (p : Bits) (n h : ℕ) → Once rs → n < length p → hop_at rs (take n p) ≡ Some h
    → ((k : ℕ) → n < k → k < length p → stands rs (take k p) ≡ false) → leaf_hop (struck rs p) p ≡ Some h
next_shorter rs p n h once short here none =
    found_by_length (struck rs p) p n h (once_struck rs p once) (omega arith)
    (let d : same p (take n p) ≡ false = never _ (λ e. let l = ap length (same_is p (take n p) e) in let t = length-take n p in omega arith) in let s = struck_hop rs p (take n p) in grind arith)
    (λ k more within. struck_begins rs p k (λ l. none k more l) within)

pub none_shorter : (rs : Routes) (p : Bits) → ((k : ℕ) → k < length p → stands rs (take k p) ≡ false) → leaf_hop (struck rs p) p ≡ None
none_shorter rs p none = none_by_length (struck rs p) p (λ k within. struck_begins rs p k (none k) within)
