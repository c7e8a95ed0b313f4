-- The laws of the leaves and of the longest match. Assumes nothing.
--   AtMost W rs      no prefix is longer than W
--   LeafOf t a q     q is the one leaf that the row a begins with
--   Best rs q r       r is a route that q begins with, and no such route is longer
--   Unmatched rs q    q begins with no route
use Rattle.std.specs.Prelude.{◌≡◌, ℕ, ◌≤◌, true, false, ◌↔◌, [], length, Some, None, ◌≢◌}
use mathlib.Core.List.{Mem, Nodup}
use Rattle.bits.specs.Rows.{Bits, begins}
use Rattle.tree.specs.Tree.{Route, Routes, Shape, pushed, leaves, matches, matched, longest, hop_of}

abbrev pub AtMost : ℕ → Routes → Type 0
AtMost W rs = (r : Route) → Mem r rs → length r.at ≤ W

pub record LeafOf (t : Shape) (a q : Bits) : Type 0 where
  pub member : Mem q (leaves t [])
  pub front : begins q a ≡ true
  pub only_one : (u : Bits) → Mem u (leaves t []) → begins u a ≡ true → u ≡ q

pub record Best (rs : Routes) (q : Bits) (r : Route) : Type 0 where
  pub member : Mem r rs
  pub front : begins r.at q ≡ true
  pub most : (s : Route) → Mem s rs → begins s.at q ≡ true → length s.at ≤ length r.at

abbrev pub Unmatched : Routes → Bits → Type 0
Unmatched rs q = (s : Route) → Mem s rs → begins s.at q ≢ true

pub record LeafLaws : Type 0 where
  -- no leaf is listed twice
  pub leaves_once : (t : Shape) → Nodup (leaves t [])
  pub matched_once : (rs : Routes) → Nodup (matched rs)
  -- every address begins with exactly one leaf
  pub one_leaf : (W : ℕ) (rs : Routes) (a : Bits) → AtMost W rs → length a ≡ W → (q : Bits) × LeafOf (pushed rs) a q
  -- the matched leaves are those that a route is a beginning of, so those that have a hop
  pub matched_is : (rs : Routes) (q : Bits) → Mem q (matched rs) ↔ (Mem q (leaves (pushed rs) []) × (matches rs q ≡ true))
  pub unmatched_is : (rs : Routes) (q : Bits) → (hop_of (longest rs q) ≡ None) ↔ (matches rs q ≡ false)

pub record MatchLaws : Type 0 where
  -- the longest match, in words
  pub longest_some : (rs : Routes) (q : Bits) (r : Route) → longest rs q ≡ Some r → Best rs q r
  pub longest_none : (rs : Routes) (q : Bits) → (longest rs q ≡ None) ↔ Unmatched rs q
  -- an address has the longest match of its leaf, so its leaf's hop; none exactly when no route matches it
  pub match_by_leaf : (rs : Routes) (a q : Bits) → Mem q (leaves (pushed rs) []) → begins q a ≡ true → longest rs q ≡ longest rs a
  pub hop_by_leaf : (rs : Routes) (a q : Bits) → Mem q (leaves (pushed rs) []) → begins q a ≡ true → hop_of (longest rs q) ≡ hop_of (longest rs a)
  pub none_by_leaf : (rs : Routes) (a q : Bits) → Mem q (leaves (pushed rs) []) → begins q a ≡ true → (hop_of (longest rs q) ≡ None) ↔ Unmatched rs a
