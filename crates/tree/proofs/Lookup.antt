-- A lookup by the leaf that a row begins with. Assumes nothing.
use Rattle.std.proofs.Common.{◌≡◌, ◌≤◌, true, false, [], ◌∷◌, length, sym, refl, ap, ◌∙◌, arith}
use mathlib.Core.List.{Mem}
use Rattle.std.proofs.lemmas.Bool.Decides.{nat_tests}
use Rattle.bits.specs.Lists.{any}
use Rattle.bits.specs.Rows.{Bits, begins}
use Rattle.tree.specs.Tree.{Route, Routes, pushed, leaves, longest, hop_of}
use Rattle.bits.proofs.Tests.{any_none}
use Rattle.bits.proofs.Begins.{begins_length}
use Rattle.tree.proofs.Above.{over, above_is, branching_is}
use Rattle.tree.proofs.Pushed.{pushed_is}
use Rattle.tree.proofs.Leaves.{leaf_is}

-- of a row that begins with q, a beginning that is no longer than q is one of q
pub within : (p q a : Bits) → begins q a ≡ true → over q p ≡ false → begins p a ≡ begins p q
within [] q a h n = refl
within (d ∷ p) q a h n = let ih = within p in grind arith

pub no_branch : (rs : Routes) (q a : Bits) → begins q a ≡ true → any (λ r. over q r.at) rs ≡ false → longest rs a ≡ longest rs q
no_branch [] q a h n = refl
no_branch (r ∷ rs) q a h n = let ih = no_branch rs q a in let same_match = within r.at q a in grind arith

module _ (rs : Routes) (q : Bits) (is_leaf : Mem q (leaves (pushed rs) [])) where
  pub nothing_below : any (λ r. over q r.at) rs ≡ false
  nothing_below = sym (branching_is rs q) ∙ sym (pushed_is rs q) ∙ ((leaf_is (pushed rs) q).0 is_leaf).ends

  -- no route that begins with a leaf is longer than the leaf
  pub no_longer : (r : Route) → Mem r rs → begins q r.at ≡ true → length r.at ≤ length q
  no_longer r m h = let none = above_is q r.at ∙ any_none _ rs nothing_below r m in grind (arith, nat_tests)

  module _ (a : Bits) (in_front : begins q a ≡ true) where
    -- so no match of a row is longer than the row's leaf
    pub match_fits : (r : Route) → Mem r rs → begins r.at a ≡ true → length r.at ≤ length q
    match_fits r m h = begins_length r.at q (sym (within r.at q a in_front (any_none _ rs nothing_below r m)) ∙ h)

    -- a row has the longest match of its leaf
    pub longest_by_leaf : longest rs a ≡ longest rs q
    longest_by_leaf = no_branch rs q a in_front nothing_below

    pub hop_by_leaf : hop_of (longest rs a) ≡ hop_of (longest rs q)
    hop_by_leaf = ap hop_of longest_by_leaf
