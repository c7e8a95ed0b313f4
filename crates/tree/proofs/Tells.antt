-- What a lookup answers, and how long a row's leaf is, in words. Assumes nothing.
use Rattle.std.proofs.Common.{◌≡◌, ℕ, ◌<◌, ◌≤◌, ◌↔◌, [], length, take, Some, None, Option, sym, refl, ◌∙◌, arith, length-take, take-take}
use mathlib.Core.List.{Mem}
use Rattle.bits.specs.Rows.{Bits}
use Rattle.tree.specs.Tree.{Route, Routes, pushed, leaves, longest, hop_of}
use Rattle.tree.specs.Graph.{LeafAt}
use Rattle.tree.specs.Ledger.{looked}
use Rattle.tree.specs.Law.{Tells}
use Rattle.bits.proofs.Begins.{take_begins, begins_take}
use Rattle.tree.proofs.Pushed.{pushed_is}
use Rattle.tree.proofs.Longest.{Says, says}
use Rattle.tree.proofs.Leaves.{IsLeaf, leaf_is}

-- what a lookup answers, in the words of longest match
pub tells : (rs : Routes) (a : Bits) → Tells rs a (looked (hop_of (longest rs a)))
tells rs a = go (longest rs a) (says rs a)
  where
    go : (o : Option Route) → Says rs a o → Tells rs a (looked (hop_of o))
    go None k = k
    go (Some r) k = ∣ (r, k.member, refl, k.front, k.most) ∣₁

-- the bits that lead to a leaf
pub leaf_at : (rs : Routes) (a : Bits) (d : ℕ) → LeafAt rs a d ↔ ((d ≤ length a) × Mem (take d a) (leaves (pushed rs) []))
leaf_at rs a d = (λ l. (l.within, (leaf_is (pushed rs) (take d a)).1 (forth l)), λ h. back h.0 ((leaf_is (pushed rs) (take d a)).0 h.1))
  where
    forth : LeafAt rs a d → IsLeaf (pushed rs) (take d a)
    forth l = record {
      ends = pushed_is rs (take d a) ∙ l.ends;
      before = λ p h s.
          let short : length p < d = omega (arith, simp length-take at s) in
          let front : p ≡ take (length p) a = begins_take p (take d a) h ∙ take-take (length p) d a (omega arith) in
          rw front (pushed_is rs _ ∙ l.before (length p) short);
    }

    back : d ≤ length a → IsLeaf (pushed rs) (take d a) → LeafAt rs a d
    back w l = record {
      within = w;
      ends = sym (pushed_is rs (take d a)) ∙ l.ends;
      before = λ k s. sym (pushed_is rs (take k a)) ∙ l.before (take k a) (rw (take-take k d a (omega arith)) at (take_begins k (take d a))) (simp length-take (omega arith));
    }
