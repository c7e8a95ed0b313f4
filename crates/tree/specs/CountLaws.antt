-- How many matched leaves a change leaves, in terms that can be counted before it is made. Assumes nothing.
--   unmatched rs q     no route's prefix is a beginning of q
--   held rs            the number of matched leaves
use Rattle.std.specs.Prelude.{◌≡◌, ℕ, suc, ◌+◌, ◌-◌, ◌≤◌, Bool, true, false, not, length}
use Rattle.bits.specs.Lists.{count}
use Rattle.bits.specs.Rows.{Bits, begins}
use Rattle.tree.specs.Tree.{Routes, above, has_node, pushed, matches, matched}
use Rattle.tree.specs.Ledger.{stands, struck, entered}
use Rattle.tree.specs.Changes.{reach, twigs}
use Rattle.tree.specs.HopLaws.{Leaf}

abbrev pub unmatched : Routes → Bits → Bool
unmatched rs q = not (matches rs q)

abbrev pub held : Routes → ℕ
held rs = length (matched rs)

pub record CountLaws : Type 0 where
  -- entered at a node: those leaves that the route decides and that had no match are matched now
  pub enters_node : (rs : Routes) (p : Bits) (h : ℕ) → has_node (pushed rs) p ≡ true → held (entered rs p h) ≡ held rs + count (unmatched rs) (reach rs p)
  pub rehops : (rs : Routes) (p : Bits) (h : ℕ) → stands rs p ≡ true → held (entered rs p h) ≡ held rs
  -- entered below the leaf q, which gives way to one leaf for each bit between them, and to p
  pub twigs_number : (q p : Bits) → begins q p ≡ true → length (twigs q p) ≡ suc (length p - length q)
  pub below_unmatched : (rs : Routes) (q p : Bits) (h : ℕ) → Leaf rs q → above q p ≡ true → matches rs q ≡ false → held (entered rs p h) ≡ held rs + 1
  pub below_matched : (rs : Routes) (q p : Bits) (h : ℕ) → Leaf rs q → above q p ≡ true → matches rs q ≡ true → held (entered rs p h) ≡ held rs + (length p - length q)
  -- struck: the leaves that the route decided go where no shorter route takes them over
  pub strikes_node : (rs : Routes) (p : Bits) → stands rs p ≡ true → has_node (pushed (struck rs p)) p ≡ true
      → held rs ≡ held (struck rs p) + count (unmatched (struck rs p)) (reach rs p)
  pub strikes_covered : (rs : Routes) (p : Bits) → stands rs p ≡ true → has_node (pushed (struck rs p)) p ≡ true → matches (struck rs p) p ≡ true → held rs ≡ held (struck rs p)
  pub strikes_bare : (rs : Routes) (p : Bits) → stands rs p ≡ true → has_node (pushed (struck rs p)) p ≡ true → matches (struck rs p) p ≡ false → held rs ≡ held (struck rs p) + length (reach rs p)
  pub folds_unmatched : (rs : Routes) (q p : Bits) → stands rs p ≡ true → Leaf (struck rs p) q → above q p ≡ true → matches (struck rs p) q ≡ false → held rs ≡ held (struck rs p) + 1
  pub folds_matched : (rs : Routes) (q p : Bits) → stands rs p ≡ true → Leaf (struck rs p) q → above q p ≡ true → matches (struck rs p) q ≡ true → held rs ≡ held (struck rs p) + (length p - length q)
  pub never_more : (rs : Routes) (p : Bits) → held (struck rs p) ≤ held rs
