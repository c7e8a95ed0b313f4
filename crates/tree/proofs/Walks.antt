-- A graph whose start has the tree's shape ends each walk at its leaf's depth. Assumes nothing.
use Rattle.std.proofs.Common.{◌≡◌, ℕ, ◌<◌, Bool, true, false, [], ◌∷◌, length, Some, sym, refl, ap, ◌∙◌, arith}
use Rattle.std.proofs.lemmas.Bool.{both_ways}
use Rattle.bits.specs.Rows.{Bits}
use Rattle.tree.specs.Tree.{Routes, Shape, pushed}
use Rattle.tree.specs.Graph.{Edge, Graph, more, walk, LeafAt, EndsAtLeaves, Reads, reads_end, reads_to}
use Rattle.tree.specs.LeafLaws.{AtMost}
use Rattle.tree.proofs.Pushed.{pushed_is}
use Rattle.tree.proofs.Least.{fits_pushed, descent, LeafOf, leaf_of, follows_start, reads_of_follows}

pub walk_descends : (edge : ℕ → Bool → Edge) {e : Edge} {t : Shape} → Reads edge e t → (a : Bits) → walk edge e a ≡ descent t a
walk_descends edge reads_end a = refl
walk_descends edge (reads_to l r) [] = refl
walk_descends edge (reads_to l r) (false ∷ a) = ap more (walk_descends edge l a)
walk_descends edge (reads_to l r) (true ∷ a) = ap more (walk_descends edge r a)

-- a row has one leaf, so one depth
one_depth : (rs : Routes) (a : Bits) (d k : ℕ) → LeafAt rs a d → LeafAt rs a k → d ≡ k
one_depth rs a d k l m =
    let f : d < k → ⊥ = λ h. both_ways _ l.ends (m.before d h) in
    let g : k < d → ⊥ = λ h. both_ways _ m.ends (l.before k h) in
    grind arith

module _ (W : ℕ) (rs : Routes) (short : AtMost W rs) where
  tree_leaf : (a : Bits) → length a ≡ W → (d : ℕ) × LeafOf (pushed rs) a d
  tree_leaf a e = leaf_of (pushed rs) a (rw e (fits_pushed W rs short))

  at_leaf : (a : Bits) (d : ℕ) → LeafOf (pushed rs) a d → LeafAt rs a d
  at_leaf a d l = record { within = l.within; ends = sym (pushed_is rs _) ∙ l.ends; before = λ k h. sym (pushed_is rs _) ∙ l.before k h }

  pub leaf_depth : (a : Bits) → length a ≡ W → (d : ℕ) × LeafAt rs a d
  leaf_depth a e = let (d, l) = tree_leaf a e in (d, at_leaf a d l)

  pub reads_end_at_leaves : (g : Graph) → Reads g.edge g.start (pushed rs) → EndsAtLeaves W rs g
  reads_end_at_leaves g reads a e d =
      let (k, l) = tree_leaf a e in
      let walked : walk g.edge g.start a ≡ Some k = walk_descends g.edge reads a ∙ l.descends in
      (λ h. (let same_depth : k ≡ d = cc in rw (← same_depth) (at_leaf a k l)), λ m. walked ∙ ap Some (one_depth rs a k d (at_leaf a k l) m))

  pub ends_at_leaves_reads : (g : Graph) → EndsAtLeaves W rs g → Reads g.edge g.start (pushed rs)
  ends_at_leaves_reads g walks =
      let fits = fits_pushed W rs short in
      reads_of_follows g.edge W g.start (pushed rs) fits (follows_start W rs g fits walks)
