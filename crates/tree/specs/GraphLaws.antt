-- The laws of graphs whose walks end at the leaves. Assumes nothing.
--   Least     no closed graph that ends each address's walk at its leaf's depth has fewer vertices than there are different branching shapes
use Rattle.std.specs.Prelude.{◌≡◌, ℕ, ◌≤◌, Bool, ◌↔◌, [], length, take}
use mathlib.Core.List.{Mem, Nodup}
use Rattle.bits.specs.Rows.{Bits}
use Rattle.tree.specs.Tree.{Routes, Shape, pushed, leaves, shapes}
use Rattle.tree.specs.Graph.{Edge, to, Graph, Closed, LeafAt, EndsAtLeaves, Reads, OneForEach}
use Rattle.tree.specs.Ledger.{vertices}
use Rattle.tree.specs.LeafLaws.{AtMost}

abbrev pub Least : Type 0
Least = (W : ℕ) (rs : Routes) (g : Graph) → AtMost W rs → Closed g → EndsAtLeaves W rs g → vertices rs ≤ length g.vertices

pub record GraphLaws : Type 0 where
  pub least : Least
  -- a graph whose start has the tree's shape ends each walk at its leaf's depth, and only such a graph does
  pub reads_end_at_leaves : (W : ℕ) (rs : Routes) (g : Graph) → AtMost W rs → Reads g.edge g.start (pushed rs) → EndsAtLeaves W rs g
  pub ends_at_leaves_reads : (W : ℕ) (rs : Routes) (g : Graph) → AtMost W rs → EndsAtLeaves W rs g → Reads g.edge g.start (pushed rs)
  -- an edge has one shape
  pub reads_one : (edge : ℕ → Bool → Edge) (e : Edge) (s t : Shape) → Reads edge e s → Reads edge e t → s ≡ t
  -- to be the leaf's depth is to lead to a leaf; each address has one, so its walk does reach the end
  pub leaf_at_is : (rs : Routes) (a : Bits) (d : ℕ) → LeafAt rs a d ↔ ((d ≤ length a) × Mem (take d a) (leaves (pushed rs) []))
  pub leaf_depth : (W : ℕ) (rs : Routes) (a : Bits) → AtMost W rs → length a ≡ W → (d : ℕ) × LeafAt rs a d
  -- a closed graph that starts with the tree's shape has one vertex for each shape if each vertex has a shape of the tree, and no two have the same
  pub one_for_each_holds : (rs : Routes) (g : Graph) → Closed g → Reads g.edge g.start (pushed rs) → Nodup g.vertices
      → ((v : ℕ) → Mem v g.vertices → ∥ ((t : Shape) × Mem t (shapes (pushed rs)) × Reads g.edge (to v) t) ∥₁)
      → ((v w : ℕ) (t : Shape) → Mem v g.vertices → Mem w g.vertices → Reads g.edge (to v) t → Reads g.edge (to w) t → v ≡ w)
      → OneForEach rs g
