-- Graphs, and the walks through them. Assumes nothing.
--   Edge                    leads to a vertex, by its name, or to the end
--   Graph                   vertices by their names, the 0-edge and the 1-edge of each, and a start
--   Inside g e              the edge leads to a vertex of the graph or to the end
--   Closed g                the start and both edges of each vertex do
--   walk edge e a           how many bits of the row a lead from the edge e to the end, if they get there
--   LeafAt rs a d          the leaf that the row a begins with has d bits
--   EndsAtLeaves W rs g   the walk of each row of W bits reaches the end at its leaf's depth
--   Reads edge e t          what lies behind the edge e has the shape t
--   OneForEach rs g       there is one vertex for each different branching shape, and no other vertex
use Rattle.std.specs.Prelude.{◌≡◌, ℕ, suc, ◌<◌, ◌≤◌, Bool, true, false, ◌↔◌, List, [], ◌∷◌, length, take, Some, None, Option}
use mathlib.Core.List.{Mem}
use Rattle.bits.specs.Lists.{different}
use Rattle.bits.specs.Rows.{Bits}
use Rattle.tree.specs.Tree.{Routes, Shape, leaf, fork, branching, shapes, alike, pushed}

pub data Edge : Type 0 where
  end : Edge
  to : ℕ → Edge

-- false is the 0-edge, true the 1-edge; the end is no vertex
pub record Graph : Type 0 where
  pub vertices : List ℕ
  pub edge : ℕ → Bool → Edge
  pub start : Edge

abbrev pub Inside : Graph → Edge → Type 0
Inside g end = Unit {0}
Inside g (to v) = Mem v g.vertices

pub record Closed (g : Graph) : Type 0 where
  pub starts : Inside g g.start
  pub edges : (v : ℕ) (b : Bool) → Mem v g.vertices → Inside g (g.edge v b)

abbrev pub more : Option ℕ → Option ℕ
more None = None
more (Some n) = Some (suc n)

abbrev pub walk : (ℕ → Bool → Edge) → Edge → Bits → Option ℕ
walk edge end q = Some 0
walk edge (to v) [] = None
walk edge (to v) (b ∷ q) = more (walk edge (edge v b) q)

-- its first d bits do not branch, and all shorter beginnings do
pub record LeafAt (rs : Routes) (a : Bits) (d : ℕ) : Type 0 where
  pub within : d ≤ length a
  pub ends : branching rs (take d a) ≡ false
  pub before : (k : ℕ) → k < d → branching rs (take k a) ≡ true

abbrev pub EndsAtLeaves : ℕ → Routes → Graph → Type 0
EndsAtLeaves W rs g = (a : Bits) → length a ≡ W → (d : ℕ) → (walk g.edge g.start a ≡ Some d) ↔ LeafAt rs a d

pub data Reads (edge : ℕ → Bool → Edge) : Edge → Shape → Type 0 where
  reads_end : Reads edge end leaf
  reads_to : {v : ℕ} {a b : Shape} → Reads edge (edge v false) a → Reads edge (edge v true) b → Reads edge (to v) (fork a b)

pub record OneForEach (rs : Routes) (g : Graph) : Type 0 where
  pub reads : (v : ℕ) → Mem v g.vertices → ∥ ((t : Shape) × Mem t (shapes (pushed rs)) × Reads g.edge (to v) t) ∥₁
  pub read : (t : Shape) → Mem t (shapes (pushed rs)) → ∥ ((v : ℕ) × Mem v g.vertices × Reads g.edge (to v) t) ∥₁
  pub once : (v w : ℕ) (t : Shape) → Mem v g.vertices → Mem w g.vertices → Reads g.edge (to v) t → Reads g.edge (to w) t → v ≡ w
  pub number : length g.vertices ≡ different alike (shapes (pushed rs))
