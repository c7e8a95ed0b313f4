-- What an image of a graph is. Assumes nothing.
--   down edge e q          where the bits q lead from the edge e: the end, once it is met, stays the end
--   Joined edge s v e f    the edges e and f of the vertex v lead to one leaf, or are the same edge
--   mark m e               bit e of the marks m, its value being 2 ^ e
--   Marked edge s v m      the marks m of the vertex v: the first group of edges has 0, each next group the other bit, and higher bits are 0
--   Leads order w n        the edge n of an image leads where w leads, by the numbers of the vertices
--   Starts order w         the image's start is the graph's: vertex 1, or the end, and then there are no vertices
--   Pictures g order i     i is an image of the graph g, whose vertices are numbered from 1 in this order
--   StandsFor rs g order  the vertices so numbered are those of different branching shapes of the routes' tree
--   WalksToLeaves W rs i the image's walk gives each address of W bits its leaf's length
--   ImageLaws             what holds of every image of a graph
use Rattle.std.specs.Prelude.{◌≡◌, ℕ, suc, ◌-◌, ◌/◌, ◌%◌, ◌^◌, ◌<◌, ◌≤◌, Bool, false, ◌⊎◌, ◌↔◌, List, [], ◌∷◌, length, take, Some, ◌==◌, slice_index}
use mathlib.Core.List.{Mem, Nodup}
use Rattle.bits.specs.Rows.{Bits, word}
use Rattle.tree.specs.Tree.{Routes, Shape, shapes, pushed}
use Rattle.tree.specs.Graph.{Edge, end, to, Graph, walk, LeafAt, EndsAtLeaves, Reads, OneForEach}
use Rattle.tree.specs.LeafLaws.{AtMost}
use Rattle.image.specs.Image.{Image, edges_each, edge_at, image_walk}

abbrev pub down : (ℕ → Bool → Edge) → Edge → Bits → Edge
down edge end q = end
down edge (to v) [] = to v
down edge (to v) (b ∷ q) = down edge (edge v b) q

-- both walks end after d bits, the same in both
pub record OneLeaf (edge : ℕ → Bool → Edge) (s v e f d : ℕ) : Type 0 where
  pub first : walk edge (to v) (word s e) ≡ Some d
  pub second : walk edge (to v) (word s f) ≡ Some d
  pub bits : take d (word s e) ≡ take d (word s f)

abbrev pub Joined : (ℕ → Bool → Edge) → ℕ → ℕ → ℕ → ℕ → Type 0
Joined edge s v e f = ∥ ((e ≡ f) ⊎ ((d : ℕ) × OneLeaf edge s v e f d)) ∥₁

abbrev pub mark : ℕ → ℕ → Bool
mark m e = m / 2 ^ e % 2 == 1

pub record Marked (edge : ℕ → Bool → Edge) (s v m : ℕ) : Type 0 where
  pub first : mark m 0 ≡ false
  -- side by side, two edges have the same mark exactly if they are of one group
  pub groups : (e : ℕ) → suc e < edges_each s → (mark m e ≡ mark m (suc e)) ↔ Joined edge s v e (suc e)
  pub high : m < 2 ^ edges_each s

abbrev pub Leads : List ℕ → Edge → ℕ → Type 0
Leads order end n = n ≡ 0
Leads order (to w) n = (1 ≤ n) × (n ≤ length order) × (slice_index order (n - 1) ≡ w)

abbrev pub Starts : List ℕ → Edge → Type 0
Starts order end = order ≡ []
Starts order (to v) = Leads order (to v) 1

pub record Pictures (g : Graph) (order : List ℕ) (i : Image) : Type 0 where
  -- each vertex of the graph has one number
  pub once : Nodup order
  pub same : (v : ℕ) → Mem v order ↔ Mem v g.vertices
  pub number : i.vertices ≡ length order
  pub start : Starts order g.start
  pub edges : (x e : ℕ) → x < i.vertices → e < edges_each i.stride → Leads order (down g.edge (to (slice_index order x)) (word i.stride e)) (edge_at i (suc x) e)
  pub marks : (x : ℕ) → x < i.vertices → Marked g.edge i.stride (slice_index order x) (slice_index i.marks x)

pub record StandsFor (rs : Routes) (g : Graph) (order : List ℕ) : Type 0 where
  pub some_shape : (x : ℕ) → x < length order → ∥ ((t : Shape) × Mem t (shapes (pushed rs)) × Reads g.edge (to (slice_index order x)) t) ∥₁
  pub apart : (x y : ℕ) (t : Shape) → x < length order → y < length order → Reads g.edge (to (slice_index order x)) t → Reads g.edge (to (slice_index order y)) t → x ≡ y

abbrev pub WalksToLeaves : ℕ → Routes → Image → Type 0
WalksToLeaves W rs i = (a : Bits) → length a ≡ W → (d : ℕ) → (image_walk i a ≡ Some d) ↔ LeafAt rs a d

pub record ImageLaws : Type 0 where
  -- the image's walk takes as many bits to the end as the graph's
  pub walks : (g : Graph) (order : List ℕ) (i : Image) → 1 ≤ i.stride → Pictures g order i → (a : Bits) (d : ℕ) → walk g.edge g.start a ≡ Some d → image_walk i a ≡ Some d
  -- so it gives each address its leaf's length where the graph does
  pub leaves : (W : ℕ) (rs : Routes) (g : Graph) (order : List ℕ) (i : Image) → AtMost W rs → 1 ≤ i.stride → Pictures g order i → EndsAtLeaves W rs g → WalksToLeaves W rs i
  -- and where the graph has one vertex for each different branching shape, each vertex of the image is one of them
  pub shapes : (rs : Routes) (g : Graph) (order : List ℕ) (i : Image) → Pictures g order i → OneForEach rs g → StandsFor rs g order
