-- A table as a graph, whose vertices are the slots in use, and as the set of the shapes that it holds. Assumes nothing.
--   way e             an edge of the table as an edge of the graph
--   out xs v b        the 0-edge or the 1-edge of slot v, as an edge of the graph
--   graph_of xs e     the graph that starts with the edge e
--   Holds xs ss       the slots in use unfold to the shapes of the list ss, and to no other
--   ViewLaws         what holds of every sound table
--   ForkLaws         what `fork` does to the shapes that are held
--   KeepLaws         what `keep_only` leaves, and that it undoes forks
use Rattle.std.specs.Prelude.{◌≡◌, ℕ, Bool, true, false, List, [], ◌∷◌, length}
use mathlib.Core.List.{Mem}
use Rattle.bits.specs.Lists.{different}
use Rattle.tree.specs.Tree.{Routes, Shape, fork, alike, shapes, pushed}
use Rattle.tree.specs.Graph.{Edge as Way, end, to, Graph, Closed, EndsAtLeaves, Reads, OneForEach}
use Rattle.tree.specs.LeafLaws.{AtMost}
use Rattle.graph.specs.Slots.{used, blank, at, side_of, next, led, Unfolds, Sound, in_use}
use Rattle.graph.specs.Calls.{Kept, Made}
use Rattle.graph.specs.Keep.{KeptOnly}
use Rattle.graph.specs.declared.edge.Edge.{Edge}
use Rattle.graph.specs.declared.edge.Edge.TheVariants.{End, To}
use Rattle.graph.specs.declared.vertex.Vertex.{Vertex}

abbrev pub way : Edge → Way
way End = end
way (To n) = to n

abbrev pub out : List Vertex → ℕ → Bool → Way
out xs v b = way (side_of (at xs v) b)

abbrev pub graph_of : List Vertex → Edge → Graph
graph_of xs start = record { vertices = in_use xs; edge = out xs; start = way start }

pub record Holds (xs : List Vertex) (ss : List Shape) : Type 0 where
  pub only : (n : ℕ) → used (at xs n) ≡ true → ∥ ((s : Shape) × Mem s ss × Unfolds xs (To n) s) ∥₁
  pub every : (s : Shape) → Mem s ss → ∥ ((n : ℕ) × Unfolds xs (To n) s) ∥₁

pub record ViewLaws : Type 0 where
  -- each edge is taken for one that unfolds to a shape, so that no promise on shapes is silent on an edge
  pub some_shape : (xs : List Vertex) (e : Edge) → ∥ Sound xs ∥₁ → ∥ ((t : Shape) × Unfolds xs (led xs e) t) ∥₁
  -- it unfolds to one shape only, and a shape is unfolded from one edge at most
  pub one_shape : (xs : List Vertex) (e : Edge) (s t : Shape) → Unfolds xs e s → Unfolds xs e t → s ≡ t
  pub one_edge : (xs : List Vertex) (e f : Edge) (t : Shape) → ∥ Sound xs ∥₁ → Unfolds xs e t → Unfolds xs f t → e ≡ f
  -- to follow an edge is to go to a side of its shape
  pub sides : (xs : List Vertex) (e : Edge) (a b : Shape) → Unfolds xs e (fork a b) → Unfolds xs (next xs e false) a × Unfolds xs (next xs e true) b
  -- the tree below an edge is in the table whole
  pub parts : (xs : List Vertex) (e : Edge) (t s : Shape) → Unfolds xs e t → Mem s (shapes t) → ∥ ((n : ℕ) × Unfolds xs (To n) s) ∥₁
  -- a free slot is blank, so tables with the same vertices are equal
  pub free : (xs : List Vertex) (n : ℕ) → used (at xs n) ≡ false → at xs n ≡ blank
  -- as many slots are in use as different shapes are held; a table with none in use holds none
  pub some_shapes : (xs : List Vertex) → ∥ Sound xs ∥₁ → ∥ ((ss : List Shape) × Holds xs ss) ∥₁
  pub number : (xs : List Vertex) (ss : List Shape) → ∥ Sound xs ∥₁ → Holds xs ss → length (in_use xs) ≡ different alike ss
  pub none : (xs : List Vertex) → in_use xs ≡ [] → Holds xs []
  -- as a graph: closed, an edge reads what it unfolds to, and there is one vertex for each different branching shape
  pub closed : (xs : List Vertex) (e : Edge) → ∥ Sound xs ∥₁ → Closed (graph_of xs (led xs e))
  pub reads : (xs : List Vertex) (e : Edge) (t : Shape) → Unfolds xs e t → Reads (out xs) (way e) t
  pub one_for_each : (rs : Routes) (xs : List Vertex) (start : Edge) → ∥ Sound xs ∥₁ → Unfolds xs start (pushed rs) → Holds xs (shapes (pushed rs)) → OneForEach rs (graph_of xs start)
  -- where the start unfolds to the tree of the routes, the walk of each address ends at its leaf's depth
  pub ends : (W : ℕ) (rs : Routes) (xs : List Vertex) (start : Edge) → AtMost W rs → Unfolds xs start (pushed rs) → EndsAtLeaves W rs (graph_of xs start)

-- what a fork keeps is kept by any number of them
pub record ForkLaws : Type 0 where
  pub held : (xs ys : List Vertex) (ss : List Shape) (a b : Shape) (e : Edge) → Kept xs ys → Made xs ys (fork a b) e → Holds xs ss → Holds ys (fork a b ∷ ss)
  pub kept_same : (xs : List Vertex) → Kept xs xs
  pub kept_then : (xs ys zs : List Vertex) → Kept xs ys → Kept ys zs → Kept xs zs

-- xs at first, ys after some forks, zs at last
pub record KeepLaws : Type 0 where
  pub holds : (ys zs : List Vertex) (start : Edge) (t : Shape) → Unfolds ys start t → KeptOnly ys zs t → Holds zs (shapes t)
  pub back : (xs ys zs : List Vertex) (start : Edge) (t : Shape) → ∥ Sound ys ∥₁ → Unfolds xs start t → Holds xs (shapes t) → Kept xs ys → KeptOnly ys zs t → length zs ≡ length xs → zs ≡ xs
