-- What making an image answers and leaves. Assumes nothing.
--   picture es ms s V          the image of these rows, this stride and this number of vertices
--   Rooted xs start            the start is the end only where no vertex is in use
--   Images xs start s .. V     the rows hold an image of the table's graph with V vertices, and behind it what they held; es and ms before, fs and ns after
--   Made e s .. V              the same of an engine of the state e, with the rows long enough and V the number of vertices in use
--   Makes e s .. r             r is what making the image answers, with what it leaves
--   Shows rs e i               the image's walk gives each address of the engine's width its leaf's length, and its vertices are the different branching shapes
use Rattle.std.specs.Prelude.{◌≡◌, ℕ, ◌*◌, List, [], length, drop, Some, None, Result, MatchResult}
use Rattle.refusal.specs.declared.Refusal.{Refusal}
use Rattle.tree.specs.Tree.{Routes}
use Rattle.tree.specs.Ledger.{vertices}
use Rattle.graph.specs.Slots.{led, in_use}
use Rattle.graph.specs.View.{graph_of}
use Rattle.graph.specs.declared.edge.Edge.{Edge}
use Rattle.graph.specs.declared.edge.Edge.TheVariants.{End}
use Rattle.graph.specs.declared.vertex.Vertex.{Vertex}
use Rattle.engine.specs.State.{State}
use Rattle.image.specs.Image.{Image, edges_each}
use Rattle.image.specs.Picture.{Pictures, StandsFor, WalksToLeaves}
use Rattle.reader.specs.Rows.{rows_refusal}

abbrev pub picture : List ℕ → List ℕ → ℕ → ℕ → Image
picture es ms s V = record { edges = es; marks = ms; stride = s; vertices = V }

abbrev pub Rooted : List Vertex → Edge → Type 0
Rooted xs start = led xs start ≡ End → in_use xs ≡ []

pub record Images (xs : List Vertex) (start : Edge) (s : ℕ) (es fs ms ns : List ℕ) (V : ℕ) : Type 0 where
  -- the numbering of the vertices is free
  pub pictures : Rooted xs start → (order : List ℕ) × Pictures (graph_of xs (led xs start)) order (picture fs ns s V)
  pub edges_behind : drop (V * edges_each s) fs ≡ drop (V * edges_each s) es
  pub marks_behind : drop V ns ≡ drop V ms

pub record Made (e : State) (s : ℕ) (es fs ms ns : List ℕ) (V : ℕ) : Type 0 where
  pub granted : rows_refusal es ms s V ≡ None
  pub number : V ≡ length (in_use e.slots)
  pub images : Images e.slots e.start s es fs ms ns V

abbrev pub Makes : State → ℕ → List ℕ → List ℕ → List ℕ → List ℕ → Result ℕ Refusal → Type 0
Makes e s es fs ms ns r = MatchResult r (Made e s es fs ms ns) (λ why. (rows_refusal es ms s (length (in_use e.slots)) ≡ Some why) × (fs ≡ es) × (ns ≡ ms))

pub record Shows (rs : Routes) (e : State) (i : Image) : Type 0 where
  pub leaves : WalksToLeaves e.width rs i
  pub shapes : (order : List ℕ) × Pictures (graph_of e.slots e.start) order i × StandsFor rs (graph_of e.slots e.start) order
  pub number : i.vertices ≡ vertices rs
