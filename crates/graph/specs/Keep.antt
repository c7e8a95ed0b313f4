-- Marks beside the slots of a table, and what is left where only marked slots stay. Assumes nothing.
--   depth t             the length of the longest way to a leaf of t
--   marked ms n         slot n is marked
--   Marks ms e          e leads to a marked slot or to the end
--   Whole xs ms         the edges of marked slots lead to marked slots or to the end
--   Reached             what marking from an edge leaves, ms before and ns after
--   Marked              the same where nothing was marked in part before, and the budget suffices
--   Swept xs ms ys      marked slots stay, and the others are free
--   KeptOnly xs ys t   the slots in use after are those in use before that unfold to a branching shape of t
--   KeptFrom xs ys e   the same of the shape that e is taken to lead to
use Rattle.std.specs.Prelude.{◌≡◌, ℕ, suc, ◌≤◌, max, Bool, true, false, cond, ◌⊎◌, ◌↔◌, List, slice_index_or}
use mathlib.Core.List.{Mem, Memᴰ}
use Rattle.tree.specs.Tree.{Shape, leaf, fork, shapes}
use Rattle.graph.specs.Slots.{used, zero_of, one_of, blank, at, led, Unfolds}
use Rattle.graph.specs.declared.edge.Edge.{Edge}
use Rattle.graph.specs.declared.edge.Edge.TheVariants.{End, To}
use Rattle.graph.specs.declared.vertex.Vertex.{Vertex}

abbrev pub depth : Shape → ℕ
depth leaf = 0
depth (fork a b) = suc (max (depth a) (depth b))

abbrev pub marked : List Bool → ℕ → Bool
marked ms n = slice_index_or ms n false

abbrev pub Marks : List Bool → Edge → Type 0
Marks ms End = Unit {0}
Marks ms (To n) = marked ms n ≡ true

abbrev pub Whole : List Vertex → List Bool → Type 0
Whole xs ms = (n : ℕ) → marked ms n ≡ true → Marks ms (zero_of (at xs n)) × Marks ms (one_of (at xs n))

pub record Reached (xs : List Vertex) (ms ns : List Bool) (e : Edge) (t : Shape) : Type 0 where
  pub whole : Whole xs ns
  pub here : Marks ns e
  pub stay : (n : ℕ) → marked ms n ≡ true → marked ns n ≡ true
  pub only : (n : ℕ) → marked ns n ≡ true → (marked ms n ≡ true) ⊎ ((s : Shape) × Memᴰ s (shapes t) × Unfolds xs (To n) s)

abbrev pub Marked : List Vertex → List Bool → List Bool → Edge → ℕ → Type 0
Marked xs ms ns e budget = (t : Shape) → Unfolds xs e t → depth t ≤ budget → Whole xs ms → Reached xs ms ns e t

abbrev pub Swept : List Vertex → List Bool → List Vertex → Type 0
Swept xs ms ys = (n : ℕ) → at ys n ≡ cond (marked ms n) (at xs n) blank

pub record KeptOnly (xs ys : List Vertex) (t : Shape) : Type 0 where
  pub slots : (n : ℕ) → (used (at ys n) ≡ true) ↔ ((used (at xs n) ≡ true) × ∥ ((s : Shape) × Mem s (shapes t) × Unfolds xs (To n) s) ∥₁)
  pub same : (n : ℕ) → used (at ys n) ≡ true → at ys n ≡ at xs n
  -- the tree and each branching shape of it are unfolded from the edges that they were unfolded from
  pub whole : (e : Edge) → Unfolds xs e t → Unfolds ys e t
  pub parts : (e : Edge) (s : Shape) → Mem s (shapes t) → Unfolds xs e s → Unfolds ys e s

abbrev pub KeptFrom : List Vertex → List Vertex → Edge → Type 0
KeptFrom xs ys start = (t : Shape) → Unfolds xs (led xs start) t → KeptOnly xs ys t
