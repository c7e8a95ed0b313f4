-- What growing a path leaves, xs before and ys after, where ss lists the shapes held before and t is the grown tree. Assumes nothing.
--   New xs ys ss           each slot in use after was in use before, or unfolds to a shape of the list
--   Pathed xs ys t e       e leads to t, and no vertex was made but of a shape of t
--   Stopped xs ys t w      no vertex was made but of a shape of t, all slots are in use, and some shape of t has none
--   Paths xs ys e p r      r is one of these for the tree that e leads to, grown by the row p
--   Grown ys ss t e        e leads to t, and what is held are the shapes held before and those of t
--   Overfull ys ss t w     the shapes held before and those of t, as one set, are more than the slots
--   Grows xs ys e p r      r is one of these for the tree that e leads to, grown by the row p
use Rattle.std.specs.Prelude.{◌≡◌, ℕ, ◌<◌, ◌≤◌, true, ◌⊎◌, List, ◌++◌, length, Result, MatchResult}
use mathlib.Core.List.{Mem}
use Rattle.bits.specs.Lists.{different}
use Rattle.bits.specs.Rows.{Bits}
use Rattle.refusal.specs.declared.Refusal.{Refusal}
use Rattle.refusal.specs.declared.Refusal.TheVariants.{VerticesFull}
use Rattle.tree.specs.Tree.{Shape, shapes, alike, grown}
use Rattle.graph.specs.Slots.{used, at, led, Unfolds, in_use}
use Rattle.graph.specs.Calls.{Unheld}
use Rattle.graph.specs.View.{Holds}
use Rattle.graph.specs.declared.edge.Edge.{Edge}
use Rattle.graph.specs.declared.edge.Edge.TheVariants.{To}
use Rattle.graph.specs.declared.vertex.Vertex.{Vertex}

abbrev pub New : List Vertex → List Vertex → List Shape → Type 0
New xs ys ss = (n : ℕ) → used (at ys n) ≡ true → (used (at xs n) ≡ true) ⊎ ∥ ((s : Shape) × Mem s ss × Unfolds ys (To n) s) ∥₁

pub record Pathed (xs ys : List Vertex) (t : Shape) (e : Edge) : Type 0 where
  pub unfolds : Unfolds ys e t
  pub new : New xs ys (shapes t)

pub record Stopped (xs ys : List Vertex) (t : Shape) (why : Refusal) : Type 0 where
  pub why_full : why ≡ VerticesFull
  pub new : New xs ys (shapes t)
  pub full : length (in_use ys) ≡ 2048
  pub missing : (s : Shape) × Mem s (shapes t) × Unheld ys s

abbrev pub Paths : List Vertex → List Vertex → Edge → Bits → Result Edge Refusal → Type 0
Paths xs ys node p r = (t : Shape) → Unfolds xs (led xs node) t → MatchResult r (Pathed xs ys (grown p t)) (Stopped xs ys (grown p t))

pub record Grown (ys : List Vertex) (ss : List Shape) (t : Shape) (e : Edge) : Type 0 where
  pub unfolds : Unfolds ys e t
  pub holds : Holds ys (ss ++ shapes t)
  pub number : length (in_use ys) ≡ different alike (ss ++ shapes t)
  pub room : different alike (ss ++ shapes t) ≤ 2048

pub record Overfull (ys : List Vertex) (ss : List Shape) (t : Shape) (why : Refusal) : Type 0 where
  pub why_full : why ≡ VerticesFull
  pub many : 2048 < different alike (ss ++ shapes t)
  -- what was made on the way
  pub only : (n : ℕ) → used (at ys n) ≡ true → ∥ ((s : Shape) × Mem s (ss ++ shapes t) × Unfolds ys (To n) s) ∥₁

abbrev pub Grows : List Vertex → List Vertex → Edge → Bits → Result Edge Refusal → Type 0
Grows xs ys start p r = (t : Shape) (ss : List Shape) → Unfolds xs (led xs start) t → Holds xs ss → MatchResult r (Grown ys ss (grown p t)) (Overfull ys ss (grown p t))
