-- What `fork` leaves, xs before and ys after, where its edges unfold to the sides of t. Assumes nothing.
--   Kept xs ys          each slot in use is as it was, and each edge unfolds to what it did
--   Unheld xs t         no edge unfolds to t
--   Made xs ys t e      e leads to the vertex of t, which was found or made
--   Refused xs ys t w   t is new and all slots are in use
--   Forked xs ys z o r  r is what `fork` answers for the edges z and o, each taken for what it leads to
use Rattle.std.specs.Prelude.{◌≡◌, ℕ, suc, ◌<◌, true, List, length, Result, MatchResult, ◌≢◌}
use Rattle.refusal.specs.declared.Refusal.{Refusal}
use Rattle.refusal.specs.declared.Refusal.TheVariants.{VerticesFull}
use Rattle.tree.specs.Tree.{Shape, fork}
use Rattle.graph.specs.Slots.{used, at, led, Unfolds, in_use}
use Rattle.graph.specs.declared.edge.Edge.{Edge}
use Rattle.graph.specs.declared.edge.Edge.TheVariants.{To}
use Rattle.graph.specs.declared.vertex.Vertex.{Vertex}

pub record Kept (xs ys : List Vertex) : Type 0 where
  pub slots : (n : ℕ) → used (at xs n) ≡ true → at ys n ≡ at xs n
  pub shapes : (e : Edge) (t : Shape) → Unfolds xs e t → Unfolds ys e t

abbrev pub Unheld : List Vertex → Shape → Type 0
Unheld xs t = (e : Edge) → Unfolds xs e t → ⊥

pub record Made (xs ys : List Vertex) (t : Shape) (e : Edge) : Type 0 where
  pub unfolds : Unfolds ys e t
  -- found: nothing changes
  pub found : (f : Edge) → Unfolds xs f t → ys ≡ xs
  -- new: there was room, and one slot more is in use
  pub room : Unheld xs t → length (in_use xs) < 2048
  pub more : Unheld xs t → length (in_use ys) ≡ suc (length (in_use xs))
  pub others : (n : ℕ) → (e ≢ To n) → at ys n ≡ at xs n

pub record Refused (xs ys : List Vertex) (t : Shape) (why : Refusal) : Type 0 where
  pub why_full : why ≡ VerticesFull
  pub new : Unheld xs t
  pub full : length (in_use xs) ≡ 2048
  pub same : ys ≡ xs

abbrev pub Forked : List Vertex → List Vertex → Edge → Edge → Result Edge Refusal → Type 0
Forked xs ys z o r = (a b : Shape) → Unfolds xs (led xs z) a → Unfolds xs (led xs o) b → MatchResult r (Made xs ys (fork a b)) (Refused xs ys (fork a b))
