-- The parts of an image of a table: the numbers of the slots, and the edges and marks of a vertex. Assumes nothing.
--   Numbers xs lead n         the numbering n has the slots in use, each with one number from 1 on, the slot that the edge `lead` leads to with 1
--   number_of ns e            the number of the vertex that an edge leads to, and 0 for the end, where ns are the numbers of the slots
--   Left o s n                n of s bits are left behind the end of a walk that tells o, and none where it does not end
--   Goes xs s v e w n         the s bits of e lead from slot v where the edge w leads, and n of them are left there
--   Drawn xs ns s v es        es are the edges of slot v, by the numbers ns of the slots
use Rattle.std.specs.Prelude.{◌≡◌, ℕ, suc, ◌+◌, ◌-◌, ◌<◌, ◌≤◌, true, List, length, Some, None, Option, slice_index}
use Rattle.bits.specs.Rows.{word}
use Rattle.tree.specs.Graph.{Edge as Way, end, to, walk}
use Rattle.graph.specs.Slots.{at, used, in_use}
use Rattle.graph.specs.View.{way, out}
use Rattle.graph.specs.declared.edge.Edge.{Edge}
use Rattle.graph.specs.declared.edge.Edge.TheVariants.{To}
use Rattle.graph.specs.declared.vertex.Vertex.{Vertex}
use Rattle.image.specs.Image.{edges_each}
use Rattle.image.specs.Picture.{down}
use Rattle.imaging.specs.declared.numbering.Numbering.{Numbering}

pub record Numbers (xs : List Vertex) (lead : Edge) (n : Numbering) : Type 0 where
  pub counted : length n.slots.items ≡ length (in_use xs)
  pub numbers : (x : ℕ) → x < length n.slots.items → (used (at xs (slice_index n.slots.items x)) ≡ true) × (slice_index n.numbers (slice_index n.slots.items x) ≡ suc x)
  pub slots : (v : ℕ) → used (at xs v) ≡ true → (1 ≤ slice_index n.numbers v) × (slice_index n.numbers v ≤ length n.slots.items) × (slice_index n.slots.items (slice_index n.numbers v - 1) ≡ v)
  pub first : (v : ℕ) → lead ≡ To v → slice_index n.slots.items 0 ≡ v

abbrev pub number_of : List ℕ → Way → ℕ
number_of ns end = 0
number_of ns (to v) = slice_index ns v

abbrev pub Left : Option ℕ → ℕ → ℕ → Type 0
Left (Some d) s n = d + n ≡ s
Left None s n = n ≡ 0

pub record Goes (xs : List Vertex) (s v e : ℕ) (w : Edge) (n : ℕ) : Type 0 where
  pub leads : way w ≡ down (out xs) (to v) (word s e)
  pub left : Left (walk (out xs) (to v) (word s e)) s n
  pub few : n ≤ s

abbrev pub Drawn : List Vertex → List ℕ → ℕ → ℕ → List ℕ → Type 0
Drawn xs ns s v es = (e : ℕ) → e < edges_each s → slice_index es e ≡ number_of ns (down (out xs) (to v) (word s e))
