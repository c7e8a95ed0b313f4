-- Painting where each leaf below the node has a prefix: what it comes to as a whole. Assumes nothing.
--   Fits q t     no leaf of the tree t below the node q has more bits than a prefix may have
--   Whole        the rows xs were given the hop, or none, all of them where ok; a before, b after
--   PaintsWhole  what painting from the node q comes to, where the edge e leads to the tree below it
--   CountsWhole  n of the leaves that it reaches have no entry yet; 2 ^ 64 - 1 stands for more as well
--   PaintLaws    what `paint` and `count_missing` say comes to these
use Rattle.std.specs.Prelude.{◌≡◌, ℕ, ◌+◌, ◌-◌, ◌^◌, ◌≤◌, min, Bool, true, false, cond, List, length, is_ok, Result}
use Rattle.bits.specs.Lists.{any, count}
use Rattle.bits.specs.Rows.{Bits, same}
use Rattle.refusal.specs.declared.Refusal.{Refusal}
use Rattle.tree.specs.Tree.{Shape}
use Rattle.tree.specs.Changes.{painted}
use Rattle.store.specs.Content.{Told, Map, Content, present}
use Rattle.graph.specs.Slots.{Unfolds}
use Rattle.graph.specs.Keep.{depth}
use Rattle.graph.specs.declared.edge.Edge.{Edge}
use Rattle.graph.specs.declared.vertex.Vertex.{Vertex}
use Rattle.paint.specs.Paint.{has, missing, entries, fair, Paints, Counts}

abbrev pub Fits : Bits → Shape → Type 0
Fits q t = length q + depth t ≤ 128

pub record Whole (xs : List Bits) (hop : Told) (a b : Content) (ok : Bool) : Type 0 where
  pub limits : b.limit ≡ a.limit
  pub rows : ok ≡ true → (q : Bits) → b.map q ≡ cond (any (same q) xs) hop (a.map q)
  pub number : ok ≡ true → b.held + count (has a.map) xs ≡ a.held + entries hop xs
  -- it is refused only for want of room, and to erase is never refused
  pub room : a.held + count (missing a.map) xs ≤ a.limit → ok ≡ true
  pub none : present hop ≡ false → ok ≡ true
  -- no other row is touched, done or refused
  pub elsewhere : (q : Bits) → any (same q) xs ≡ false → b.map q ≡ a.map q

abbrev pub PaintsWhole : Map → List Vertex → Edge → Bits → Told → Content → Content → Bool → Type 0
PaintsWhole routes slots e q hop a b ok = fair hop ≡ true → (t : Shape) → Unfolds slots e t → Fits q t → Whole (painted (has routes) t q) hop a b ok

abbrev pub CountsWhole : Map → Map → List Vertex → Edge → Bits → ℕ → Type 0
CountsWhole routes leaves slots e q n = (t : Shape) → Unfolds slots e t → Fits q t → n ≡ min (count (missing leaves) (painted (has routes) t q)) (2 ^ 64 - 1)

pub record PaintLaws : Type 0 where
  pub paints : (routes : Map) (slots : List Vertex) (e : Edge) (q : Bits) (hop : Told) (a b : Content) (r : Result (Unit {0}) Refusal)
      → Paints routes slots e q hop a b r → PaintsWhole routes slots e q hop a b (is_ok r)
  pub counts : (routes leaves : Map) (slots : List Vertex) (e : Edge) (q : Bits) (n : ℕ) → Counts routes leaves slots e q n → CountsWhole routes leaves slots e q n
