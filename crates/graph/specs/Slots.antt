-- A table of vertices, seen as the list of its slots. Assumes nothing.
--   is_end e         e is the end
--   blank            a free slot
--   linked z o       a slot in use, with the 0-edge z and the 1-edge o
--   used v           the slot is in use
--   zero_of v        its 0-edge; of a free slot, the end
--   one_of v         its 1-edge, the same
--   at xs n          slot n, and a free slot past the end
--   side_of v b      the 0-edge or the 1-edge of a slot
--   next xs e b      the 0-edge or the 1-edge of the slot that e leads to; from the end, the end
--   led xs e         the edge that e is taken for: e where it leads to a slot in use, else the end
--   Leads xs e       e leads to a slot in use or to the end
--   Unfolds xs e t   e leads, through slots in use, to the shape t
--   Sound xs         what holds of every table
--   in_use xs        the numbers of the slots in use
use Rattle.std.specs.Prelude.{◌≡◌, ℕ, suc, Bool, true, false, List, [], ◌∷◌, Some, None, is_some, slice_index_or}
use Rattle.tree.specs.Tree.{Shape, leaf, fork}
use Rattle.graph.specs.declared.edge.Edge.{Edge}
use Rattle.graph.specs.declared.edge.Edge.TheVariants.{End, To}
use Rattle.graph.specs.declared.vertex.Vertex.{Vertex}

abbrev pub is_end : Edge → Bool
is_end End = true
is_end (To n) = false

abbrev pub blank : Vertex
blank = record { edges = None }

abbrev pub linked : Edge → Edge → Vertex
linked z o = record { edges = Some (record { zero = z; one = o }) }

abbrev pub used : Vertex → Bool
used v = is_some v.edges

abbrev pub zero_of : Vertex → Edge
zero_of v = elim v.edges [ Some s ↦ s.zero | None ↦ End ]

abbrev pub one_of : Vertex → Edge
one_of v = elim v.edges [ Some s ↦ s.one | None ↦ End ]

abbrev pub at : List Vertex → ℕ → Vertex
at xs n = slice_index_or xs n blank

abbrev pub side_of : Vertex → Bool → Edge
side_of v false = zero_of v
side_of v true = one_of v

abbrev pub next : List Vertex → Edge → Bool → Edge
next xs End b = End
next xs (To n) b = side_of (at xs n) b

abbrev pub led : List Vertex → Edge → Edge
led xs End = End
led xs (To n) = elim (used (at xs n)) [ true ↦ To n | false ↦ End ]

abbrev pub Leads : List Vertex → Edge → Type 0
Leads xs End = Unit {0}
Leads xs (To n) = used (at xs n) ≡ true

pub data Unfolds (xs : List Vertex) : Edge → Shape → Type 0 where
  unfolds_end : Unfolds xs End leaf
  unfolds_to : {n : ℕ} {a b : Shape} → used (at xs n) ≡ true → Unfolds xs (zero_of (at xs n)) a → Unfolds xs (one_of (at xs n)) b → Unfolds xs (To n) (fork a b)

pub record Sound (xs : List Vertex) : Type 0 where
  pub leads : (n : ℕ) → used (at xs n) ≡ true → Leads xs (zero_of (at xs n)) × Leads xs (one_of (at xs n))
  -- so no way through the slots in use goes round
  pub unfolds : (n : ℕ) → used (at xs n) ≡ true → ∥ ((t : Shape) × Unfolds xs (To n) t) ∥₁
  pub once : (m n : ℕ) (t : Shape) → Unfolds xs (To m) t → Unfolds xs (To n) t → m ≡ n

-- the numbers of the slots in use, where the first slot has the number k
abbrev pub in_use_from : ℕ → List Vertex → List ℕ
in_use_from k [] = []
in_use_from k (v ∷ vs) = elim (used v) [ true ↦ k ∷ in_use_from (suc k) vs | false ↦ in_use_from (suc k) vs ]

abbrev pub in_use : List Vertex → List ℕ
in_use xs = in_use_from 0 xs
