-- What a search for the vertex of two edges finds. Assumes nothing.
--   Has xs n z o       slot n is in use and has the 0-edge z and the 1-edge o
--   Lacks xs z o       no slot does
--   Full xs            each slot is in use
--   Suits xs n z o     slot n is free, or has the edges
--   FirstFit xs z o r  r is the first slot that suits, or none where none does
--   Spare xs free      free is a free slot, or none where each is in use
--   Placed xs z o r    r is the slot that has the edges, or none has and r is a free slot, if there is one
use Rattle.std.specs.Prelude.{◌≡◌, ℕ, ◌<◌, true, false, ◌⊎◌, List, Option, MatchOption, Result, MatchResult}
use Rattle.graph.specs.Slots.{linked, used, at}
use Rattle.graph.specs.declared.edge.Edge.{Edge}
use Rattle.graph.specs.declared.vertex.Vertex.{Vertex}

abbrev pub Has : List Vertex → ℕ → Edge → Edge → Type 0
Has xs n z o = at xs n ≡ linked z o

abbrev pub Lacks : List Vertex → Edge → Edge → Type 0
Lacks xs z o = (n : ℕ) → Has xs n z o → ⊥

abbrev pub Full : List Vertex → Type 0
Full xs = (n : ℕ) → n < 2048 → used (at xs n) ≡ true

abbrev pub Suits : List Vertex → ℕ → Edge → Edge → Type 0
Suits xs n z o = (used (at xs n) ≡ false) ⊎ Has xs n z o

abbrev pub FirstFit : List Vertex → Edge → Edge → Option ℕ → Type 0
FirstFit xs z o r = MatchOption r ((n : ℕ) → n < 2048 → Suits xs n z o → ⊥) (λ n. (n < 2048) × ((m : ℕ) → m < n → Suits xs m z o → ⊥) × Suits xs n z o)

abbrev pub Spare : List Vertex → Option ℕ → Type 0
Spare xs free = MatchOption free (Full xs) (λ n. (n < 2048) × (used (at xs n) ≡ false))

abbrev pub Placed : List Vertex → Edge → Edge → Result ℕ (Option ℕ) → Type 0
Placed xs z o r = MatchResult r (λ n. Has xs n z o) (λ free. Lacks xs z o × Spare xs free)
