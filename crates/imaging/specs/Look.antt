-- An image's answers beside a lookup's. Assumes nothing.
--   Found g rs a x          x is the leaf's length for the address a, and the hop that a lookup answers
--   Looked .. r             r is what making an image, reading it and walking an address by it answers, with what it leaves
use Rattle.std.specs.Prelude.{◌≡◌, ℕ, List, length, Some, Result, MatchResult}
use Rattle.bits.specs.Rows.{Bits}
use Rattle.refusal.specs.declared.Refusal.{Refusal}
use Rattle.tree.specs.Tree.{Routes}
use Rattle.tree.specs.Graph.{LeafAt}
use Rattle.tree.specs.Ledger.{Given, lookup, looked}
use Rattle.graph.specs.Slots.{in_use}
use Rattle.store.specs.Content.{Told}
use Rattle.engine.specs.State.{State}
use Rattle.engine.specs.Calls.{Answers}
use Rattle.reader.specs.Rows.{rows_refusal}
use Rattle.imaging.specs.Make.{Made}

pub record Found (g : Given) (rs : Routes) (a : Bits) (x : ℕ × Told) : Type 0 where
  pub leaf : LeafAt rs a x.0
  pub hop : Answers g rs (lookup a) (looked x.1)

abbrev pub Looked : Given → Routes → State → Bits → ℕ → List ℕ → List ℕ → List ℕ → List ℕ → Result (ℕ × Told) Refusal → Type 0
Looked g rs e a s es fs ms ns r = MatchResult r
    (λ x. Made e s es fs ms ns (length (in_use e.slots)) × Found g rs a x)
    (λ why. (rows_refusal es ms s (length (in_use e.slots)) ≡ Some why) × (fs ≡ es) × (ns ≡ ms))
