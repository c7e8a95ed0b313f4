-- An engine's state. Assumes nothing.
--   state W routes leaves e    what the engine e is to its callers, by the width of its family and by what its two stores say that they hold
use Rattle.std.specs.Prelude.{ℕ}
use Rattle.store.specs.Content.{Content}
use Rattle.engine.specs.State.{State}
use Rattle.engine.specs.declared.engine.Engine.{Engine}

abbrev pub state : {F R L : Type 0} → ℕ → (R → Content) → (L → Content) → Engine F R L → State
state W routes leaves e = record { width = W; routes = routes e.routes; leaves = leaves e.leaves; slots = e.table.slots; start = e.start }
