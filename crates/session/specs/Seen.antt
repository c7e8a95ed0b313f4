-- What a session shows of itself. Assumes nothing.
--   hearing W routes leaves s    what the session s is to its callers, by the width of its family and by what its two stores say that they hold
use Rattle.std.specs.Prelude.{ℕ}
use Rattle.store.specs.Content.{Content}
use Rattle.engine.specs.Seen.{state}
use Rattle.session.specs.Session.{Hearing}
use Rattle.session.specs.declared.session.Session.{Session}

abbrev pub hearing : {F R L : Type 0} → ℕ → (R → Content) → (L → Content) → Session F R L → Hearing
hearing W routes leaves s = record { engine = state W routes leaves s.engine; line = s.line }
