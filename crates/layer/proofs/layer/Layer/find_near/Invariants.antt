use Rattle.std.proofs.Common.{◌≡◌, ℕ, ◌/◌, ◌<◌, false}
use Rattle.net.specs.Prefix.{row_of}
use Rattle.store.specs.Slots.{at, holds}
use Rattle.layer.proofs.layer.Layer.find_near.Given as goal

abbrev pub invariant-loop-attempt : goal.invariant-loop-attempt
invariant-loop-attempt g l = (j : ℕ) → j < l.attempt → (i : ℕ) → i / 3 ≡ g.C.Chooser.bucket l.prefix j → holds (row_of l.prefix) (at l.self.buckets.slots i) ≡ false
