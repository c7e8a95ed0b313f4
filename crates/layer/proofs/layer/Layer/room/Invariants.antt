use Rattle.std.proofs.Common.{◌≡◌}
use Rattle.layer.specs.Buckets.{fill, earliest_least}
use Rattle.layer.proofs.layer.Layer.room.Given as goal

abbrev pub invariant-loop-attempt : goal.invariant-loop-attempt
invariant-loop-attempt g l =
    (l.best ≡ g.C.Chooser.bucket l.prefix (earliest_least (λ j. fill l.self.buckets.slots (g.C.Chooser.bucket l.prefix j)) l.attempt))
    × (l.least ≡ fill l.self.buckets.slots l.best)
