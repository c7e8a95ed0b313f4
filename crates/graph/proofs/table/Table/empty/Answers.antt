use Rattle.std.proofs.Common.{replicate}
use Rattle.graph.specs.Slots.{blank}
use Rattle.graph.proofs.Count.{none_in_use}
use Rattle.graph.proofs.Added.{sound_blank}
use Rattle.graph.proofs.View.{none}
use Rattle.graph.proofs.table.Table.empty.Goals as goal

pub invariant_of-result-clause-sound : goal.invariant_of-result-clause-sound
invariant_of-result-clause-sound c = ∣ sound_blank 2048 ∣₁

pub returns-clause-holds : goal.returns-clause-holds
returns-clause-holds c = none (replicate 2048 blank) (none_in_use 0 2048)
