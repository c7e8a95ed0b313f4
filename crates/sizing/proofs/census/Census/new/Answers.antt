use Rattle.std.proofs.Common.{refl}
use Rattle.graph.specs.Slots.{unfolds_end}
use Rattle.sizing.proofs.census.Census.new.Goals as goal

pub returns : goal.returns
returns c = record { graph = unfolds_end; holds = c.empty.ensures.holds; routes = refl; forks = refl }
