use Rattle.std.proofs.Common.{rules}
use Rattle.path.proofs.Folding.{prunes}
use Rattle.path.proofs.fold.prune.Goals as goal

pub returns : goal.returns
returns g c = search (rules, prunes)
