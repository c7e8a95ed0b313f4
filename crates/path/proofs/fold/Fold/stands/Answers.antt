use Rattle.std.proofs.Common.{rules}
use Rattle.path.proofs.fold.Fold.stands.Goals as goal

pub returns : goal.returns
returns g c = search rules
