use Rattle.std.proofs.Common.{rules}
use Rattle.path.proofs.Folding.{child_left, child_right}
use Rattle.path.proofs.fold.Fold.owns.Goals as goal

pub returns-then-stands : goal.returns-then-stands
returns-then-stands g c = search (rules, child_left)

pub returns-else-stands : goal.returns-else-stands
returns-else-stands g c = search (rules, child_right)
