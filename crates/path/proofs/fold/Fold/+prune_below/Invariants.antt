use Rattle.std.proofs.Common.{◌-◌, length}
use Rattle.net.specs.Prefix.{row_of}
use Rattle.path.proofs.fold.Fold.+prune_below.Given as goal

abbrev pub decreases-prune_below : goal.decreases-prune_below
decreases-prune_below g l = length (row_of l.self.now.struck.now) - l.depth
