use Rattle.std.proofs.Common.{◌-◌, length}
use Rattle.net.specs.Prefix.{row_of}
use Rattle.graph.proofs.table.Table.+grow_below.Given as goal

abbrev pub decreases-grow_below : goal.decreases-grow_below
decreases-grow_below l = length (row_of l.prefix.now) - l.depth
