use Rattle.std.proofs.Common.{◌-◌}
use Rattle.image.specs.Image.{marks_of}
use Rattle.reader.specs.Reader.{image_of}
use Rattle.reader.proofs.Runs.{Counting}
use Rattle.reader.proofs.Steps.{Walking}
use Rattle.reader.proofs.reader.Reader.leaf_length.Given as goal

abbrev pub invariant-run : goal.invariant-run
invariant-run g l = Counting (marks_of (image_of l.self) l.vertex) l.edge l.other l.t

abbrev pub invariant-loop-taken : goal.invariant-loop-taken
invariant-loop-taken g l = Walking (image_of l.self) (g.F.Family.row l.address) l.taken l.vertex

abbrev pub decreases-loop-taken : goal.decreases-loop-taken
decreases-loop-taken g l = l.width - l.taken
