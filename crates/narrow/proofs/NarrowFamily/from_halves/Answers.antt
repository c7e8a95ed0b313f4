use Rattle.std.proofs.Common.{arith}
use Rattle.net.proofs.Families.{top_word}
use Rattle.narrow.proofs.NarrowFamily.from_halves.Goals as goal

pub returns : goal.returns
returns c = top_word 5 c.args.halves.first c.args.halves.second (omega arith)
