use Rattle.std.proofs.Common.{◌*◌, ◌%◌, ◌^◌, ap, ◌∙◌, arith}
use Rattle.bits.specs.Rows.{halves}
use Rattle.net.proofs.Families.{top_half}
use Rattle.narrow.proofs.NarrowFamily.halves.Goals as goal

pub returns : goal.returns
returns c = ap (λ n. halves ((n * 2 ^ 59) % 2 ^ 64) 0) c.from.ensures ∙ top_half 5 c.args.self.now.number (omega arith) c.args.self.now.small
