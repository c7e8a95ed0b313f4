use Rattle.std.proofs.Common.{◌*◌, ◌%◌, ◌^◌, ap, ◌∙◌, arith}
use Rattle.bits.specs.Rows.{halves}
use Rattle.net.proofs.Families.{top_half}
use Rattle.net.proofs.ipv4.Ipv4Family.halves.Goals as goal

pub returns : goal.returns
returns c = ap (λ n. halves ((n * 2 ^ 32) % 2 ^ 64) 0) c.from.ensures ∙ top_half 32 c.args.self.now.0 (omega arith) (omega arith)
