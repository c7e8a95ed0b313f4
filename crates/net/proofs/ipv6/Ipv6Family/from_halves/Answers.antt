use Rattle.std.proofs.Common.{sym, arith}
use Rattle.bits.specs.Rows.{halves}
use Rattle.std.proofs.lemmas.List.{take_all}
use Rattle.bits.proofs.Pairs.{length_halves}
use Rattle.net.proofs.ipv6.Ipv6Family.from_halves.Goals as goal

pub returns : goal.returns
returns c = sym (take_all 128 (halves c.args.halves.first c.args.halves.second) (omega (arith, length_halves c.args.halves.first c.args.halves.second)))
