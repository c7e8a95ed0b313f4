use Rattle.std.proofs.Common.{◌∙◌}
use Rattle.net.proofs.Prefixes.{row_bit}
use Rattle.net.proofs.prefix.Prefix.bit.Goals as goal

pub returns : goal.returns
returns c = c.bit.ensures ∙ row_bit c.args.self.now c.args.i
