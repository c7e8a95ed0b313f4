use Rattle.std.proofs.Common.{sym}
use Rattle.net.proofs.Prefixes.{length_row}
use Rattle.net.proofs.prefix.Prefix.len.Goals as goal

pub returns : goal.returns
returns c = sym (length_row c.args.self.now)
