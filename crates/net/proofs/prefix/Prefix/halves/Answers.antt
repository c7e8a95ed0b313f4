use Rattle.net.proofs.Prefixes.{row_padded}
use Rattle.net.proofs.prefix.Prefix.halves.Goals as goal

pub returns : goal.returns
returns c = row_padded c.args.self.now
