use Rattle.bits.proofs.Pairs.{halves_padded}
use Rattle.net.proofs.ipv6.Ipv6Family.halves.Goals as goal

pub returns : goal.returns
returns c = halves_padded c.args.self.now.0.first c.args.self.now.0.second
