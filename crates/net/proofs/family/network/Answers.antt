use Rattle.std.proofs.Common.{subst, arith}
use Rattle.net.specs.Prefix.{Makes}
use Rattle.net.proofs.Families.{makes_padded}
use Rattle.net.proofs.family.network.Goals as goal

pub returns : goal.returns
returns g c =
    makes_padded g.F.Family.W c.args.len (g.F.Family.row c.args.address.now) c.new.result (g.met.F.Family.rows c.args.address.now) g.met.F.Family.most
    (let h = c.if-len-W.false in omega arith) (subst (λ r. Makes 128 r c.args.len c.new.result) c.halves.ensures c.new.ensures)
