use Rattle.std.proofs.Common.{take, subst}
use Rattle.bits.specs.Rows.{halves}
use Rattle.net.specs.Prefix.{Makes}
use Rattle.listing.proofs.Lines.{read_known}
use Rattle.listing.proofs.under.Goals as goal

pub returns : goal.returns
returns g c =
    let W = g.F.Family.W in
    let x = c.in_ok-halves.halves in
    read_known c.args.address.now W _ c.in_ok-bits.bits _ c.network.result x c.requires g.met.F.Family.most (rw c.in_ok-bits.ensures.ok_part at c.decimal.ensures)
    (rw c.in_ok-halves.ensures.ok_part at c.hexadecimal.ensures)
    (subst (λ n. Makes W (take W (halves x.first x.second)) n c.network.result) c.from.ensures
    (subst (λ a. Makes W a c.from.result c.network.result) c.from_halves.ensures c.network.ensures))
