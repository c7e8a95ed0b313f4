use Rattle.std.proofs.Common.{◌≡◌, ◌*◌, length, arith}
use Rattle.line.proofs.Addresses.{address_read}
use Rattle.line.proofs.read.read_address.Goals as goal

pub returns : goal.returns
returns g c =
    let most = g.met.F.Family.most in
    let digits : 4 * length c.args.field.bytes.now ≡ g.F.Family.W = omega arith in
    address_read g.F.Family.W c.args.field.bytes.now c.hexadecimal.result c.in_ok-halves.halves (g.F.Family.row c.from_halves.result) most digits
    c.hexadecimal.ensures c.in_ok-halves.ensures.ok_part c.from_halves.ensures
