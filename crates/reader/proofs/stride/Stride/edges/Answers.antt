use Rattle.std.proofs.Common.{arith}
use Rattle.std.proofs.lemmas.Nat.{one_shl}
use Rattle.reader.proofs.Numbers.{power_most}
use Rattle.reader.proofs.stride.Stride.edges.Goals as goal

pub returns-clause-most : goal.returns-clause-most
returns-clause-most c = let s = c.args.self in omega (arith, one_shl s.bits 64 (omega (arith, s.most)), power_most s.bits s.most)
