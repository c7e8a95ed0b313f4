-- Comparing prefixes by their rows is an equivalence.
use Rattle.std.proofs.Common.{ap}
use Rattle.std.specs.Cmp.{IsEquivalence, IsPartialEquivalence, partial_equiv_from_equiv}
use Rattle.bits.specs.Rows.{same}
use Rattle.bits.proofs.Members.{same_self, same_swap}
use Rattle.bits.proofs.Tests.{same_is}
use Rattle.net.specs.declared.prefix.Prefix.{Prefix}
use Rattle.net.specs.Prefix.{row_of}

pub same_row_equiv : IsEquivalence (λ (p : Prefix) (q : Prefix). same (row_of p) (row_of q))
same_row_equiv = record {
  refl = λ p. same_self (row_of p);
  symm = λ p q. same_swap (row_of p) (row_of q);
  congr = λ p q r e. ap (λ x. same x (row_of r)) (same_is (row_of p) (row_of q) e);
}

pub same_row_partial_equiv : IsPartialEquivalence (λ (p : Prefix) (q : Prefix). same (row_of p) (row_of q))
same_row_partial_equiv = partial_equiv_from_equiv same_row_equiv
