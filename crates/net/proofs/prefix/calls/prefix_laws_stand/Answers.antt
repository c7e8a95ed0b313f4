use Rattle.std.proofs.Common.{refl}
use Rattle.net.proofs.Prefixes.{length_row, one_for_a_row}
use Rattle.net.specs.Equality.{same_row_equiv}
use Rattle.net.proofs.prefix.calls.prefix_laws_stand.Goals as goal

pub returns-clause-laws : goal.returns-clause-laws
returns-clause-laws c = record { as_long = length_row; one_for_a_row = one_for_a_row }

pub returns-clause-equal : goal.returns-clause-equal
returns-clause-equal c = λ p q. refl

pub returns-clause-equivalence : goal.returns-clause-equivalence
returns-clause-equivalence c = same_row_equiv
