-- The worked example, by computing. Assumes nothing.
use Rattle.std.proofs.Common.{refl}
use Rattle.bits.specs.Rows.{word}
use Rattle.tree.specs.Example.{Example}

pub example : Example
unfolding word
example = refl
