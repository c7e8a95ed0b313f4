use Rattle.std.proofs.Common.{refl}
use Rattle.image.specs.Image.{number_from, front_run, log2, steps}
use Rattle.bits.specs.Rows.{word}
use Rattle.image.proofs.cases_stand.Goals as goal

pub returns : goal.returns
unfolding number_from front_run log2 steps word
returns c = record { all_there = refl; hold = refl }
