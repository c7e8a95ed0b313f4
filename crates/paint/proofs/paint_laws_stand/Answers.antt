use Rattle.paint.proofs.Whole.{paints_whole, counts_whole}
use Rattle.paint.proofs.paint_laws_stand.Goals as goal

pub returns : goal.returns
returns c = record { paints = paints_whole; counts = counts_whole }
