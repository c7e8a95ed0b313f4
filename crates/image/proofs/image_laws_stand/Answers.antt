use Rattle.image.proofs.image_laws_stand.Goals as goal
use Rattle.image.proofs.Laws.{image_laws}

pub returns : goal.returns
returns c = image_laws
