use Rattle.image.proofs.worked_image_stands.Goals as goal
use Rattle.image.proofs.Worked.{worked}

pub returns : goal.returns
returns c = worked
