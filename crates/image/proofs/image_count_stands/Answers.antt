use Rattle.image.proofs.image_count_stands.Goals as goal
use Rattle.image.proofs.Count.{vertices_counted}

pub returns : goal.returns
returns c = vertices_counted
