use Rattle.layer.proofs.Buckets.{earliest_least_is}
use Rattle.layer.proofs.choice_law_stands.Goals as goal

pub returns : goal.returns
returns c = earliest_least_is
