use Rattle.tree.proofs.Worked.{example}
use Rattle.tree.proofs.worked_example_stands.Goals as goal

pub returns : goal.returns
returns c = example
