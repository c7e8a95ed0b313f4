use Rattle.tree.proofs.run_laws_stand.Goals as goal
use Rattle.tree.proofs.Runs.{law_holds, law_starts, law_steps}

pub returns : goal.returns
returns c = record {
  law_holds = λ g calls given graph routes leaves answered. law_holds g calls given answered graph routes leaves;
  law_starts = law_starts;
  law_steps = law_steps;
}
