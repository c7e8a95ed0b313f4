use Rattle.engine_trial.proofs.census.Census.+visit.Given as goal

abbrev pub decreases-visit : goal.decreases-visit
decreases-visit l = l.deepest
