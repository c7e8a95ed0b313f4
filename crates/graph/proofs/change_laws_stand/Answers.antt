use Rattle.graph.proofs.Forking.{kept_same}
use Rattle.graph.proofs.Growing.{kept_then}
use Rattle.graph.proofs.Back.{forked, holds, back}
use Rattle.graph.proofs.change_laws_stand.Goals as goal

pub returns : goal.returns
returns c = record { forks = record { held = forked; kept_same = kept_same; kept_then = kept_then }; keeps = record { holds = holds; back = back } }
