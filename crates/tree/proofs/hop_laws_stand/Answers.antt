use Rattle.tree.proofs.hop_laws_stand.Goals as goal
use Rattle.tree.proofs.Twigs.{twigs_are}
use Rattle.tree.proofs.Hops.{node_or_below, reach_is, enters_node, rehops, enters_below, strikes_node, strikes_below}

pub returns : goal.returns
returns c = record {
  node_or_below = node_or_below;
  reach_is = reach_is;
  twigs_are = twigs_are;
  enters_node = λ rs p h node. enters_node rs p node h;
  rehops = rehops;
  enters_below = enters_below;
  strikes_node = strikes_node;
  strikes_below = strikes_below;
}
