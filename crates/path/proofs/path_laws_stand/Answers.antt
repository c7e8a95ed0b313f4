use Rattle.path.proofs.path_laws_stand.Goals as goal
use Rattle.path.proofs.Laws.{at_node, at_leaf, left_hop, left_tree}

pub returns : goal.returns
returns c = record {
  at_node = at_node;
  at_leaf = at_leaf;
  left_hop = λ rs m p r once told shorter. left_hop rs m p told r once shorter;
  left_tree = left_tree;
}
