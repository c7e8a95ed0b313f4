use Rattle.std.proofs.Common.{sym, ◌∙◌}
use Rattle.tree.proofs.tree_laws_stand.Goals as goal
use Rattle.tree.specs.Tree.{pushed}
use Rattle.tree.proofs.Pushed.{one_tree, pushed_is}
use Rattle.tree.proofs.Prefixes.{pushed_by_prefixes}
use Rattle.tree.proofs.Nodes.{nodes, nodes_short, leaf_nodes, shape_below, branching_shapes}
use Rattle.tree.proofs.Changes.{entering, entering_forks, striking, children, undoing, entering_beside, striking_beside, entering_node, standing_node}

pub returns : goal.returns
returns c = record {
  tree = record {
    pushed_is = pushed_is;
    one_tree = λ rs t h. one_tree t (pushed rs) (λ q. h q ∙ sym (pushed_is rs q));
    nodes = nodes;
    leaf_nodes = leaf_nodes;
    nodes_short = nodes_short;
    shape_below = shape_below;
    branching_shapes = branching_shapes;
    by_prefixes = pushed_by_prefixes;
  };
  change = record {
    entering = entering;
    entering_forks = entering_forks;
    striking = striking;
    children = children;
    undoing = undoing;
    entering_beside = entering_beside;
    striking_beside = striking_beside;
    entering_node = entering_node;
    standing_node = standing_node;
  };
}
