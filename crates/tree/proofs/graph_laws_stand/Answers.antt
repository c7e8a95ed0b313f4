use Rattle.tree.proofs.graph_laws_stand.Goals as goal
use Rattle.tree.proofs.Least.{least, reads_one}
use Rattle.tree.proofs.Tells.{leaf_at}
use Rattle.tree.proofs.Vertices.{one_for_each_holds}
use Rattle.tree.proofs.Walks.{leaf_depth, reads_end_at_leaves, ends_at_leaves_reads}

pub returns : goal.returns
returns c = record {
  least = least;
  reads_end_at_leaves = λ W rs g short. reads_end_at_leaves W rs short g;
  ends_at_leaves_reads = λ W rs g short. ends_at_leaves_reads W rs short g;
  reads_one = λ edge e s t. reads_one edge;
  leaf_at_is = leaf_at;
  one_for_each_holds = one_for_each_holds;
  leaf_depth = λ W rs a short. leaf_depth W rs short a;
}
