use Rattle.tree.proofs.count_laws_stand.Goals as goal
use Rattle.tree.proofs.Twigs.{twigs_number}
use Rattle.tree.proofs.Counts.{enters_node, rehops, below_unmatched, below_matched, strikes_node, strikes_covered, strikes_bare, folds_unmatched, folds_matched, never_more}

pub returns : goal.returns
returns c = record {
  enters_node = enters_node;
  rehops = rehops;
  twigs_number = twigs_number;
  below_unmatched = below_unmatched;
  below_matched = below_matched;
  strikes_node = strikes_node;
  strikes_covered = strikes_covered;
  strikes_bare = strikes_bare;
  folds_unmatched = folds_unmatched;
  folds_matched = folds_matched;
  never_more = never_more;
}
