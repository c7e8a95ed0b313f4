use Rattle.std.proofs.Common.{ap}
use Rattle.tree.proofs.leaf_laws_stand.Goals as goal
use Rattle.tree.specs.Tree.{hop_of}
use Rattle.tree.proofs.Leaves.{leaves_once}
use Rattle.tree.proofs.Longest.{longest_some, longest_none}
use Rattle.tree.proofs.Matched.{address_leaf, matched_once, matched_is, unmatched_is, match_by_leaf, none_by_leaf}

pub returns : goal.returns
returns c = record {
  leaf = record { leaves_once = leaves_once; matched_once = matched_once; one_leaf = address_leaf; matched_is = matched_is; unmatched_is = unmatched_is };
  found = record {
    longest_some = longest_some;
    longest_none = longest_none;
    match_by_leaf = match_by_leaf;
    hop_by_leaf = λ rs a q m h. ap hop_of (match_by_leaf rs a q m h);
    none_by_leaf = none_by_leaf;
  };
}
