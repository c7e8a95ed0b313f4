use Rattle.std.proofs.Common.{Some}
use Rattle.tree.specs.Ledger.{struck, entered}
use Rattle.tree.specs.HopLaws.{leaf_hop}
use Rattle.tree.proofs.store_laws_stand.Goals as goal
use Rattle.tree.proofs.Hops.{enters_node, strikes_node, enters_below, strikes_below}
use Rattle.tree.proofs.Entries.{repainted, split_entries, fold_entries}
use Rattle.tree.proofs.Lengths.{found_by_length, none_by_length, next_shorter, none_shorter}
use Rattle.tree.proofs.Stores.{routes_told, leaves_told, routes_once, any_prefix, routes_held, leaves_held, found_at_leaf, entered_hop, struck_hop, state_holds}

pub returns : goal.returns
returns c = record {
  store = record {
    routes_told = routes_told;
    leaves_told = leaves_told;
    routes_once = routes_once;
    routes_listed = any_prefix;
    routes_held = routes_held;
    leaves_held = leaves_held;
    found_at_leaf = found_at_leaf;
    state_holds = state_holds;
  };
  entry = record {
    entered_hop = entered_hop;
    struck_hop = struck_hop;
    enters_node = λ rs p h node. repainted rs (entered rs p h) p (Some h) (enters_node rs p node h);
    strikes_node = λ rs p s node. repainted rs (struck rs p) p (leaf_hop (struck rs p) p) (strikes_node rs p s node);
    enters_below = λ rs q p h l o. split_entries rs (entered rs p h) q p (Some h) (enters_below rs q p h l o);
    strikes_below = λ rs q p s l o. fold_entries rs (struck rs p) q p (strikes_below rs q p s l o);
    found_by_length = found_by_length;
    none_by_length = none_by_length;
    next_shorter = next_shorter;
    none_shorter = none_shorter;
  };
}
