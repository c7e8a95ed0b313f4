use Rattle.std.proofs.Common.{◌≡◌, [], sym, refl, ◌∙◌}
use Rattle.graph.specs.Slots.{Unfolds, unfolds_end}
use Rattle.graph.specs.View.{Holds}
use Rattle.store.specs.Content.{Sound, Empty}
use Rattle.tree.specs.Tree.{leaf}
use Rattle.tree.specs.Ledger.{Given}
use Rattle.tree.proofs.Sounds.{starts_sound}
use Rattle.engine.specs.State.{State}
use Rattle.engine.specs.Serves.{Serves}
use Rattle.engine.proofs.Looking.{no_entries}
use Rattle.engine.proofs.Running.{ran_starts}
use Rattle.engine.proofs.engine.Engine.new.Goals as goal

-- two empty stores and an empty graph serve no routes
begun : (g : Given) (s : State) → g.width ≡ s.width → Sound s.routes → Empty s.routes → s.routes.limit ≡ g.route_limit
    → Sound s.leaves → Empty s.leaves → s.leaves.limit ≡ g.leaf_limit → Unfolds s.slots s.start leaf → Holds s.slots [] → Serves g [] s
begun g s wide sound-r empty-r limit-r sound-l empty-l limit-l starts holds =
    record {
      ledger = starts_sound g;
      stored = record {
        width = wide;
        routes_sound = sound-r;
        route_hops = empty-r.rows;
        routes_held = empty-r.number;
        routes_limit = limit-r;
        leaves_sound = sound-l;
        leaf_hops = λ q. empty-l.rows q ∙ sym (no_entries q);
        leaves_held = empty-l.number;
        leaves_limit = limit-l;
      };
      starts = starts;
      holds = holds;
    }

pub returns : goal.returns
returns g c =
    let routes = c.clear.ensures in
    let leaves = c.clear-2.ensures in
    let serves = begun _ _ refl (g.met.R.Store.sound c.clear.new.self) routes.empties routes.limits (g.met.L.Store.sound c.clear-2.new.self) leaves.empties leaves.limits unfolds_end c.empty.ensures.holds in
    record { serves = serves; ran = ran_starts _ _ c.empty.result.sound serves }
