use Rattle.std.proofs.Common.{rules}
use native.Mathlib.Nat.{ℕ_set}
use mathlib.Core.Logic.{∥∥₁_elim}
use Rattle.graph.proofs.Unfold.{each_unfolds}
use Rattle.paint.specs.Paint.{Marks}
use Rattle.paint.proofs.Reaching.{visits_seen}
use Rattle.paint.proofs.Below.{walked_once}
use Rattle.paint.proofs.Marking.{painted_by, painted_limits}
use Rattle.paint.proofs.painting.paint.Goals as goal

paints : goal.returns-clause-paints
paints g c = λ t h.
    painted_by c.args.hop _ _ _ _
    (visits_seen (λ l. g.L.Store.content l) _ (Marks c.args.hop) (λ s x r s' v. search rules) _ _ _ _ (c.each_leaf.ensures t (rw c.lead.ensures h))) (walked_once _ t _)

pub returns-clause-paints : goal.returns-clause-paints
returns-clause-paints = paints

-- each edge leads to a tree
pub returns-clause-limits : goal.returns-clause-limits
returns-clause-limits g c =
    ∥∥₁_elim (each_unfolds c.args.table.now.slots c.args.edge c.args.table.now.sound) (ℕ_set _ _) λ (t, h). painted_limits _ _ _ _ c.each_leaf.result (paints g c t h)
