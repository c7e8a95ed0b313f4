use Rattle.std.proofs.Common.{◌-◌, ◌^◌, min, ap, ◌∙◌, rules}
use Rattle.bits.specs.Lists.{count}
use Rattle.paint.specs.Paint.{missing}
use Rattle.paint.proofs.Lengths.{names_some}
use Rattle.paint.proofs.Reaching.{visits_seen, only_walked}
use Rattle.paint.proofs.Adding.{Adds, from_none}
use Rattle.paint.proofs.counting.count_missing.Goals as goal

pub returns : goal.returns
returns g c = λ t h.
    let leaves = (g.L.Store.content c.args.leaves.now).map in
    from_none leaves _ _
    (visits_seen (λ n. n) _ (Adds leaves) (λ s x r s' v. let some = names_some v.at x v.row in search rules) _ _ _ _ (rw c.in-Ok.is at (c.each_leaf.ensures t (rw c.lead.ensures h))))
    ∙ ap (λ xs. min (count (missing leaves) xs) (2 ^ 64 - 1)) (only_walked _ t _)
