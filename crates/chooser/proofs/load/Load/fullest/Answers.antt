use Rattle.std.proofs.Common.{◌≡◌, refl, subst, rules}
use Rattle.std.proofs.lemmas.Fn.{fold_over, slice_gives, fronts}
use Rattle.chooser.specs.Load.{most}
use Rattle.chooser.proofs.Largest.{most_push}
use Rattle.chooser.proofs.load.Load.fullest.Goals as goal

pub returns : goal.returns
returns c = subst (λ xs. c.fold.result ≡ most xs) c.iter.ensures.rest
    (fold_over fronts (λ y. y.now) _ (λ ys top. top ≡ most ys) _ (λ ys a x b f' j k. let more = most_push ys x.now in search rules)
    _ _ _ _ (slice_gives c.iter.result) refl c.fold.ensures.ran)
