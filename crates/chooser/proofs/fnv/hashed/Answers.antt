use Rattle.std.proofs.Common.{◌≡◌, refl, subst, rules}
use Rattle.std.proofs.lemmas.Fn.{fold_over, slice_gives, fronts}
use Rattle.chooser.specs.Fnv.{hashed}
use Rattle.chooser.proofs.Hashes.{hashed_push}
use Rattle.chooser.proofs.fnv.hashed.Goals as goal

pub returns : goal.returns
unfolding hashed
returns c = subst (λ bs. c.fold.result ≡ hashed c.args.hash bs) c.iter.ensures.rest
    (fold_over fronts (λ y. y.now) _ (λ ys h. h ≡ hashed c.args.hash ys) _ (λ ys a x b f' j k. let more = hashed_push c.args.hash ys x.now in search rules)
    _ _ _ _ (slice_gives c.iter.result) refl c.fold.ensures.ran)
