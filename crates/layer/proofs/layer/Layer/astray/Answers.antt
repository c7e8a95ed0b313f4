use Rattle.std.proofs.Common.{ℕ, not, refl, ap, ◌∙◌, rules, tests}
use Rattle.std.specs.Prelude.{◌==◌}
use Rattle.std.proofs.lemmas.Iterator.{YieldsList-from_range}
use Rattle.std.proofs.lemmas.Iterator.Search.{any_from_yields_List}
use Rattle.layer.proofs.Buckets.{any_near}
use Rattle.layer.proofs.layer.Layer.astray.Goals as goal

pub returns : goal.returns
returns g c =
    let test = λ (j : ℕ). g.C.Chooser.bucket c.args.prefix.now j == c.args.bucket in
    let ran = any_from_yields_List test _ _ c.any.result c.any.ensures.ran (YieldsList-from_range 0 4 4 refl refl) (λ x b q k. search (rules, tests)) in
    ap not (ran ∙ any_near g.C.Chooser.bucket c.args.prefix.now c.args.bucket)
