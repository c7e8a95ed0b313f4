use Rattle.std.proofs.Common.{◌≡◌, Some, subst}
use Rattle.refusal.specs.declared.Refusal.TheVariants.{ImageRows}
use Rattle.reader.specs.Rows.{rows_refusal}
use Rattle.reader.proofs.Checks.{refused_short}
use Rattle.reader.proofs.rows.check_rows.Goals as goal

pub returns-then-vertices-edges : goal.returns-then-vertices-edges
returns-then-vertices-edges c =
    let t = c.in_ok-stride.stride in
    subst (λ s. rows_refusal c.args.edges.now c.args.marks.now s c.args.vertices ≡ Some ImageRows) c.in_ok-stride.ensures.1
    (refused_short c.args.edges.now c.args.marks.now t.bits c.args.vertices t.least t.most c.then-vertices-edges.either)
