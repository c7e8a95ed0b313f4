use Rattle.std.proofs.Common.{[], arith}
use Rattle.tree.specs.Tree.{pushed, shapes}
use Rattle.sizing.proofs.Sizes.{leaves_number, nodes_number}
use Rattle.sizing.proofs.census.Census.summary.Goals as goal

pub returns : goal.returns
returns c = λ rs counts. record {
  routes = counts.routes;
  nodes_told = omega (arith, nodes_number (pushed rs), counts.forks, c.saturating_add.ensures, c.saturating_add-leaves.ensures);
  leaves_told = omega (arith, leaves_number (pushed rs) [], counts.forks, c.saturating_add-leaves.ensures);
  vertices = c.count.ensures.shapes (shapes (pushed rs)) counts.holds;
}
