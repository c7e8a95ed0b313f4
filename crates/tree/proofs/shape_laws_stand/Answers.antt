use Rattle.tree.proofs.shape_laws_stand.Goals as goal
use Rattle.tree.proofs.Shapes.{alike_is, mirrored}
use Rattle.tree.proofs.Paths.{on_path_is, on_path_length, only_on_path, new_on_path, together_is, together_by_path, one_step, never_fewer, path_step, after_within, rehopping}

pub returns : goal.returns
returns c = record {
  alike_is = alike_is;
  mirrored = mirrored;
  on_path_is = on_path_is;
  on_path_length = on_path_length;
  only_on_path = only_on_path;
  new_on_path = new_on_path;
  together_is = together_is;
  together_by_path = together_by_path;
  one_step = one_step;
  never_fewer = never_fewer;
  path_step = path_step;
  after_within = after_within;
  rehopping = rehopping;
}
