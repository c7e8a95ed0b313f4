use Rattle.graph.specs.Slots.{at}
use Rattle.graph.proofs.Edges.{free_is}
use Rattle.graph.proofs.Unfold.{unfolds_one, one_edge, each_unfolds}
use Rattle.graph.proofs.View.{sides, parts, some_shapes, number, none, closed, reads_of_unfolds, one_for_each, ends}
use Rattle.graph.proofs.view_laws_stand.Goals as goal

pub returns : goal.returns
returns c = record {
  some_shape = each_unfolds;
  one_shape = λ xs e s t. unfolds_one;
  one_edge = one_edge;
  sides = sides;
  parts = parts;
  free = λ xs n. free_is (at xs n);
  some_shapes = some_shapes;
  number = number;
  none = none;
  closed = closed;
  reads = λ xs e t. reads_of_unfolds;
  one_for_each = one_for_each;
  ends = ends;
}
