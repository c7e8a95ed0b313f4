-- An image has as many vertices as there are different branching shapes. Assumes nothing.
use Rattle.std.proofs.Common.{◌≡◌, ℕ, ◌≤◌, eqb, List, length, refl, arith}
use mathlib.Core.Logic.{∥∥₁_map}
use Rattle.std.proofs.lemmas.Bool.Decides.{nat_tests}
use Rattle.bits.proofs.Sets.{Equality, different_injected, different_no_repeats}
use Rattle.bits.proofs.Each.{no_repeats}
use Rattle.tree.specs.Tree.{Routes, pushed, shapes}
use Rattle.tree.specs.Graph.{to, Graph, Reads, OneForEach}
use Rattle.tree.specs.Ledger.{vertices}
use Rattle.tree.proofs.Shapes.{alike_equality}
use Rattle.tree.proofs.Least.{reads_one}
use Rattle.image.specs.Image.{Image}
use Rattle.image.specs.Picture.{Pictures}
use Rattle.image.specs.Count.{CountLaw}

eqb_equality : Equality eqb
eqb_equality = record { sound = λ {x} {y} h. grind (arith, nat_tests); self = λ x. grind (arith, nat_tests) }

module _ (rs : Routes) (g : Graph) (order : List ℕ) (i : Image) (pictures : Pictures g order i) (each : OneForEach rs g) where
  -- each shape has a vertex, and a vertex has one shape
  enough : vertices rs ≤ length order
  enough =
      different_injected alike_equality (λ s v. Reads g.edge (to v) s) (λ s s' v r r'. reads_one g.edge r r') (shapes (pushed rs)) order
      (λ t m. ∥∥₁_map (each.read t m) (λ (v, k, r). (v, (pictures.same v).1 k, r)))

  -- the image's vertices are the graph's, each once
  no_more : length order ≤ length g.vertices
  no_more =
      let fewer = different_injected eqb_equality (λ v w. v ≡ w) (λ v w x p q. cc) order g.vertices (λ v m. ∣ (v, (pictures.same v).0 m, refl) ∣₁) in
      let all = different_no_repeats eqb_equality order (no_repeats eqb_equality order pictures.once) in
      omega arith

  counted : i.vertices ≡ vertices rs
  counted = omega (arith, enough, no_more, each.number, pictures.number)

pub vertices_counted : CountLaw
vertices_counted rs g order i pictures each = counted rs g order i pictures each
