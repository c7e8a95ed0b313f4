-- A graph with one vertex for each different branching shape. Assumes nothing.
use Rattle.std.proofs.Common.{◌≡◌, ℕ, ◌≤◌, eqb, List, length, ◌∙◌, arith}
use mathlib.Core.Logic.{∥∥₁_map}
use mathlib.Core.List.{Mem, Nodup}
use Rattle.std.proofs.lemmas.Bool.Decides.{nat_tests}
use Rattle.bits.specs.Lists.{different}
use Rattle.tree.specs.Tree.{Routes, Shape, alike, pushed, shapes}
use Rattle.tree.specs.Graph.{to, Graph, Closed, Reads, OneForEach}
use Rattle.bits.proofs.Sets.{Equality, different_injected, different_no_repeats}
use Rattle.bits.proofs.Members.{has_member}
use Rattle.bits.proofs.Each.{each_once, length_each, any_each, no_repeats}
use Rattle.tree.proofs.Shapes.{alike_equality}
use Rattle.tree.proofs.Least.{reads_one, reader}

eqb_equality : Equality eqb
eqb_equality = record { sound = λ {x} {y} h. grind (arith, nat_tests); self = λ x. grind (arith, nat_tests) }

module _ (rs : Routes) (g : Graph) (closed : Closed g) (start : Reads g.edge g.start (pushed rs)) (names : Nodup g.vertices)
    (reads : (v : ℕ) → Mem v g.vertices → ∥ ((t : Shape) × Mem t (shapes (pushed rs)) × Reads g.edge (to v) t) ∥₁)
    (once : (v w : ℕ) (t : Shape) → Mem v g.vertices → Mem w g.vertices → Reads g.edge (to v) t → Reads g.edge (to w) t → v ≡ w) where
  read : (t : Shape) → Mem t (shapes (pushed rs)) → ∥ ((v : ℕ) × Mem v g.vertices × Reads g.edge (to v) t) ∥₁
  read t m = ∥∥₁_map m (reader g closed closed.starts start)

  -- no fewer vertices than shapes, since a vertex has one shape
  enough : different alike (shapes (pushed rs)) ≤ length g.vertices
  enough = different_injected alike_equality (λ s v. Reads g.edge (to v) s) (λ s s' v r r'. reads_one g.edge r r') (shapes (pushed rs)) g.vertices read

  abbrev each : List Shape
  each = each_once alike (shapes (pushed rs))

  -- no more, since no two have the same
  no_more : length g.vertices ≤ different alike (shapes (pushed rs))
  no_more =
      let fewer = different_injected eqb_equality (λ v s. Mem v g.vertices × Reads g.edge (to v) s) (λ v w s (m, r) (n, q). once v w s m n r q) g.vertices each
      (λ v m. ∥∥₁_map (reads v m) (λ (t, k, r). (t, (has_member alike_equality t each).1 (any_each alike_equality t (shapes (pushed rs)) ∙ (has_member alike_equality t (shapes (pushed rs))).0 k), (m, r)))) in
      let all = different_no_repeats eqb_equality g.vertices (no_repeats eqb_equality g.vertices names) in
      let long = length_each alike_equality (shapes (pushed rs)) in
      omega arith

  pub one_for_each_holds : OneForEach rs g
  one_for_each_holds = record { reads = reads; read = read; once = once; number = omega (arith, enough, no_more) }
