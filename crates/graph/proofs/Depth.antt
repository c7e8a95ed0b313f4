-- A tree that a table holds is no deeper than the table has slots in use. Assumes nothing.
use Rattle.std.proofs.Common.{◌≡◌, ◌≤◌, false, List, ◌++◌, length, ◌∙◌, inl, inr, arith}
use mathlib.Core.List.Memᴰ
use mathlib.Core.List.{Memᴰ}
use Rattle.std.proofs.lemmas.Bool.{cases_Bool, or_left, or_right}
use Rattle.bits.specs.Lists.{any, different}
use Rattle.tree.specs.Tree.{Shape, leaf, fork, shapes, alike}
use Rattle.graph.specs.Slots.{Unfolds}
use Rattle.graph.specs.Keep.{depth}
use Rattle.graph.specs.declared.edge.Edge.{Edge}
use Rattle.graph.specs.declared.vertex.Vertex.{Vertex}
use Rattle.bits.proofs.Sets.{Within, any_append, member_of_any, different_mono}
use Rattle.tree.proofs.Shapes.{alike_equality}
use Rattle.graph.proofs.Count.{length_in_use, tally_at_most}
use Rattle.graph.proofs.View.{parts, at_least}

depth_member : {s : Shape} (t : Shape) → Memᴰ s (shapes t) → depth s ≤ depth t
depth_member leaf m = absurd (Memᴰ.not-nil m)
depth_member {s} (fork a b) (Memᴰ.head e) = rw e (omega arith)
depth_member {s} (fork a b) (Memᴰ.tail m) = elim (Memᴰ.append_cases (shapes a) m) [
  | inl d ↦ omega (arith, depth_member a d)
  | inr d ↦ omega (arith, depth_member b d)
]

-- a fork is no shape of its sides
not_below : (a b : Shape) → any (alike (fork a b)) (shapes a ++ shapes b) ≡ false
not_below a b = elim (cases_Bool (any (alike (fork a b)) (shapes a ++ shapes b))) [
  | inl h ↦ absurd (elim (Memᴰ.append_cases {a = fork a b} (shapes a) (member_of_any alike_equality (shapes a ++ shapes b) h)) [
    | inl d ↦ omega (arith, depth_member a d)
    | inr d ↦ omega (arith, depth_member b d)
  ])
  | inr h ↦ h
]

left_within : (xs ys : List Shape) → Within alike xs (xs ++ ys)
left_within xs ys x h = any_append alike_equality (alike x) xs ys ∙ or_left (any (alike x) xs) _ h

right_within : (xs ys : List Shape) → Within alike ys (xs ++ ys)
right_within xs ys x h = any_append alike_equality (alike x) xs ys ∙ or_right (any (alike x) xs) _ h

depth_different : (t : Shape) → depth t ≤ different alike (shapes t)
depth_different leaf = omega arith
depth_different (fork a b) =
    let left = depth_different a in
    let right = depth_different b in
    let more = different_mono alike_equality (shapes a) (shapes a ++ shapes b) (left_within (shapes a) (shapes b)) in
    let also = different_mono alike_equality (shapes b) (shapes a ++ shapes b) (right_within (shapes a) (shapes b)) in
    let new = not_below a b in
    grind arith

pub depth_bound : (xs : List Vertex) (e : Edge) (t : Shape) → Unfolds xs e t → depth t ≤ length xs
depth_bound xs e t h = omega (arith, depth_different t, at_least xs (shapes t) (λ s m. parts xs e t s h m), length_in_use 0 xs, tally_at_most xs)
