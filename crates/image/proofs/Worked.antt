-- The worked example's image is one of its graph. Assumes nothing.
use Rattle.std.proofs.Common.{◌≡◌, ℕ, zero, suc, ◌<◌, ◌≤◌, Bool, true, false, ◌↔◌, List, [], ◌∷◌, length, get_or, sym, refl, ap, ◌∙◌, inr, arith}
use mathlib.Core.List.{Mem, Nodup, forall_mem-cons, not-mem-nil, mem-cons_self, mem-cons_of_mem, Nodup-nil, Nodup-cons}
use native.Mathlib.Bridge.{le_prop}
use Rattle.std.proofs.lemmas.Bool.{true≢false, false≢true}
use Rattle.bits.specs.Rows.{word}
use Rattle.tree.specs.Tree.{Route, Routes, Shape, leaf, fork, pushed, shapes}
use Rattle.tree.specs.Graph.{to, Inside, Closed, Reads, reads_end, reads_to, OneForEach}
use Rattle.tree.specs.LeafLaws.{AtMost}
use Rattle.tree.proofs.Least.{reads_one}
use Rattle.tree.proofs.Walks.{reads_end_at_leaves}
use Rattle.tree.proofs.Vertices.{one_for_each_holds}
use Rattle.image.specs.Image.{edge_at}
use Rattle.image.specs.Picture.{down, Joined, mark, Marked, Leads, Pictures}
use Rattle.image.specs.Cases.{five_routes}
use Rattle.image.specs.Worked.{routes, edge, graph, order, Worked}
use Rattle.image.proofs.Groups.{alone, block_of_joined}
use Rattle.image.proofs.Laws.{walks_to_leaves, stands_for}

under_3 : (P : ℕ → Type 0) → P 0 → P 1 → P 2 → (x : ℕ) → x < 3 → P x
under_3 P a b c zero h = a
under_3 P a b c (suc zero) h = b
under_3 P a b c (suc (suc zero)) h = c
under_3 P a b c (suc (suc (suc x))) h = absurd (omega arith)

under_4 : (P : ℕ → Type 0) → P 0 → P 1 → P 2 → P 3 → (x : ℕ) → x < 4 → P x
under_4 P a b c d zero h = a
under_4 P a b c d (suc x) h = under_3 (λ x. P (suc x)) b c d x (omega arith)

-- the shape of each vertex
abbrev shape : ℕ → Shape
shape zero = pushed routes
shape (suc zero) = fork leaf leaf
shape (suc (suc v)) = fork (fork leaf leaf) (fork leaf leaf)

reads_shape : (v : ℕ) → Reads edge (to v) (shape v)
reads_shape zero = reads_to (reads_to reads_end reads_end) (reads_to (reads_to reads_end reads_end) (reads_to reads_end reads_end))
reads_shape (suc zero) = reads_to reads_end reads_end
reads_shape (suc (suc v)) = reads_to (reads_to reads_end reads_end) (reads_to reads_end reads_end)

has_shape : (v : ℕ) → Mem (shape v) (shapes (pushed routes))
has_shape zero = mem-cons_self
has_shape (suc zero) = mem-cons_of_mem _ mem-cons_self
has_shape (suc (suc v)) = mem-cons_of_mem _ (mem-cons_of_mem _ mem-cons_self)

-- and the vertex of each shape
abbrev vertex : Shape → ℕ
vertex leaf = 0
vertex (fork leaf b) = 1
vertex (fork (fork a b) leaf) = 0
vertex (fork (fork a b) (fork leaf c)) = 2
vertex (fork (fork a b) (fork (fork c d) e)) = 0

small : (v : ℕ) → Mem v order → v < 3
small = more (omega arith) (more (omega arith) (more (omega arith) (λ v m. absurd (not-mem-nil m))))
  where
    more : {w : ℕ} {ws : List ℕ} → w < 3 → ((v : ℕ) → Mem v ws → v < 3) → (v : ℕ) → Mem v (w ∷ ws) → v < 3
    more h k = (forall_mem-cons (λ v. le_prop)).1 (h, k)

vertex_shape : (v : ℕ) → v < 3 → vertex (shape v) ≡ v
vertex_shape = under_3 (λ v. vertex (shape v) ≡ v) refl refl refl

once : Nodup order
once =
    let not_0 : (v : ℕ) → Mem v (1 ∷ 2 ∷ []) → 0 < v = (forall_mem-cons (λ v. le_prop)).1 (omega arith, (forall_mem-cons (λ v. le_prop)).1 (omega arith, λ v m. absurd (not-mem-nil m))) in
    let not_1 : (v : ℕ) → Mem v (2 ∷ []) → 1 < v = (forall_mem-cons (λ v. le_prop)).1 (omega arith, λ v m. absurd (not-mem-nil m)) in
    Nodup-cons.1 (λ m. omega (arith, not_0 0 m), Nodup-cons.1 (λ m. omega (arith, not_1 1 m), Nodup-cons.1 (not-mem-nil, Nodup-nil)))

closed : Closed graph
closed = record { starts = mem-cons_self; edges = λ v b m. inside v b }
  where
    inside : (v : ℕ) (b : Bool) → Inside graph (edge v b)
    inside zero false = mem-cons_of_mem _ mem-cons_self
    inside zero true = mem-cons_of_mem _ (mem-cons_of_mem _ mem-cons_self)
    inside (suc zero) b = tt
    inside (suc (suc v)) b = mem-cons_of_mem _ mem-cons_self

each : OneForEach routes graph
each =
    one_for_each_holds routes graph closed (reads_shape 0) once (λ v m. ∣ (shape v, has_shape v, reads_shape v) ∣₁)
    (λ v w t m n r q. sym (vertex_shape v (small v m)) ∙ ap vertex (reads_one edge (reads_shape v) r ∙ reads_one edge q (reads_shape w)) ∙ vertex_shape w (small w n))

short : AtMost 32 routes
short = more (omega arith) (more (omega arith) (more (omega arith) (more (omega arith) (more (omega arith) (λ r m. absurd (not-mem-nil m))))))
  where
    more : {r : Route} {rs : Routes} → length r.at ≤ 32 → AtMost 32 rs → AtMost 32 (r ∷ rs)
    more h k = (forall_mem-cons (λ r. le_prop)).1 (h, k)

edges_lead : (x e : ℕ) → x < 3 → e < 4 → Leads order (down edge (to (get_or order x 0)) (word 2 e)) (edge_at five_routes (suc x) e)
unfolding word
edges_lead x e h k =
    under_3 (λ x. (e : ℕ) → e < 4 → Leads order (down edge (to (get_or order x 0)) (word 2 e)) (edge_at five_routes (suc x) e))
    (under_4 _ refl refl (omega arith, omega arith, refl) (omega arith, omega arith, refl))
    (under_4 _ refl refl refl refl)
    (under_4 _ refl refl refl refl) x h e k

-- the groups of the whole: each edge alone
groups_0 : (e : ℕ) → e < 3 → (mark 10 e ≡ mark 10 (suc e)) ↔ Joined edge 2 0 e (suc e)
unfolding word
groups_0 =
    under_3 _
    (λ h. absurd (false≢true h), λ t. absurd (let z = block_of_joined edge 2 0 0 2 refl 1 (omega arith) (omega arith) t in omega arith))
    (λ h. absurd (true≢false h), λ t. absurd (let z = block_of_joined edge 2 0 1 2 refl 2 (omega arith) (omega arith) t in omega arith))
    (λ h. absurd (false≢true h), λ t. absurd (let z = alone edge 2 0 2 3 refl t in omega arith))

-- below 0 two leaves of two edges each
groups_1 : (e : ℕ) → e < 3 → (mark 12 e ≡ mark 12 (suc e)) ↔ Joined edge 2 1 e (suc e)
unfolding word
groups_1 =
    under_3 _
    (λ h. ∣ inr (1, record { first = refl; second = refl; bits = refl }) ∣₁, λ t. refl)
    (λ h. absurd (false≢true h), λ t. absurd (let z = block_of_joined edge 2 1 1 1 refl 2 (omega arith) (omega arith) t in omega arith))
    (λ h. ∣ inr (1, record { first = refl; second = refl; bits = refl }) ∣₁, λ t. refl)

-- below 1 four leaves
groups_2 : (e : ℕ) → e < 3 → (mark 10 e ≡ mark 10 (suc e)) ↔ Joined edge 2 2 e (suc e)
unfolding word
groups_2 =
    under_3 _
    (λ h. absurd (false≢true h), λ t. absurd (let z = block_of_joined edge 2 2 0 2 refl 1 (omega arith) (omega arith) t in omega arith))
    (λ h. absurd (true≢false h), λ t. absurd (let z = block_of_joined edge 2 2 1 2 refl 2 (omega arith) (omega arith) t in omega arith))
    (λ h. absurd (false≢true h), λ t. absurd (let z = block_of_joined edge 2 2 2 2 refl 3 (omega arith) (omega arith) t in omega arith))

marked : (x : ℕ) → x < 3 → Marked edge 2 (get_or order x 0) (get_or five_routes.marks x 0)
marked =
    under_3 _
    (record { first = refl; groups = λ e h. groups_0 e (omega arith); high = omega arith })
    (record { first = refl; groups = λ e h. groups_1 e (omega arith); high = omega arith })
    (record { first = refl; groups = λ e h. groups_2 e (omega arith); high = omega arith })

pictures : Pictures graph order five_routes
pictures = record {
  once = once;
  same = λ v. (λ m. m, λ m. m);
  number = refl;
  start = (omega arith, omega arith, refl);
  edges = edges_lead;
  marks = marked;
}

pub worked : Worked
worked =
    let ends = reads_end_at_leaves 32 routes short graph (reads_shape 0) in
    record {
      short = short;
      ends = ends;
      each = each;
      pictures = pictures;
      leaves = walks_to_leaves graph order five_routes (omega arith) pictures 32 routes short ends;
      shapes = stands_for routes graph order five_routes pictures each;
    }
