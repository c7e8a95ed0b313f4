-- A sound table as a graph: closed, one vertex for each shape, and as many as there are different shapes. Assumes nothing.
use Rattle.std.proofs.Common.{◌≡◌, ℕ, ◌≤◌, Bool, true, false, eqb, List, [], ◌∷◌, length, refl, subst, inl, inr, arith}
use mathlib.Core.Logic.{∥∥₁_elim, ∥∥₁_map, ∥∥₁_prop}
use mathlib.Core.List.Memᴰ
use mathlib.Core.List.{Mem, Memᴰ, mem-cons_self, mem-cons_of_mem, forall_mem-cons, not-mem-nil}
use native.Mathlib.Nat.{ℕ_set}
use Rattle.bits.specs.Lists.{different}
use Rattle.tree.specs.Tree.{Routes, Shape, fork, alike, shapes, pushed}
use Rattle.tree.specs.Graph.{Edge as Way, to, Inside, Closed, EndsAtLeaves, Reads, reads_end, reads_to, OneForEach}
use Rattle.graph.specs.Slots.{used, zero_of, one_of, at, next, led, Unfolds, unfolds_end, unfolds_to, Leads, Sound, in_use}
use Rattle.graph.specs.View.{way, out, graph_of, Holds}
use Rattle.graph.specs.declared.edge.Edge.{Edge}
use Rattle.graph.specs.declared.edge.Edge.TheVariants.{End, To}
use Rattle.graph.specs.declared.vertex.Vertex.{Vertex}
use Rattle.bits.proofs.Sets.{different_injected, different_no_repeats}
use Rattle.tree.specs.LeafLaws.{AtMost}
use Rattle.tree.proofs.Shapes.{alike_equality}
use Rattle.tree.proofs.Walks.{reads_end_at_leaves}
use Rattle.graph.proofs.Once.{once_each, length_once_each, member_once_each}
use Rattle.graph.proofs.Edges.{to_is, led_leads}
use Rattle.graph.proofs.Unfold.{unfolds_one, one_edge, leads_of_unfolds, sides_lead}
use Rattle.graph.proofs.Count.{used_listed, listed_in_use, listed_once, eqb_equality}

-- each branching shape below an edge has its slot
reader : {xs : List Vertex} {e : Edge} {t s : Shape} → Unfolds xs e t → Memᴰ s (shapes t) → (n : ℕ) × Unfolds xs (To n) s
reader unfolds_end m = absurd (Memᴰ.not-nil m)
reader (unfolds_to {n} u l r) (Memᴰ.head e) = (n, rw e (unfolds_to u l r))
reader (unfolds_to {n} {a} u l r) (Memᴰ.tail m) = elim (Memᴰ.append_cases (shapes a) m) [ inl below ↦ reader l below | inr below ↦ reader r below ]

pub parts : (xs : List Vertex) (e : Edge) (t s : Shape) → Unfolds xs e t → Mem s (shapes t) → ∥ ((n : ℕ) × Unfolds xs (To n) s) ∥₁
parts xs e t s h m = ∥∥₁_map m (λ d. reader h d)

pub sides : (xs : List Vertex) (e : Edge) (a b : Shape) → Unfolds xs e (fork a b) → Unfolds xs (next xs e false) a × Unfolds xs (next xs e true) b
sides xs e a b (unfolds_to u l r) = (l, r)

-- at least one slot for each different shape
pub at_least : (xs : List Vertex) (ss : List Shape) → ((s : Shape) → Mem s ss → ∥ ((n : ℕ) × Unfolds xs (To n) s) ∥₁) → different alike ss ≤ length (in_use xs)
at_least xs ss all =
    different_injected alike_equality (λ s n. Unfolds xs (To n) s) (λ s s' n h h'. unfolds_one h h') ss (in_use xs)
    (λ s m. ∥∥₁_map (all s m) λ (n, h). (n, used_listed xs n (leads_of_unfolds h), h))

-- at most one
pub at_most : (xs : List Vertex) (ss : List Shape) → ∥ Sound xs ∥₁ → ((n : ℕ) → used (at xs n) ≡ true → ∥ ((s : Shape) × Mem s ss × Unfolds xs (To n) s) ∥₁) → length (in_use xs) ≤ different alike ss
at_most xs ss sound only = omega (arith, most, different_no_repeats eqb_equality (in_use xs) (listed_once 0 xs), length_once_each alike_equality ss)
  where
    apart : (m n : ℕ) (s : Shape) → Unfolds xs (To m) s → Unfolds xs (To n) s → m ≡ n
    apart m n s h h' = to_is (one_edge xs (To m) (To n) s sound h h')

    most : different eqb (in_use xs) ≤ length (once_each alike_equality ss)
    most = different_injected eqb_equality (λ n s. Unfolds xs (To n) s) apart (in_use xs) (once_each alike_equality ss)
        (λ n m. ∥∥₁_elim (only n (listed_in_use xs n m)) ∥∥₁_prop λ (s, k, h). ∥∥₁_map k λ d. (s, ∣ member_once_each alike_equality ss d ∣₁, h))

pub number : (xs : List Vertex) (ss : List Shape) → ∥ Sound xs ∥₁ → Holds xs ss → length (in_use xs) ≡ different alike ss
number xs ss sound holds = omega (arith, at_least xs ss holds.every, at_most xs ss sound holds.only)

pub none : (xs : List Vertex) → in_use xs ≡ [] → Holds xs []
none xs h = record { only = λ n u. absurd (not-mem-nil (subst (Mem n) h (used_listed xs n u))); every = λ s m. absurd (not-mem-nil m) }

-- the shapes of the slots of a list
listing : (xs : List Vertex) → Sound xs → (ns : List ℕ) → ((n : ℕ) → Mem n ns → used (at xs n) ≡ true)
    → ∥ ((ss : List Shape) × ((n : ℕ) → Mem n ns → ∥ ((s : Shape) × Mem s ss × Unfolds xs (To n) s) ∥₁) × ((s : Shape) → Mem s ss → ∥ ((n : ℕ) × Unfolds xs (To n) s) ∥₁)) ∥₁
listing xs sound [] used = ∣ ([], (λ n m. absurd (not-mem-nil m)), (λ s m. absurd (not-mem-nil m))) ∣₁
listing xs sound (k ∷ ns) used =
    ∥∥₁_elim (sound.unfolds k (used k mem-cons_self)) ∥∥₁_prop λ (t, h). ∥∥₁_map (listing xs sound ns (λ n m. used n (mem-cons_of_mem k m))) λ (ss, only, every). (
      t ∷ ss,
      (forall_mem-cons (λ n. ∥∥₁_prop)).1 (∣ (t, mem-cons_self, h) ∣₁, λ n m. ∥∥₁_map (only n m) λ (s, d, l). (s, mem-cons_of_mem t d, l)),
      (forall_mem-cons (λ s. ∥∥₁_prop)).1 (∣ (k, h) ∣₁, every),
    )

pub some_shapes : (xs : List Vertex) → ∥ Sound xs ∥₁ → ∥ ((ss : List Shape) × Holds xs ss) ∥₁
some_shapes xs sound = ∥∥₁_elim sound ∥∥₁_prop λ so. ∥∥₁_map (listing xs so (in_use xs) (listed_in_use xs)) λ (ss, only, every).
    (ss, record { only = λ n u. only n (used_listed xs n u); every = every })

pub reads_of_unfolds : {xs : List Vertex} {e : Edge} {t : Shape} → Unfolds xs e t → Reads (out xs) (way e) t
reads_of_unfolds unfolds_end = reads_end
reads_of_unfolds (unfolds_to u l r) = reads_to (reads_of_unfolds l) (reads_of_unfolds r)

reads_one : {edge : ℕ → Bool → Way} {e : Way} {s t : Shape} → Reads edge e s → Reads edge e t → s ≡ t
reads_one reads_end reads_end = refl
reads_one (reads_to l r) (reads_to l' r') = let left = reads_one l l' in let right = reads_one r r' in cc

shape_of : (xs : List Vertex) (n : ℕ) → ∥ Sound xs ∥₁ → used (at xs n) ≡ true → ∥ ((t : Shape) × Unfolds xs (To n) t) ∥₁
shape_of xs n sound u = ∥∥₁_elim sound ∥∥₁_prop λ s. s.unfolds n u

-- what a slot in use reads is what it unfolds to
unfolds_of_reads : (xs : List Vertex) (n : ℕ) (t : Shape) → ∥ Sound xs ∥₁ → used (at xs n) ≡ true → Reads (out xs) (to n) t → ∥ Unfolds xs (To n) t ∥₁
unfolds_of_reads xs n t sound u h = ∥∥₁_map (shape_of xs n sound u) λ (s, k). subst (Unfolds xs (To n)) (reads_one (reads_of_unfolds k) h) k

inside : (xs : List Vertex) (start e : Edge) → Leads xs e → Inside (graph_of xs start) (way e)
inside xs start End h = tt
inside xs start (To n) h = used_listed xs n h

pub closed : (xs : List Vertex) (e : Edge) → ∥ Sound xs ∥₁ → Closed (graph_of xs (led xs e))
closed xs e sound = record { starts = inside xs (led xs e) (led xs e) (led_leads xs e); edges = edges }
  where
    both : (v : ℕ) → Mem v (in_use xs) → Leads xs (zero_of (at xs v)) × Leads xs (one_of (at xs v))
    both v m = sides_lead xs v (shape_of xs v sound (listed_in_use xs v m))

    edges : (v : ℕ) (b : Bool) → Mem v (in_use xs) → Inside (graph_of xs (led xs e)) (out xs v b)
    edges v false m = inside xs (led xs e) (zero_of (at xs v)) (both v m).0
    edges v true m = inside xs (led xs e) (one_of (at xs v)) (both v m).1

pub one_for_each : (rs : Routes) (xs : List Vertex) (start : Edge) → ∥ Sound xs ∥₁ → Unfolds xs start (pushed rs) → Holds xs (shapes (pushed rs)) → OneForEach rs (graph_of xs start)
one_for_each rs xs start sound whole holds = record {
  reads = λ v m. ∥∥₁_map (holds.only v (listed_in_use xs v m)) λ (t, k, h). (t, k, reads_of_unfolds h);
  read = λ t m. ∥∥₁_map (holds.every t m) λ (n, h). (n, used_listed xs n (leads_of_unfolds h), reads_of_unfolds h);
  once = λ v w t m k h h'. ∥∥₁_elim (unfolds_of_reads xs v t sound (listed_in_use xs v m) h) (ℕ_set _ _) λ a.
      ∥∥₁_elim (unfolds_of_reads xs w t sound (listed_in_use xs w k) h') (ℕ_set _ _) λ b. to_is (one_edge xs (To v) (To w) t sound a b);
  number = number xs (shapes (pushed rs)) sound holds;
}

pub ends : (W : ℕ) (rs : Routes) (xs : List Vertex) (start : Edge) → AtMost W rs → Unfolds xs start (pushed rs) → EndsAtLeaves W rs (graph_of xs start)
ends W rs xs start short h = reads_end_at_leaves W rs short (graph_of xs start) (reads_of_unfolds h)
