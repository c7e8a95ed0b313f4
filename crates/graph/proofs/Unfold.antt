-- What an edge of a table unfolds to: at most one shape, and in a sound table from at most one edge. Assumes nothing.
use Rattle.std.proofs.Common.{◌≡◌, ℕ, Bool, true, false, List, refl, ap}
use mathlib.Core.Logic.{∥∥₁_elim, ∥∥₁_prop}
use mathlib.Core.HLevel.{×_prop}
use denote.Struct.Props.{props}
use native.Mathlib.Nat.{ℕ_set}
use Rattle.tree.specs.Tree.{Shape, leaf}
use Rattle.graph.specs.Slots.{used, zero_of, one_of, at, next, led, Unfolds, unfolds_end, unfolds_to, Leads, Sound}
use Rattle.graph.specs.declared.edge.Edge.{Edge}
use Rattle.graph.specs.declared.edge.Edge.TheVariants.{End, To}
use Rattle.graph.specs.declared.vertex.Vertex.{Vertex}
use Rattle.graph.proofs.Edges.{leads_prop, led_is, led_leads}

pub unfolds_one : {xs : List Vertex} {e : Edge} {s t : Shape} → Unfolds xs e s → Unfolds xs e t → s ≡ t
unfolds_one unfolds_end unfolds_end = refl
unfolds_one (unfolds_to u l r) (unfolds_to u' l' r') = let left = unfolds_one l l' in let right = unfolds_one r r' in cc

-- no two slots in use have the same edges
abbrev pub EdgesOnce : List Vertex → Type 0
EdgesOnce xs = (m n : ℕ) → used (at xs m) ≡ true → used (at xs n) ≡ true → zero_of (at xs m) ≡ zero_of (at xs n) → one_of (at xs m) ≡ one_of (at xs n) → m ≡ n

-- a shape is unfolded from one edge at most
pub unfolds_once : {xs : List Vertex} {e f : Edge} {t : Shape} → EdgesOnce xs → Unfolds xs e t → Unfolds xs f t → e ≡ f
unfolds_once once unfolds_end unfolds_end = refl
unfolds_once once (unfolds_to {n = m} u l r) (unfolds_to {n} u' l' r') = ap To (once m n u u' (unfolds_once once l l') (unfolds_once once r r'))

again : {xs : List Vertex} (m n : ℕ) {t : Shape} → used (at xs n) ≡ true → zero_of (at xs m) ≡ zero_of (at xs n) → one_of (at xs m) ≡ one_of (at xs n) → Unfolds xs (To m) t → Unfolds xs (To n) t
again m n v a b (unfolds_to u l r) = unfolds_to v (rw (← a) l) (rw (← b) r)

-- no two slots unfold to the same shape just where no two have the same edges
pub edges_once : {xs : List Vertex} → Sound xs → EdgesOnce xs
edges_once sound m n u v a b = ∥∥₁_elim (sound.unfolds m u) (ℕ_set _ _) λ (t, h). sound.once m n t h (again m n v a b h)

pub shapes_once : {xs : List Vertex} → EdgesOnce xs → (m n : ℕ) (t : Shape) → Unfolds xs (To m) t → Unfolds xs (To n) t → m ≡ n
shapes_once once m n t h k = let e = unfolds_once once h k in cc

pub one_edge : (xs : List Vertex) (e f : Edge) (t : Shape) → ∥ Sound xs ∥₁ → Unfolds xs e t → Unfolds xs f t → e ≡ f
one_edge xs e f t sound h k = ∥∥₁_elim sound (hlevel props) λ s. unfolds_once (edges_once s) h k

pub leads_of_unfolds : {xs : List Vertex} {e : Edge} {t : Shape} → Unfolds xs e t → Leads xs e
leads_of_unfolds unfolds_end = tt
leads_of_unfolds (unfolds_to u l r) = u

pub led_unfolds : {xs : List Vertex} {e : Edge} {t : Shape} → Unfolds xs e t → led xs e ≡ e
led_unfolds {xs} {e} h = led_is xs e (leads_of_unfolds h)

pub unfolds_of_leads : (xs : List Vertex) (e : Edge) → Sound xs → Leads xs e → ∥ ((t : Shape) × Unfolds xs e t) ∥₁
unfolds_of_leads xs End sound h = ∣ (leaf, unfolds_end) ∣₁
unfolds_of_leads xs (To n) sound h = sound.unfolds n h

-- every edge is taken for one that unfolds to a shape
pub each_unfolds : (xs : List Vertex) (e : Edge) → ∥ Sound xs ∥₁ → ∥ ((t : Shape) × Unfolds xs (led xs e) t) ∥₁
each_unfolds xs e sound = ∥∥₁_elim sound ∥∥₁_prop λ s. unfolds_of_leads xs (led xs e) s (led_leads xs e)

leads_on : {xs : List Vertex} {n : ℕ} {t : Shape} → Unfolds xs (To n) t → Leads xs (zero_of (at xs n)) × Leads xs (one_of (at xs n))
leads_on (unfolds_to u l r) = (leads_of_unfolds l, leads_of_unfolds r)

-- the edges of a slot that unfolds lead to slots in use or to the end
pub sides_lead : (xs : List Vertex) (n : ℕ) → ∥ ((t : Shape) × Unfolds xs (To n) t) ∥₁ → Leads xs (zero_of (at xs n)) × Leads xs (one_of (at xs n))
sides_lead xs n h = ∥∥₁_elim h (×_prop (leads_prop xs (zero_of (at xs n))) (leads_prop xs (one_of (at xs n)))) λ (t, k). leads_on k

-- what a slot in use holds stays, so each edge unfolds to what it did
pub unfolds_kept : {xs : List Vertex} (ys : List Vertex) {e : Edge} {t : Shape} → ((n : ℕ) → used (at xs n) ≡ true → at ys n ≡ at xs n) → Unfolds xs e t → Unfolds ys e t
unfolds_kept ys keep unfolds_end = unfolds_end
unfolds_kept ys keep (unfolds_to {n} u l r) =
    let e = keep n u in
    unfolds_to (rw e u) (rw e (unfolds_kept ys keep l)) (rw e (unfolds_kept ys keep r))

-- to follow an edge never leads astray
next_leads : (xs : List Vertex) (e : Edge) (b : Bool) → ∥ Sound xs ∥₁ → Leads xs e → Leads xs (next xs e b)
next_leads xs End b sound h = tt
next_leads xs (To n) false sound h = ∥∥₁_elim sound (leads_prop xs (zero_of (at xs n))) λ s. (s.leads n h).0
next_leads xs (To n) true sound h = ∥∥₁_elim sound (leads_prop xs (one_of (at xs n))) λ s. (s.leads n h).1

pub followed_is : (xs : List Vertex) (node e : Edge) (b : Bool) → ∥ Sound xs ∥₁ → e ≡ next xs (led xs node) b → led xs e ≡ e
followed_is xs node e b sound is = led_is xs e (rw is (next_leads xs (led xs node) b sound (led_leads xs node)))
