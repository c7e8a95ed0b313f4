-- The empty table is sound, and so is a table to which one vertex is added. Assumes nothing.
use Rattle.std.proofs.Common.{◌≡◌, ℕ, ◌<◌, true, false, ◌⊎◌, List, length, set, replicate, sym, refl, ap, ◌∙◌, inl, inr}
use mathlib.Core.Logic.{∥∥₁_map, ∥∥₁_elim, ∥∥₁_prop}
use lib.ListN.{length-replicate}
use Rattle.std.proofs.lemmas.Bool.{cases_eq, cases_lt, both_ways}
use Rattle.std.proofs.lemmas.List.{get_or_past, get_or-replicate, get_or-set_same, get_or-set_other}
use Rattle.tree.specs.Tree.{Shape, fork}
use Rattle.graph.specs.Slots.{used, blank, linked, at, Unfolds, unfolds_to, Leads, Sound}
use Rattle.graph.specs.Find.{Lacks}
use Rattle.graph.specs.declared.edge.Edge.{Edge}
use Rattle.graph.specs.declared.edge.Edge.TheVariants.{To}
use Rattle.graph.specs.declared.vertex.Vertex.{Vertex}
use Rattle.graph.proofs.Edges.{linked_is}
use Rattle.graph.proofs.Unfold.{EdgesOnce, edges_once, shapes_once, sides_lead, leads_of_unfolds, unfolds_of_leads, unfolds_kept}

blank_at : (k n : ℕ) → at (replicate k blank) n ≡ blank
blank_at k n = elim (cases_lt n k) [ inl h ↦ get_or-replicate k n blank blank h | inr h ↦ get_or_past (replicate k blank) n blank (rw (length-replicate k blank) h) ]

never_used : (k n : ℕ) → used (at (replicate k blank) n) ≡ true → ⊥
never_used k n u = both_ways (used (at (replicate k blank) n)) (rw (blank_at k n) refl) u

pub sound_blank : (k : ℕ) → Sound (replicate k blank)
sound_blank k = record {
  leads = λ n u. absurd (never_used k n u);
  unfolds = λ n u. absurd (never_used k n u);
  once = λ m n t h k'. absurd (never_used k m (leads_of_unfolds h));
}

module _ (xs : List Vertex) (n : ℕ) (z o : Edge) (inside : n < length xs) (free : used (at xs n) ≡ false) where
  -- the table with the new vertex
  abbrev pub added : List Vertex
  added = set xs n (linked z o)

  pub added_same : at added n ≡ linked z o
  added_same = get_or-set_same xs n (linked z o) blank inside

  pub added_other : (m : ℕ) → (m ≡ n → ⊥) → at added m ≡ at xs m
  added_other m apart = get_or-set_other xs n m (linked z o) blank apart

  pub added_keeps : (m : ℕ) → used (at xs m) ≡ true → at added m ≡ at xs m
  added_keeps m u = added_other m (λ e. both_ways (used (at xs n)) free (rw (← e) u))

  pub added_unfolds : {a b : Shape} → Unfolds xs z a → Unfolds xs o b → Unfolds added (To n) (fork a b)
  added_unfolds l r = let e = added_same in unfolds_to (rw e refl) (rw e (unfolds_kept added added_keeps l)) (rw e (unfolds_kept added added_keeps r))

  pub added_used : (m : ℕ) → used (at added m) ≡ true → (m ≡ n) ⊎ (used (at xs m) ≡ true)
  added_used m u = elim (cases_eq m n) [ inl e ↦ inl e | inr apart ↦ inr (rw (added_other m apart) at u) ]

  added_once : EdgesOnce xs → Lacks xs z o → EdgesOnce added
  added_once once new m k u v a b = go (added_used m u) (added_used k v)
    where
      there : (j : ℕ) → j ≡ n → at added j ≡ linked z o
      there j e = ap (at added) e ∙ added_same

      go : (m ≡ n) ⊎ (used (at xs m) ≡ true) → (k ≡ n) ⊎ (used (at xs k) ≡ true) → m ≡ k
      go (inl e) (inl f) = e ∙ sym f
      go (inl e) (inr v) = let s = there m e in let t = added_keeps k v in absurd (new k (linked_is (at xs k) z o v (cc) (cc)))
      go (inr u) (inl f) = let s = there k f in let t = added_keeps m u in absurd (new m (linked_is (at xs m) z o u (cc) (cc)))
      go (inr u) (inr v) = let s = added_keeps m u in let t = added_keeps k v in once m k u v (cc) (cc)

  pub sound_added : Sound xs → Leads xs z → Leads xs o → Lacks xs z o → Sound added
  sound_added sound lz lo new = record {
    leads = λ m u. sides_lead added m (unfolds m (added_used m u));
    unfolds = λ m u. unfolds m (added_used m u);
    once = shapes_once (added_once (edges_once sound) new);
  }
    where
      unfolds : (m : ℕ) → (m ≡ n) ⊎ (used (at xs m) ≡ true) → ∥ ((t : Shape) × Unfolds added (To m) t) ∥₁
      unfolds m (inl e) =
          ∥∥₁_elim (unfolds_of_leads xs z sound lz) ∥∥₁_prop λ (a, l). ∥∥₁_map (unfolds_of_leads xs o sound lo) λ (b, r). (fork a b, rw e (added_unfolds l r))
      unfolds m (inr u) = ∥∥₁_map (sound.unfolds m u) λ (t, h). (t, unfolds_kept added added_keeps h)
