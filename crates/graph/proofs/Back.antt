-- The shapes that `fork` and `keep_only` leave, and that `keep_only` from the old start undoes what forks have made. Assumes nothing.
use Rattle.std.proofs.Common.{◌≡◌, ℕ, true, ◌⊎◌, List, ◌∷◌, length, sym, ap, ◌∙◌, subst, inl, inr}
use mathlib.Core.Logic.{∥∥₁_elim, ∥∥₁_map, ∥∥₁_prop}
use mathlib.Core.List.{Mem, mem-cons_self, mem-cons_of_mem, forall_mem-cons}
use mathlib.Core.Bool.{Bool-set}
use Rattle.std.proofs.lemmas.Bool.{cases_Bool, cases_eq, both_ways}
use Rattle.std.proofs.lemmas.List.{ext_get_or}
use Rattle.tree.specs.Tree.{Shape, fork, shapes}
use Rattle.graph.specs.Slots.{used, blank, at, Unfolds, unfolds_to, Sound}
use Rattle.graph.specs.Calls.{Kept, Made}
use Rattle.graph.specs.Keep.{KeptOnly}
use Rattle.graph.specs.View.{Holds}
use Rattle.graph.specs.declared.edge.Edge.{Edge}
use Rattle.graph.specs.declared.edge.Edge.TheVariants.{To}
use Rattle.graph.specs.declared.vertex.Vertex.{Vertex}
use Rattle.graph.proofs.Edges.{free_is, to_is}
use Rattle.graph.proofs.Unfold.{leads_of_unfolds, one_edge}
use Rattle.graph.proofs.View.{parts}

-- an edge that unfolds to a fork leads to a slot
pub slot_of : {xs : List Vertex} {e : Edge} {a b : Shape} → Unfolds xs e (fork a b) → (n : ℕ) × (e ≡ To n) × Unfolds xs (To n) (fork a b)
slot_of (unfolds_to {n} u l r) = (n, (cc), unfolds_to u l r)

pub forked : (xs ys : List Vertex) (ss : List Shape) (a b : Shape) (e : Edge) → Kept xs ys → Made xs ys (fork a b) e → Holds xs ss → Holds ys (fork a b ∷ ss)
forked xs ys ss a b e kept made holds = go (slot_of made.unfolds)
  where
    go : (k : ℕ) × (e ≡ To k) × Unfolds ys (To k) (fork a b) → Holds ys (fork a b ∷ ss)
    go (k, is, h) = record {
      only = λ n u. only n u (cases_eq n k);
      every = (forall_mem-cons (λ s. ∥∥₁_prop)).1 (∣ (k, h) ∣₁, λ s m. ∥∥₁_map (holds.every s m) λ (n, l). (n, kept.shapes (To n) s l));
    }
      where
        only : (n : ℕ) → used (at ys n) ≡ true → (n ≡ k) ⊎ (n ≡ k → ⊥) → ∥ ((s : Shape) × Mem s (fork a b ∷ ss) × Unfolds ys (To n) s) ∥₁
        only n u (inl same) = ∣ (fork a b, mem-cons_self, rw same h) ∣₁
        only n u (inr apart) =
            let other : at ys n ≡ at xs n = made.others n (λ f. apart (sym (to_is (sym is ∙ f)))) in
            ∥∥₁_map (holds.only n (ap used (sym other) ∙ u)) λ (s, m, l). (s, mem-cons_of_mem (fork a b) m, kept.shapes (To n) s l)

pub holds : (ys zs : List Vertex) (start : Edge) (t : Shape) → Unfolds ys start t → KeptOnly ys zs t → Holds zs (shapes t)
holds ys zs start t h kept = record {
  only = λ n u. ∥∥₁_map ((kept.slots n).0 u).1 λ (s, m, k). (s, m, kept.parts (To n) s m k);
  every = λ s m. ∥∥₁_map (parts ys start t s h m) λ (n, k). (n, kept.parts (To n) s m k);
}

module _ (xs ys zs : List Vertex) (start : Edge) (t : Shape) (grown : ∥ Sound ys ∥₁) (h : Unfolds xs start t) (just : Holds xs (shapes t)) (kept : Kept xs ys) (left : KeptOnly ys zs t) where
  used_first : (n : ℕ) → used (at zs n) ≡ true → used (at xs n) ≡ true
  used_first n u = ∥∥₁_elim ((left.slots n).0 u).1 (Bool-set _ _) λ (s, m, k). ∥∥₁_elim (parts xs start t s h m) (Bool-set _ _) λ (i, l).
      let e : i ≡ n = to_is (one_edge ys (To i) (To n) s grown (kept.shapes (To i) s l) k) in
      subst (λ j. used (at xs j) ≡ true) e (leads_of_unfolds l)

  used_last : (n : ℕ) → used (at xs n) ≡ true → used (at zs n) ≡ true
  used_last n u = ∥∥₁_elim (just.only n u) (Bool-set _ _) λ (s, m, k). (left.slots n).1 (ap used (kept.slots n u) ∙ u, ∣ (s, m, kept.shapes (To n) s k) ∣₁)

  slot_back : (n : ℕ) → at zs n ≡ at xs n
  slot_back n = elim (cases_Bool (used (at zs n))) [
    | inl u ↦ left.same n u ∙ kept.slots n (used_first n u)
    | inr f ↦ free_is (at zs n) f ∙ sym (free_is (at xs n) (elim (cases_Bool (used (at xs n))) [ inl u ↦ absurd (both_ways (used (at zs n)) f (used_last n u)) | inr g ↦ g ]))
  ]

  pub back : length zs ≡ length xs → zs ≡ xs
  back long = ext_get_or blank zs xs long (λ n less. slot_back n)
