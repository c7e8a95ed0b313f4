-- The search for the vertex of two edges: no slot has them where neither those before a free slot nor those behind it do. Assumes nothing.
use Rattle.std.proofs.Common.{◌≡◌, ℕ, ◌+◌, ◌-◌, ◌<◌, false, List, length, take, drop, sym, ap, ◌∙◌, inl, inr, arith}
use Rattle.std.proofs.lemmas.Bool.{cases_eq, cases_lt, both_ways}
use Rattle.std.proofs.lemmas.List.{get_or-drop, take_rest}
use Rattle.graph.specs.Slots.{used, blank, at}
use Rattle.graph.specs.Find.{Lacks, Suits}
use Rattle.graph.specs.declared.edge.Edge.{Edge}
use Rattle.graph.specs.declared.vertex.Vertex.{Vertex}

pub lacks_around : (xs : List Vertex) (z o : Edge) (i k : ℕ) → k ≡ length xs - (i + 1) → used (at xs i) ≡ false → ((m : ℕ) → m < i → Suits xs m z o → ⊥)
    → Lacks (take k (drop (i + 1) xs)) z o → Lacks xs z o
lacks_around xs z o i k long free before behind n h =
    elim (cases_lt n i) [
      | inl less ↦ before n less (inr h)
      | inr most ↦ elim (cases_eq n i) [
        | inl e ↦ both_ways (used (at xs i)) free (ap (λ k. used (at xs k)) (sym e) ∙ ap used h)
        | inr apart ↦ (
            let place : (i + 1) + (n - (i + 1)) ≡ n = omega arith in
            behind (n - (i + 1)) (ap (λ l. at (take l (drop (i + 1) xs)) (n - (i + 1))) long ∙ ap (λ ys. at ys (n - (i + 1))) (take_rest xs (i + 1)) ∙ get_or-drop (i + 1) xs (n - (i + 1)) blank ∙ ap (at xs) place ∙ h))
      ]
    ]
