-- Marking what an edge reaches, from below. Assumes nothing.
use Rattle.std.proofs.Common.{◌≡◌, ℕ, ◌-◌, ◌<◌, ◌≤◌, Bool, true, false, ◌⊎◌, List, [], ◌∷◌, ◌++◌, length, set, sym, refl, ◌∙◌, subst, inl, inr, arith}
use mathlib.Core.List.{Memᴰ}
use Rattle.std.proofs.lemmas.Bool.{cases_eq}
use Rattle.std.proofs.lemmas.List.{get_or-set_same, get_or-set_other}
use Rattle.tree.specs.Tree.{Shape, fork, shapes}
use Rattle.graph.specs.Slots.{zero_of, one_of, at, Unfolds, unfolds_end, unfolds_to}
use Rattle.graph.specs.Keep.{depth, marked, Marks, Whole, Reached}
use Rattle.graph.specs.declared.edge.Edge.{Edge}
use Rattle.graph.specs.declared.edge.Edge.TheVariants.{End, To}
use Rattle.graph.specs.declared.vertex.Vertex.{Vertex}

pub member_left : {A : Type 0} {x : A} {xs : List A} (ys : List A) → Memᴰ x xs → Memᴰ x (xs ++ ys)
member_left ys (Memᴰ.head e) = Memᴰ.head e
member_left ys (Memᴰ.tail m) = Memᴰ.tail (member_left ys m)

pub member_right : {A : Type 0} {x : A} (xs : List A) {ys : List A} → Memᴰ x ys → Memᴰ x (xs ++ ys)
member_right [] m = m
member_right (y ∷ xs) m = Memᴰ.tail (member_right xs m)

-- nothing to mark
pub reached_none : (xs : List Vertex) (ms : List Bool) (e : Edge) (t : Shape) → Whole xs ms → Marks ms e → Reached xs ms ms e t
reached_none xs ms e t whole here = record { whole = whole; here = here; stay = λ n h. h; only = λ n h. inl h }

pub flat : {xs : List Vertex} {e : Edge} {t : Shape} → Unfolds xs e t → depth t ≤ 0 → e ≡ End
flat unfolds_end d = refl
flat (unfolds_to u l r) d = absurd (omega arith)

pub marks_stay : (ms ns : List Bool) (e : Edge) → ((n : ℕ) → marked ms n ≡ true → marked ns n ≡ true) → Marks ms e → Marks ns e
marks_stay ms ns End stay h = tt
marks_stay ms ns (To n) stay h = stay n h

module _ (xs : List Vertex) (ms ms₁ ms₂ : List Bool) (n budget : ℕ) (some : 0 < budget) (inside : n < length ms₂) where
  marked_here : marked (set ms₂ n true) n ≡ true
  marked_here = get_or-set_same ms₂ n true false inside

  marked_more : (k : ℕ) → marked ms₂ k ≡ true → marked (set ms₂ n true) k ≡ true
  marked_more k h = elim (cases_eq k n) [ inl e ↦ rw (e, marked_here) refl | inr apart ↦ get_or-set_other ms₂ n k true false apart ∙ h ]

  marked_before : (k : ℕ) → marked (set ms₂ n true) k ≡ true → (k ≡ n) ⊎ (marked ms₂ k ≡ true)
  marked_before k h = elim (cases_eq k n) [ inl e ↦ inl e | inr apart ↦ inr (sym (get_or-set_other ms₂ n k true false apart) ∙ h) ]

  -- what a call on an edge leaves
  abbrev Does : List Bool → List Bool → Edge → Type 0
  Does before after e = (s : Shape) → Unfolds xs e s → depth s ≤ budget - 1 → Whole xs before → Reached xs before after e s

  reached_slot : {t : Shape} → Unfolds xs (To n) t → depth t ≤ budget → Whole xs ms → Does ms ms₁ (zero_of (at xs n)) → Does ms₁ ms₂ (one_of (at xs n)) → Reached xs ms (set ms₂ n true) (To n) t
  reached_slot (unfolds_to {a} {b} u l r) deep whole left right =
      go (left a l (omega arith) whole) (λ w. right b r (omega arith) w)
    where
      go : Reached xs ms ms₁ (zero_of (at xs n)) a → (Whole xs ms₁ → Reached xs ms₁ ms₂ (one_of (at xs n)) b) → Reached xs ms (set ms₂ n true) (To n) (fork a b)
      go first then = record {
        whole = λ k h. wholes k (marked_before k h);
        here = marked_here;
        stay = λ k h. marked_more k (second.stay k (first.stay k h));
        only = λ k h. onlys k (marked_before k h);
      }
        where
          second : Reached xs ms₁ ms₂ (one_of (at xs n)) b
          second = then first.whole

          onward : (e : Edge) → Marks ms₂ e → Marks (set ms₂ n true) e
          onward e = marks_stay ms₂ (set ms₂ n true) e marked_more

          wholes : (k : ℕ) → (k ≡ n) ⊎ (marked ms₂ k ≡ true) → Marks (set ms₂ n true) (zero_of (at xs k)) × Marks (set ms₂ n true) (one_of (at xs k))
          wholes k (inl e) = rw e (onward (zero_of (at xs n)) (marks_stay ms₁ ms₂ (zero_of (at xs n)) second.stay first.here), onward (one_of (at xs n)) second.here)
          wholes k (inr h) = (onward (zero_of (at xs k)) (second.whole k h).0, onward (one_of (at xs k)) (second.whole k h).1)

          onlys : (k : ℕ) → (k ≡ n) ⊎ (marked ms₂ k ≡ true) → (marked ms k ≡ true) ⊎ ((s : Shape) × Memᴰ s (shapes (fork a b)) × Unfolds xs (To k) s)
          onlys k (inl e) = inr (fork a b, Memᴰ.head refl, rw e (unfolds_to u l r))
          onlys k (inr h) = elim (second.only k h) [
            | inl h₁ ↦ elim (first.only k h₁) [ inl h₀ ↦ inl h₀ | inr p ↦ inr (p.0, Memᴰ.tail (member_left (shapes b) p.1), p.2) ]
            | inr p ↦ inr (p.0, Memᴰ.tail (member_right (shapes a) p.1), p.2)
          ]

  pub reached_more : (e : Edge) (t : Shape) → e ≡ To n → Unfolds xs e t → depth t ≤ budget → Whole xs ms → Does ms ms₁ (zero_of (at xs n)) → Does ms₁ ms₂ (one_of (at xs n)) → Reached xs ms (set ms₂ n true) e t
  reached_more e t is h deep whole left right =
      subst (λ f. Reached xs ms (set ms₂ n true) f t) (sym is) (reached_slot (subst (λ f. Unfolds xs f t) is h) deep whole left right)
