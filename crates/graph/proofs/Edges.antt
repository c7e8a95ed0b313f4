-- Edges: when two are equal, and what an edge is taken for. Assumes nothing.
use Rattle.std.proofs.Common.{◌≡◌, ℕ, ◌<◌, ◌≤◌, Bool, true, false, List, length, Some, None, Option, is_some, sym, refl, ap, inl, inr, arith}
use mathlib.Core.Logic.{∥∥₁_elim}
use denote.Struct.Props.{props}
use mathlib.Core.HLevel.{Unit-prop}
use mathlib.Core.Bool.{Bool-set}
use Rattle.std.proofs.lemmas.Bool.{cases_lt, both_ways, true≢false}
use Rattle.std.proofs.lemmas.List.{get_or_past}
use Rattle.graph.specs.Slots.{used, zero_of, one_of, linked, blank, at, led, Leads}
use Rattle.graph.specs.declared.edge.Edge.{Edge}
use Rattle.graph.specs.declared.edge.Edge.TheVariants.{End, To}
use Rattle.graph.specs.declared.vertex.Sides.{Sides}
use Rattle.graph.specs.declared.vertex.Vertex.{Vertex}

-- a slot by what it has
pub free_is : (v : Vertex) → used v ≡ false → v ≡ blank
free_is v = go v.edges
  where
    go : (s : Option Sides) → is_some s ≡ false → record { edges = s } ≡ blank
    go None free = refl
    go (Some s) free = absurd (true≢false free)

pub linked_is : (v : Vertex) (z o : Edge) → used v ≡ true → zero_of v ≡ z → one_of v ≡ o → v ≡ linked z o
linked_is v z o = go v.edges
  where
    go : (s : Option Sides) → is_some s ≡ true → elim s [ Some t ↦ t.zero | None ↦ End ] ≡ z → elim s [ Some t ↦ t.one | None ↦ End ] ≡ o → record { edges = s } ≡ linked z o
    go None u l r = absurd (true≢false (sym u))
    go (Some s) u l r = λ i. record { edges = Some (record { zero = l i; one = r i }) }

-- edges form a set
pub edge_out : (e f : Edge) → ∥ (e ≡ f) ∥₁ → e ≡ f
edge_out e f h = ∥∥₁_elim h (hlevel props) λ k. k

pub blank_out : (v : Vertex) → ∥ (v ≡ blank) ∥₁ → v ≡ blank
blank_out v h = free_is v (∥∥₁_elim h (Bool-set _ _) λ e. ap used e)

pub to_is : {m n : ℕ} → To m ≡ To n → m ≡ n
to_is h = cc

pub leads_prop : (xs : List Vertex) (e : Edge) → IsProp (Leads xs e)
leads_prop xs End = Unit-prop
leads_prop xs (To n) = Bool-set _ _

pub led_used : (xs : List Vertex) (n : ℕ) → used (at xs n) ≡ true → led xs (To n) ≡ To n
led_used xs n u = grind arith

pub led_free : (xs : List Vertex) (n : ℕ) → used (at xs n) ≡ false → led xs (To n) ≡ End
led_free xs n u = grind arith

pub led_is : (xs : List Vertex) (e : Edge) → Leads xs e → led xs e ≡ e
led_is xs End h = refl
led_is xs (To n) h = led_used xs n h

pub led_leads : (xs : List Vertex) (e : Edge) → Leads xs (led xs e)
led_leads xs End = tt
led_leads xs (To n) = go (used (at xs n)) refl
  where
    go : (b : Bool) → used (at xs n) ≡ b → Leads xs (elim b [ true ↦ To n | false ↦ End ])
    go true u = u
    go false u = tt

-- a slot in use lies in the table
pub used_within : (xs : List Vertex) (n : ℕ) → used (at xs n) ≡ true → n < length xs
used_within xs n u = elim (cases_lt n (length xs)) [ inl h ↦ h | inr h ↦ absurd (both_ways (used (at xs n)) (rw (get_or_past xs n blank h) refl) u) ]

pub past_free : (xs : List Vertex) (n : ℕ) → length xs ≤ n → used (at xs n) ≡ false
past_free xs n h = rw (get_or_past xs n blank h) refl
