-- What `fork` leaves: found, refused or made. Here z and o are the edges that the given ones are taken for. Assumes nothing.
use Rattle.std.proofs.Common.{◌≡◌, ℕ, suc, ◌+◌, ◌<◌, true, false, List, length, set, sym, refl, ap, ◌∙◌, arith}
use mathlib.Core.Logic.{∥∥₁_elim, ∥∥₁_map}
use mathlib.Core.HLevel.{⊥_prop}
use Rattle.refusal.specs.declared.Refusal.TheVariants.{VerticesFull}
use Rattle.tree.specs.Tree.{Shape, fork}
use Rattle.graph.specs.Slots.{linked, used, zero_of, one_of, at, led, Unfolds, unfolds_to, Leads, Sound, in_use}
use Rattle.graph.specs.Calls.{Unheld, Kept, Made, Refused}
use Rattle.graph.specs.Find.{Has, Lacks, Full}
use Rattle.graph.specs.declared.edge.Edge.{Edge}
use Rattle.graph.specs.declared.edge.Edge.TheVariants.{To}
use Rattle.graph.specs.declared.vertex.Vertex.{Vertex}
use Rattle.graph.proofs.Edges.{linked_is, led_leads}
use Rattle.graph.proofs.Unfold.{edges_once, unfolds_once, unfolds_kept}
use Rattle.graph.proofs.Count.{length_in_use, tally_set, tally_full, tally_free}
use Rattle.graph.proofs.Added.{added_keeps, added_other, added_unfolds, sound_added}

-- no slot has the edges, so no edge unfolds to the fork
unheld : (xs : List Vertex) (z o : Edge) {a b : Shape} → ∥ Sound xs ∥₁ → Lacks xs z o → Unfolds xs z a → Unfolds xs o b → Unheld xs (fork a b)
unheld xs z o sound new l r e (unfolds_to {n} u l' r') =
    ∥∥₁_elim sound ⊥_prop λ s. new n (linked_is (at xs n) z o u (unfolds_once (edges_once s) l' l) (unfolds_once (edges_once s) r' r))

pub kept_same : (xs : List Vertex) → Kept xs xs
kept_same xs = record { slots = λ n u. refl; shapes = λ e t h. h }

pub kept_by_slots : (xs ys : List Vertex) → ((n : ℕ) → used (at xs n) ≡ true → at ys n ≡ at xs n) → Kept xs ys
kept_by_slots xs ys keep = record { slots = keep; shapes = λ e t h. unfolds_kept ys keep h }

pub kept_set : (xs : List Vertex) (n : ℕ) (z o : Edge) → n < length xs → used (at xs n) ≡ false → Kept xs (set xs n (linked z o))
kept_set xs n z o inside free = kept_by_slots xs (set xs n (linked z o)) (added_keeps xs n z o inside free)

-- the invariants of the table with the new vertex
pub counted_made : (xs : List Vertex) (n u : ℕ) (z o : Edge) → n < length xs → used (at xs n) ≡ false → u ≡ length (in_use xs) → u + 1 ≡ length (in_use (set xs n (linked z o)))
counted_made xs n u z o inside free h =
    omega (arith, length_in_use 0 xs, length_in_use 0 (set xs n (linked z o)), tally_set xs n (linked z o) inside free refl)

pub sound_made : (xs : List Vertex) (n : ℕ) (z o : Edge) → n < length xs → used (at xs n) ≡ false → ∥ Sound xs ∥₁ → Leads xs z → Leads xs o → Lacks xs z o → ∥ Sound (set xs n (linked z o)) ∥₁
sound_made xs n z o inside free sound lz lo new = ∥∥₁_map sound λ s. sound_added xs n z o inside free s lz lo new

-- what `fork` leaves, where the edges zero and one are taken for z and o
module _ (xs : List Vertex) (zero one z o : Edge) (to_zero : z ≡ led xs zero) (to_one : o ≡ led xs one) where
  pub found : (n : ℕ) → Has xs n z o → (a b : Shape) → Unfolds xs (led xs zero) a → Unfolds xs (led xs one) b → Made xs xs (fork a b) (To n)
  found n has a b l r = record {
    unfolds = here;
    found = λ f h. refl;
    room = λ none. absurd (none (To n) here);
    more = λ none. absurd (none (To n) here);
    others = λ m apart. refl;
  }
    where
      here : Unfolds xs (To n) (fork a b)
      here = unfolds_to (ap used has) (rw (ap zero_of has, to_zero) l) (rw (ap one_of has, to_one) r)

  module _ (sound : ∥ Sound xs ∥₁) (long : length xs ≡ 2048) (lacks : Lacks xs z o) where
    new : (a b : Shape) → Unfolds xs (led xs zero) a → Unfolds xs (led xs one) b → Unheld xs (fork a b)
    new a b l r = unheld xs z o sound lacks (rw to_zero l) (rw to_one r)

    pub refused : Full xs → (a b : Shape) → Unfolds xs (led xs zero) a → Unfolds xs (led xs one) b → Refused xs xs (fork a b) VerticesFull
    refused full a b l r = record {
      why_full = refl;
      new = new a b l r;
      full = length_in_use 0 xs ∙ tally_full xs (λ n h. full n (omega arith)) ∙ long;
      same = refl;
    }

    -- the table with the new vertex v
    module _ (n : ℕ) (place : (n < 2048) × (used (at xs n) ≡ false)) (v : Vertex) (is : v ≡ linked z o) where
      inside : n < length xs
      inside = omega (arith, place.0)

      pub kept_made : Kept xs (set xs n v)
      kept_made = rw is (kept_set xs n z o inside place.1)

      pub made : (a b : Shape) → Unfolds xs (led xs zero) a → Unfolds xs (led xs one) b → Made xs (set xs n v) (fork a b) (To n)
      made a b l r = rw is (record {
        unfolds = added_unfolds xs n z o inside place.1 (rw to_zero l) (rw to_one r);
        found = λ f h. absurd (new a b l r f h);
        room = λ none. omega (arith, length_in_use 0 xs, tally_free xs n inside place.1);
        more = λ none. length_in_use 0 (set xs n (linked z o)) ∙ tally_set xs n (linked z o) inside place.1 refl ∙ ap suc (sym (length_in_use 0 xs));
        others = λ m apart. added_other xs n z o inside place.1 m (λ e. apart (ap To (sym e)));
      })

      pub made_counted : (u : ℕ) → u ≡ length (in_use xs) → u + 1 ≡ length (in_use (set xs n v))
      made_counted u h = rw is (counted_made xs n u z o inside place.1 h)

      pub made_sound : ∥ Sound (set xs n v) ∥₁
      made_sound = rw is (sound_made xs n z o inside place.1 sound (rw to_zero (led_leads xs zero)) (rw to_one (led_leads xs one)) lacks)
