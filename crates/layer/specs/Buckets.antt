-- The buckets of a layer, over the list of its 768 slots. Assumes nothing.
--   bucket xs b           the slots of bucket b: those numbered 3 × b, 3 × b + 1 and 3 × b + 2
--   fill xs b             how many entries bucket b has
--   near f p b            bucket b is one of the prefix's four, where f is the chooser's function
--   astray f i s          the entry in slot i lies in none of its four buckets
--   strays_in f xs        how many entries do
--   earliest_least g n    of the numbers below n the earliest among those with the least g
--   ChoiceLaw            that is what it is
--   choice f xs p         the least filled of the prefix's four buckets, the earliest try among equals
--   FindsIn xs b q r     r is a slot of bucket b that holds the row q, or none where none does
--   FindsNear f xs p r   r is a slot that holds the prefix, or none where none of its four buckets has one
--   FreesIn xs b r       r is a free slot of bucket b, or none where it is full
--   Rooms f xs p r        r is a free slot of the choice, or none where it is full
use Rattle.std.specs.Prelude.{◌≡◌, ℕ, zero, suc, ◌+◌, ◌*◌, ◌/◌, ◌<◌, ◌≤◌, Bool, true, false, cond, not, ◌||◌, List, [], ◌∷◌, Some, None, Option, MatchOption, ◌==◌, nat_lt, slice_range}
use Rattle.bits.specs.Rows.{Bits}
use Rattle.net.specs.Prefix.{row_of}
use Rattle.net.specs.declared.prefix.Prefix.{Prefix}
use Rattle.store.specs.Slots.{Slot, at, holds, taken, used}

abbrev pub bucket : List Slot → ℕ → List Slot
bucket xs b = slice_range xs (3 * b) (3 * b + 3)

abbrev pub fill : List Slot → ℕ → ℕ
fill xs b = used (bucket xs b)

abbrev pub near : (Prefix → ℕ → ℕ) → Prefix → ℕ → Bool
near f p b = f p 0 == b || (f p 1 == b || (f p 2 == b || f p 3 == b))

abbrev pub astray : (Prefix → ℕ → ℕ) → ℕ → Slot → Bool
astray f i None = false
astray f i (Some e) = not (near f e.prefix (i / 3))

-- the slots from number i on
abbrev pub strays_from : (Prefix → ℕ → ℕ) → ℕ → List Slot → ℕ
strays_from f i [] = 0
strays_from f i (s ∷ xs) = cond (astray f i s) 1 0 + strays_from f (suc i) xs

abbrev pub strays_in : (Prefix → ℕ → ℕ) → List Slot → ℕ
strays_in f xs = strays_from f 0 xs

unfoldable pub earliest_least : (ℕ → ℕ) → ℕ → ℕ
earliest_least g zero = 0
earliest_least g (suc n) = cond (nat_lt (g n) (g (earliest_least g n))) n (earliest_least g n)

-- no other of the n has less, and an earlier one has more
pub record EarliestLeast (g : ℕ → ℕ) (n i : ℕ) : Type 0 where
  pub below : i < n
  pub least : (k : ℕ) → k < n → g i ≤ g k
  pub earliest : (k : ℕ) → k < i → g i < g k

abbrev pub ChoiceLaw : Type 0
ChoiceLaw = (g : ℕ → ℕ) (n : ℕ) → 0 < n → EarliestLeast g n (earliest_least g n)

unfoldable pub choice : (Prefix → ℕ → ℕ) → List Slot → Prefix → ℕ
choice f xs p = f p (earliest_least (λ j. fill xs (f p j)) 4)

abbrev pub FindsIn : List Slot → ℕ → Bits → Option ℕ → Type 0
FindsIn xs b q r = MatchOption r ((i : ℕ) → i / 3 ≡ b → holds q (at xs i) ≡ false) (λ i. (i < 768) × (holds q (at xs i) ≡ true))

abbrev pub FindsNear : (Prefix → ℕ → ℕ) → List Slot → Prefix → Option ℕ → Type 0
FindsNear f xs p r = MatchOption r ((i : ℕ) → near f p (i / 3) ≡ true → holds (row_of p) (at xs i) ≡ false) (λ i. (i < 768) × (holds (row_of p) (at xs i) ≡ true))

abbrev pub FreesIn : List Slot → ℕ → Option ℕ → Type 0
FreesIn xs b r = MatchOption r (fill xs b ≡ 3) (λ i. (i / 3 ≡ b) × (i < 768) × (taken (at xs i) ≡ false))

abbrev pub Rooms : (Prefix → ℕ → ℕ) → List Slot → Prefix → Option ℕ → Type 0
Rooms f xs p r = FreesIn xs (choice f xs p) r
