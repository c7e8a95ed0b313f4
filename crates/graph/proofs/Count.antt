-- How many slots of a table are in use, and which. Assumes nothing.
use Rattle.std.proofs.Common.{◌≡◌, ℕ, zero, suc, ◌+◌, ◌<◌, ◌≤◌, Bool, true, false, cond, eqb, List, [], ◌∷◌, ◌++◌, length, take, set, replicate, sym, refl, ap, ◌∙◌, subst, arith}
use mathlib.Core.List.Memᴰ
use mathlib.Core.List.{Mem, Memᴰ}
use mathlib.Core.Bool.{Bool-set}
use mathlib.Core.Logic.{∥∥₁_elim}
use Rattle.std.proofs.lemmas.Bool.{true≢false, eq-eqb, eqb-true, ne_eqb, or_from}
use Rattle.std.proofs.lemmas.List.{take_more}
use Rattle.std.specs.List.{count_by, filter}
use Rattle.std.proofs.lemmas.List.Sums.{count_by-le-length, length-filter}
use Rattle.bits.specs.Lists.{any}
use Rattle.graph.specs.Slots.{used, blank, at, in_use, in_use_from}
use Rattle.graph.specs.declared.vertex.Vertex.{Vertex}
use Rattle.bits.proofs.Sets.{Equality, NoRepeats}

-- how many of the slots are in use
abbrev pub tally : List Vertex → ℕ
tally [] = 0
tally (v ∷ vs) = cond (used v) 1 0 + tally vs

pub count_is : (xs : List Vertex) → count_by used xs ≡ tally xs
count_is xs = sym (length-filter used xs) ∙ filtered xs
  where
    filtered : (xs : List Vertex) → length (filter used xs) ≡ tally xs
    filtered [] = refl
    filtered (v ∷ vs) = let ih = filtered vs in grind arith

pub length_in_use : (k : ℕ) (xs : List Vertex) → length (in_use_from k xs) ≡ tally xs
length_in_use k [] = refl
length_in_use k (v ∷ vs) = let ih = length_in_use (suc k) vs in grind arith

pub tally_at_most : (xs : List Vertex) → tally xs ≤ length xs
tally_at_most xs = omega (arith, count_is xs, count_by-le-length used xs)

pub tally_set : (xs : List Vertex) (n : ℕ) (v : Vertex) → n < length xs → used (at xs n) ≡ false → used v ≡ true → tally (set xs n v) ≡ suc (tally xs)
tally_set [] n v h free new = absurd (omega arith)
tally_set (x ∷ xs) zero v h free new = grind arith
tally_set (x ∷ xs) (suc n) v h free new = let ih = tally_set xs n v (omega arith) free new in grind arith

pub tally_full : (xs : List Vertex) → ((n : ℕ) → n < length xs → used (at xs n) ≡ true) → tally xs ≡ length xs
tally_full [] h = refl
tally_full (x ∷ xs) h =
    let ih = tally_full xs (λ n less. h (suc n) (omega arith)) in
    let here = h 0 (omega arith) in
    grind arith

pub tally_free : (xs : List Vertex) (n : ℕ) → n < length xs → used (at xs n) ≡ false → tally xs < length xs
tally_free [] n h free = absurd (omega arith)
tally_free (x ∷ xs) zero h free = let most = tally_at_most xs in grind arith
tally_free (x ∷ xs) (suc n) h free = let ih = tally_free xs n (omega arith) free in grind arith

pub tally_push : (xs : List Vertex) (v : Vertex) → tally (xs ++ v ∷ []) ≡ tally xs + cond (used v) 1 0
tally_push [] v = grind arith
tally_push (x ∷ xs) v = let ih = tally_push xs v in grind arith

pub tally_one_more : (xs : List Vertex) (i : ℕ) → i < length xs → tally (take (i + 1) xs) ≡ tally (take i xs) + cond (used (at xs i)) 1 0
tally_one_more xs i h = ap tally (take_more xs i blank h) ∙ tally_push (take i xs) (at xs i)

pub tally_blank : (n : ℕ) → tally (replicate n blank) ≡ 0
tally_blank zero = refl
tally_blank (suc n) = let ih = tally_blank n in grind arith

-- a slot is listed where it is in use, and once
pub listed : (k : ℕ) (xs : List Vertex) (n : ℕ) → used (at xs n) ≡ true → Memᴰ (k + n) (in_use_from k xs)
listed k [] n u = absurd (true≢false (sym u))
listed k (x ∷ xs) zero u = let e : k + 0 ≡ k = omega arith in rw (u, in_use_from) (Memᴰ.head e)
listed k (x ∷ xs) (suc n) u =
    let e : suc k + n ≡ k + suc n = omega arith in
    let ih = subst (λ m. Memᴰ m (in_use_from (suc k) xs)) e (listed (suc k) xs n u) in
    elim (used x) as (λ b. Memᴰ (k + suc n) (elim b [ true ↦ k ∷ in_use_from (suc k) xs | false ↦ in_use_from (suc k) xs ])) [ true ↦ Memᴰ.tail ih | false ↦ ih ]

pub listed_used : (k : ℕ) (xs : List Vertex) (m : ℕ) → Memᴰ m (in_use_from k xs) → (n : ℕ) × (m ≡ k + n) × (used (at xs n) ≡ true)
listed_used k [] m there = absurd (Memᴰ.not-nil there)
listed_used k (x ∷ xs) m there = go (used x) refl there (listed_used (suc k) xs m)
  where
    further : (n : ℕ) × (m ≡ suc k + n) × (used (at xs n) ≡ true) → (n : ℕ) × (m ≡ k + n) × (used (at (x ∷ xs) n) ≡ true)
    further (n, e, u) = (suc n, omega arith, u)

    split : Memᴰ m (k ∷ in_use_from (suc k) xs) → used x ≡ true → (Memᴰ m (in_use_from (suc k) xs) → (n : ℕ) × (m ≡ suc k + n) × (used (at xs n) ≡ true)) → (n : ℕ) × (m ≡ k + n) × (used (at (x ∷ xs) n) ≡ true)
    split (Memᴰ.head e) u below = (0, omega arith, u)
    split (Memᴰ.tail d) u below = further (below d)

    go : (b : Bool) → used x ≡ b → Memᴰ m (elim b [ true ↦ k ∷ in_use_from (suc k) xs | false ↦ in_use_from (suc k) xs ])
        → (Memᴰ m (in_use_from (suc k) xs) → (n : ℕ) × (m ≡ suc k + n) × (used (at xs n) ≡ true)) → (n : ℕ) × (m ≡ k + n) × (used (at (x ∷ xs) n) ≡ true)
    go true u d below = split d u below
    go false u d below = further (below d)

not_listed_below : (j k : ℕ) (xs : List Vertex) → j < k → any (eqb j) (in_use_from k xs) ≡ false
not_listed_below j k [] h = refl
not_listed_below j k (x ∷ xs) h =
    let ih = not_listed_below j (suc k) xs (omega arith) in
    let apart = ne_eqb j k (omega arith) in
    elim (used x) as (λ b. any (eqb j) (elim b [ true ↦ k ∷ in_use_from (suc k) xs | false ↦ in_use_from (suc k) xs ]) ≡ false) [ true ↦ or_from (eqb j k) _ apart ih | false ↦ ih ]

pub listed_once : (k : ℕ) (xs : List Vertex) → NoRepeats eqb (in_use_from k xs)
listed_once k [] = tt
listed_once k (x ∷ xs) =
    let ih = listed_once (suc k) xs in
    elim (used x) as (λ b. NoRepeats eqb (elim b [ true ↦ k ∷ in_use_from (suc k) xs | false ↦ in_use_from (suc k) xs ])) [ true ↦ (not_listed_below k (suc k) xs (omega arith), ih) | false ↦ ih ]

pub eqb_equality : Equality eqb
eqb_equality = record { sound = λ {x} {y} h. eqb-true x y h; self = λ x. eq-eqb x x refl }

pub used_listed : (xs : List Vertex) (n : ℕ) → used (at xs n) ≡ true → Mem n (in_use xs)
used_listed xs n u = let e : 0 + n ≡ n = omega arith in ∣ subst (λ m. Memᴰ m (in_use xs)) e (listed 0 xs n u) ∣₁

pub listed_in_use : (xs : List Vertex) (n : ℕ) → Mem n (in_use xs) → used (at xs n) ≡ true
listed_in_use xs n m = ∥∥₁_elim m (Bool-set _ _) λ d. go (listed_used 0 xs n d)
  where
    go : (k : ℕ) × (n ≡ 0 + k) × (used (at xs k) ≡ true) → used (at xs n) ≡ true
    go (k, e, u) = let same : n ≡ k = omega arith in rw same u

pub none_in_use : (k n : ℕ) → in_use_from k (replicate n blank) ≡ []
none_in_use k zero = refl
none_in_use k (suc n) = none_in_use (suc k) n
