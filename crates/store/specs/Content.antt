-- What a store holds, and what its calls do to it. Assumes nothing.
--   Told                what a store tells of a row: a hop, or absent
--   absent              the row is not in the map
--   hop_told h          the row is in the map, with the hop h
--   present t           the row is in the map
--   size t              how many rows that comes to: 1 or 0
--   Map                 what is told of each row
--   Content             a map, the number of its rows, and how many it may have
--   Counted m n         the map has exactly n rows
--   put_refusal c q h   the first check that refuses to set the hop h for the row q
--   Wrote q t a b       the row q is told as t now, and every other row as before; a before, b after
--   Puts q h a b r      what setting the hop h for the row q answers and leaves
--   Removes q a b t     what taking out the row q answers and leaves
--   Empty c             the map has no row
--   Sound c             a store can have this content: as many rows as it says, and no more than it may
use Rattle.std.specs.Prelude.{◌≡◌, ℕ, ◌+◌, ◌≤◌, Bool, cond, not, ◌&&◌, List, length, is_some, Some, None, Option, Result, MatchResult, ◌==◌}
use Rattle.bits.specs.Lists.{any}
use Rattle.bits.specs.Rows.{Bits, same}
use Rattle.bits.proofs.Sets.{NoRepeats}
pub use Rattle.refusal.specs.Hops.{bad_hop}
use Rattle.refusal.specs.declared.Refusal.{Refusal}
use Rattle.refusal.specs.declared.Refusal.TheVariants.{Hop, StoreFull}

abbrev pub Told : Type 0
Told = Option ℕ

abbrev pub absent : Told
absent = None

abbrev pub hop_told : ℕ → Told
hop_told h = Some h

abbrev pub present : Told → Bool
present t = is_some t

abbrev pub size : Told → ℕ
size t = cond (present t) 1 0

abbrev pub Map : Type 0
Map = Bits → Told

pub record Content : Type 0 where
  pub map : Map
  pub held : ℕ
  pub limit : ℕ

-- a list of the rows that are present, each once, and as long as the number says
pub record Listed (m : Map) (n : ℕ) (rows : List Bits) : Type 0 where
  pub once : NoRepeats same rows
  pub all : (q : Bits) → any (same q) rows ≡ present (m q)
  pub long : length rows ≡ n

abbrev pub Counted : Map → ℕ → Type 0
Counted m n = ∥ ((rows : List Bits) × Listed m n rows) ∥₁

abbrev pub put_refusal : Content → Bits → ℕ → Option Refusal
put_refusal c q h = cond (bad_hop h) (Some Hop) (cond (not (present (c.map q)) && c.held == c.limit) (Some StoreFull) None)

pub record Wrote (q : Bits) (t : Told) (a b : Content) : Type 0 where
  pub rows : (x : Bits) → b.map x ≡ cond (same x q) t (a.map x)
  pub number : b.held + size (a.map q) ≡ a.held + size t

abbrev pub Puts : Bits → ℕ → Content → Content → Result (Unit {0}) Refusal → Type 0
Puts q h a b r = MatchResult r (λ _. (put_refusal a q h ≡ None) × Wrote q (hop_told h) a b) (λ e. (put_refusal a q h ≡ Some e) × (b ≡ a))

pub record Removes (q : Bits) (a b : Content) (t : Told) : Type 0 where
  pub answer : t ≡ a.map q
  pub taken : Wrote q absent a b
  pub nothing : a.map q ≡ absent → b ≡ a

pub record Empty (c : Content) : Type 0 where
  pub rows : (q : Bits) → c.map q ≡ absent
  pub number : c.held ≡ 0

pub record Sound (c : Content) : Type 0 where
  pub within : c.held ≤ c.limit
  pub most : c.limit ≤ 16777216
  -- the number held is the number of rows in the map
  pub counted : Counted c.map c.held
