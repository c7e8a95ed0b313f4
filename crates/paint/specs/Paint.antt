-- What painting the leaves that a node decides does to their store, and how many of them are new to it. Assumes nothing.
--   missing m q         the map does not have the row q
--   entries hop xs      how many entries the rows xs come to, each with the hop, or with none
--   fair hop            the hop is none, or one that is a hop
--   refusal c q hop     the first check of the store that refuses to give the row q the hop; to take its entry out is never refused
--   due c q hop         the refusal that is due at the row q, where a walk goes through it: `Length` where no prefix can have it, else the store's
--   Marks hop a q r b   what giving the row q the hop, or taking its entry out, answers and leaves; a before, b after
--   Done xs hop a b     each of the rows xs is a prefix's and has the hop, which is a fair one, and every other row is as it was
--   Stops xs hop a b w  a first part of the rows xs is done, and at the next one the refusal w is due
--   Painted xs hop a b r  r tells which of the two it is
--   Paints              what painting from the node q does, where the edge e leads to the tree below it
--   Counts              n of the leaves that painting reaches have no entry yet; 2 ^ 64 - 1 stands for more as well
use Rattle.std.specs.Prelude.{◌≡◌, ℕ, ◌+◌, ◌-◌, ◌^◌, min, Bool, true, cond, not, List, ◌∷◌, ◌++◌, Some, None, Option, Result, MatchResult}
use Rattle.bits.specs.Lists.{any, count}
use Rattle.bits.specs.Rows.{Bits, same}
use Rattle.refusal.specs.declared.Refusal.{Refusal}
use Rattle.refusal.specs.declared.Refusal.TheVariants.{Length}
use Rattle.tree.specs.Tree.{Shape}
use Rattle.store.specs.Content.{Told, Map, Content, Wrote, present, bad_hop, put_refusal}
use Rattle.graph.specs.Slots.{Unfolds}
use Rattle.graph.specs.declared.edge.Edge.{Edge}
use Rattle.graph.specs.declared.vertex.Vertex.{Vertex}
pub use Rattle.paint.specs.Reach.{has, nameable, reached, walked}

abbrev pub missing : Map → Bits → Bool
missing m q = not (has m q)

abbrev pub entries : Told → List Bits → ℕ
entries hop xs = count (λ _. present hop) xs

abbrev pub fair : Told → Bool
fair None = true
fair (Some h) = not (bad_hop h)

abbrev pub refusal : Content → Bits → Told → Option Refusal
refusal c q None = None
refusal c q (Some h) = put_refusal c q h

abbrev pub due : Content → Bits → Told → Option Refusal
due c q hop = cond (nameable q) (refusal c q hop) (Some Length)

pub record Marks (hop : Told) (a : Content) (q : Bits) (r : Result (Unit {0}) Refusal) (b : Content) : Type 0 where
  pub limits : b.limit ≡ a.limit
  pub marked : MatchResult r (λ _. (due a q hop ≡ None) × Wrote q hop a b) (λ why. (due a q hop ≡ Some why) × (b ≡ a))

pub record Done (xs : List Bits) (hop : Told) (a b : Content) : Type 0 where
  pub limits : b.limit ≡ a.limit
  pub rows : (q : Bits) → b.map q ≡ cond (any (same q) xs) hop (a.map q)
  pub number : b.held + count (has a.map) xs ≡ a.held + entries hop xs
  pub named : (q : Bits) → any (same q) xs ≡ true → nameable q ≡ true
  -- no row is given a number that is no hop
  pub good : (q : Bits) → any (same q) xs ≡ true → fair hop ≡ true

pub record Stops (xs : List Bits) (hop : Told) (a b : Content) (why : Refusal) : Type 0 where
  pub first : List Bits
  pub next : Bits
  pub rest : List Bits
  pub parts : xs ≡ first ++ (next ∷ rest)
  pub done : Done first hop a b
  pub refuses : due b next hop ≡ Some why

abbrev pub Painted : List Bits → Told → Content → Content → Result (Unit {0}) Refusal → Type 0
Painted xs hop a b r = MatchResult r (λ _. Done xs hop a b) (Stops xs hop a b)

abbrev pub Paints : Map → List Vertex → Edge → Bits → Told → Content → Content → Result (Unit {0}) Refusal → Type 0
Paints routes slots e q hop a b r = (t : Shape) → Unfolds slots e t → Painted (walked (has routes) t q) hop a b r

abbrev pub Counts : Map → Map → List Vertex → Edge → Bits → ℕ → Type 0
Counts routes leaves slots e q n = (t : Shape) → Unfolds slots e t → n ≡ min (count (missing leaves) (reached (has routes) t q)) (2 ^ 64 - 1)
