-- What a census of routes counts. Assumes nothing.
--   capped n            n, or the greatest number of 64 bits if that is less
--   nodes t             how many nodes the tree has
--   added p t           how many more nodes branch where the tree is grown by the row p
--   Counts c rs         c is the census of the routes rs: its graph is theirs, and so are its numbers
--   Fits, Overflows     the branching shapes before and after the row p comes, as one set, are at most 2,048, or more
--   Entered c d p r     r is what entering the row p answers, c before and d after
--   Took c d x r        r is what a line that stands for x answers, c before and d after
--   Tells rs s          the summary s tells the numbers of the routes rs
use Rattle.std.specs.Prelude.{◌≡◌, ℕ, suc, ◌+◌, ◌-◌, ◌^◌, ◌<◌, ◌≤◌, min, true, false, [], ◌∷◌, ◌++◌, length, Err, Result, MatchResult}
use Rattle.bits.specs.Lists.{different}
use Rattle.bits.specs.Rows.{Bits}
use Rattle.refusal.specs.declared.Refusal.{Refusal}
use Rattle.refusal.specs.declared.Refusal.TheVariants.{VerticesFull}
use Rattle.listing.specs.Listing.{Reading, refused, prefix}
use Rattle.tree.specs.Tree.{Routes, Shape, leaf, fork, alike, grown, pushed, leaves, shapes}
use Rattle.graph.specs.Slots.{Unfolds}
use Rattle.graph.specs.View.{Holds}
use Rattle.sizing.specs.declared.census.Census.{Census}
use Rattle.sizing.specs.declared.census.Summary.{Summary}

abbrev pub capped : ℕ → ℕ
capped n = min n (2 ^ 64 - 1)

abbrev pub nodes : Shape → ℕ
nodes leaf = 1
nodes (fork a b) = 1 + (nodes a + nodes b)

abbrev pub added : Bits → Shape → ℕ
added [] t = 0
added (b ∷ p) leaf = suc (length p)
added (false ∷ p) (fork l r) = added p l
added (true ∷ p) (fork l r) = added p r

pub record Counts (c : Census) (rs : Routes) : Type 0 where
  pub graph : Unfolds c.table.slots c.start (pushed rs)
  pub holds : Holds c.table.slots (shapes (pushed rs))
  pub routes : c.routes ≡ capped (length rs)
  pub forks : c.forks ≡ capped (length (shapes (pushed rs)))

abbrev pub Fits : Routes → Bits → Type 0
Fits rs p = different alike (shapes (pushed rs) ++ shapes (grown p (pushed rs))) ≤ 2048

abbrev pub Overflows : Routes → Bits → Type 0
Overflows rs p = 2048 < different alike (shapes (pushed rs) ++ shapes (grown p (pushed rs)))

-- a route's hop does not matter
abbrev pub Entered : Census → Census → Bits → Result Unit Refusal → Type 0
Entered c d p r = (rs : Routes) (h : ℕ) → Counts c rs → MatchResult r (λ _. Fits rs p × Counts d (record { at = p; hop = h } ∷ rs)) (λ why. (why ≡ VerticesFull) × Overflows rs p × Counts d rs)

abbrev pub Took : Census → Census → Reading → Result Unit Refusal → Type 0
Took c d (refused why) r = (r ≡ Err why) × (d ≡ c)
Took c d (prefix p) r = Entered c d p r

pub record Tells (rs : Routes) (s : Summary) : Type 0 where
  pub routes : s.routes ≡ capped (length rs)
  pub nodes_told : s.nodes ≡ capped (nodes (pushed rs))
  pub leaves_told : s.leaves ≡ capped (length (leaves (pushed rs) []))
  pub vertices : s.vertices ≡ different alike (shapes (pushed rs))
