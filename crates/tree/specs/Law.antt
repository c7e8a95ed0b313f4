-- What holds of an engine after any list of calls. Assumes nothing.
--   Map                        what a store tells of a prefix: its hop, if it holds one
--   Tells rs a x               x answers a lookup of a by the longest match, in words
--   asked rs c                 the list that a change asks for
--   Passed g rs c              c is a change, and no check before that of the vertices refuses it
--   standing g calls k         the routes that stand at the turn of call k
--   At calls given k c x       call k is c, and it was answered x
--   State W rs graph routes leaves     the graph, the route store and the leaf store are those of the routes rs
--   Law g calls given graph routes leaves     what holds of them all after the calls
use Rattle.std.specs.Prelude.{◌≡◌, ℕ, ◌<◌, ◌≤◌, true, false, ◌↔◌, List, [], length, take, drop, Some, Option, ◌≢◌, slice_index_or}
use mathlib.Core.List.{Mem}
use Rattle.refusal.specs.declared.Refusal.TheVariants.{VerticesFull}
use Rattle.bits.specs.Rows.{Bits, begins, any_one}
use Rattle.tree.specs.Tree.{Route, Routes, matched, longest, hop_of}
use Rattle.tree.specs.Graph.{Graph, Closed, EndsAtLeaves, OneForEach}
use Rattle.tree.specs.Ledger.{Given, Call, announce, withdraw, lookup, count, Answer, none, counts, refused, greatest_hop, vertex_slots, stands, struck, entered, together, turn, after_calls, answers}

abbrev pub Map : Type 0
Map = Bits → Option ℕ

-- a hop: of a standing route that a begins with, and no longer one does. None: a begins with no standing route
abbrev pub Tells : Routes → Bits → Answer → Type 0
Tells rs a (Answer.hop h) = ∥ ((r : Route) × Mem r rs × (r.hop ≡ h) × (begins r.at a ≡ true) × ((s : Route) → Mem s rs → begins s.at a ≡ true → length s.at ≤ length r.at)) ∥₁
Tells rs a Answer.none = (s : Route) → Mem s rs → begins s.at a ≢ true
Tells rs a (Answer.changed n) = ⊥
Tells rs a (Answer.counts n m k) = ⊥
Tells rs a (Answer.refused r) = ⊥

abbrev pub asked : Routes → Call → Routes
asked rs (announce a n h) = entered rs (take n a) h
asked rs (withdraw a n) = struck rs (take n a)
asked rs (lookup a) = rs
asked rs count = rs

-- the length is in range, and the bits past it are 0
pub record RightPrefix (g : Given) (a : Bits) (n : ℕ) : Type 0 where
  pub short : n ≤ g.width
  pub clear : any_one (drop n a) ≡ false

-- the routes have room for one more, and the leaf store for the matched leaves afterwards
pub record Room (g : Given) (before after : Routes) : Type 0 where
  pub routes : length before ≡ g.route_limit → ⊥
  pub leaves : length (matched after) ≤ g.leaf_limit

pub record PassedAnnounce (g : Given) (rs : Routes) (a : Bits) (n h : ℕ) : Type 0 where
  pub prefix : RightPrefix g a n
  pub hop_least : 1 ≤ h
  pub hop_most : h ≤ greatest_hop
  pub room : stands rs (take n a) ≡ false → Room g rs (entered rs (take n a) h)

pub record PassedWithdraw (g : Given) (rs : Routes) (a : Bits) (n : ℕ) : Type 0 where
  pub prefix : RightPrefix g a n
  pub known : stands rs (take n a) ≡ true

abbrev pub Passed : Given → Routes → Call → Type 0
Passed g rs (announce a n h) = PassedAnnounce g rs a n h
Passed g rs (withdraw a n) = PassedWithdraw g rs a n
Passed g rs (lookup a) = ⊥
Passed g rs count = ⊥

abbrev pub standing : Given → List Call → ℕ → Routes
standing g calls k = after_calls g [] (take k calls)

pub record At (calls : List Call) (given : List Answer) (k : ℕ) (c : Call) (x : Answer) : Type 0 where
  pub among : k < length calls
  pub call : slice_index_or calls k count ≡ c
  pub answer : slice_index_or given k none ≡ x

pub record State (W : ℕ) (rs : Routes) (graph : Graph) (route_map leaf_map : Map) : Type 0 where
  -- the route store holds exactly the standing routes, with their hops
  pub route_hops : (p : Bits) (h : ℕ) → (route_map p ≡ Some h) ↔ Mem (record { at = p; hop = h }) rs
  -- the leaf store holds exactly the matched leaves, with the hops of their longest matches
  pub leaf_hops : (q : Bits) (h : ℕ) → (leaf_map q ≡ Some h) ↔ (Mem q (matched rs) × (hop_of (longest rs q) ≡ Some h))
  -- each address's walk reaches the end at its leaf's depth
  pub closed : Closed graph
  pub walks : EndsAtLeaves W rs graph
  -- there is one vertex for each different branching shape, and every other such graph has at least as many
  pub one_for_each : OneForEach rs graph
  pub least : (other : Graph) → Closed other → EndsAtLeaves W rs other → length graph.vertices ≤ length other.vertices

pub record Law (g : Given) (calls : List Call) (given : List Answer) (graph : Graph) (route_map leaf_map : Map) : Type 0 where
  -- each call gave the ledger's answer
  pub answered : given ≡ answers g [] calls
  -- so each lookup gave the hop of the longest match among the routes standing at its turn, and none exactly where none matched
  pub longest_match : (k : ℕ) (a : Bits) (x : Answer) → At calls given k (lookup a) x → Tells (standing g calls k) a x
  -- each change that passed the earlier checks found the vertices full exactly when the shapes before and after, as one set, exceed their slots
  pub vertices_full : (k : ℕ) (c : Call) (x : Answer) → At calls given k c x → Passed g (standing g calls k) c
      → (x ≡ refused VerticesFull) ↔ (vertex_slots < together (standing g calls k) (asked (standing g calls k) c))
  -- stores and graph are those of the standing routes, and count tells the number of the vertices
  pub state : State g.width (after_calls g [] calls) graph route_map leaf_map
  pub counted : (turn g (after_calls g [] calls) count).1 ≡ counts (length (after_calls g [] calls)) (length (matched (after_calls g [] calls))) (length graph.vertices)
