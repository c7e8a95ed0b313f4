-- What the two stores hold, as functions of the routes, and what a change does to them. Assumes nothing.
--   hop_at rs p          the hop of the route of exactly p
--   leaf_entry rs q      the hop of the matched leaf q, and none at any other row
--   RoutesTold rs m     the map m has exactly the standing routes, in words
--   LeavesTold rs m     the map m has exactly the matched leaves with their hops, in words
use Rattle.std.specs.Prelude.{◌≡◌, ℕ, ◌<◌, ◌≤◌, true, false, cond, ◌↔◌, [], ◌∷◌, map, length, take, is_some, Some, None}
use mathlib.Core.List.{Mem, Nodup}
use Rattle.bits.specs.Lists.{any}
use Rattle.bits.specs.Rows.{Bits, same, begins}
use Rattle.tree.specs.Tree.{Routes, above, has_node, pushed, leaves, matched, longest, hop_of}
use Rattle.tree.specs.Graph.{Graph, Closed, Reads, OneForEach}
use Rattle.tree.specs.Ledger.{stands, struck, entered}
use Rattle.tree.specs.Law.{Map, State}
use Rattle.tree.specs.LeafLaws.{AtMost}
use Rattle.tree.specs.LedgerLaws.{Once}
use Rattle.tree.specs.Changes.{reach, twigs}
use Rattle.tree.specs.HopLaws.{leaf_hop, Leaf}

abbrev pub hop_at : Routes → Map
hop_at [] p = None
hop_at (r ∷ rs) p = cond (same r.at p) (Some r.hop) (hop_at rs p)

abbrev pub leaf_entry : Routes → Map
leaf_entry rs q = cond (any (same q) (leaves (pushed rs) [])) (hop_of (longest rs q)) None

abbrev pub RoutesTold : Routes → Map → Type 0
RoutesTold rs m = (p : Bits) (h : ℕ) → (m p ≡ Some h) ↔ Mem (record { at = p; hop = h }) rs

abbrev pub LeavesTold : Routes → Map → Type 0
LeavesTold rs m = (q : Bits) (h : ℕ) → (m q ≡ Some h) ↔ (Mem q (matched rs) × (hop_of (longest rs q) ≡ Some h))

pub record StoreLaws : Type 0 where
  -- the words and the functions say the same
  pub routes_told : (rs : Routes) (m : Map) → Once rs → RoutesTold rs m ↔ ((p : Bits) → m p ≡ hop_at rs p)
  pub leaves_told : (rs : Routes) (m : Map) → LeavesTold rs m ↔ ((q : Bits) → m q ≡ leaf_entry rs q)
  -- the rows that each store has, each once
  pub routes_once : (rs : Routes) → Once rs → Nodup (map (λ r. r.at) rs)
  pub routes_listed : (rs : Routes) (p : Bits) → any (same p) (map (λ r. r.at) rs) ≡ stands rs p
  pub routes_held : (rs : Routes) (p : Bits) → is_some (hop_at rs p) ≡ stands rs p
  pub leaves_held : (rs : Routes) (q : Bits) → is_some (leaf_entry rs q) ≡ any (same q) (matched rs)
  -- what the leaf store has at an address's leaf is the address's longest match
  pub found_at_leaf : (rs : Routes) (a q : Bits) → Mem q (leaves (pushed rs) []) → begins q a ≡ true → leaf_entry rs q ≡ hop_of (longest rs a)
  -- a closed graph whose start has the tree's shape, with a vertex for each shape, makes the state whole
  pub state_holds : (W : ℕ) (rs : Routes) (graph : Graph) (routes leaves : Map) → AtMost W rs → Closed graph → Reads graph.edge graph.start (pushed rs) → OneForEach rs graph
      → RoutesTold rs routes → LeavesTold rs leaves → State W rs graph routes leaves

pub record EntryLaws : Type 0 where
  -- what a change does to the route store
  pub entered_hop : (rs : Routes) (p : Bits) (h : ℕ) (q : Bits) → hop_at (entered rs p h) q ≡ cond (same p q) (Some h) (hop_at rs q)
  pub struck_hop : (rs : Routes) (p : Bits) (q : Bits) → hop_at (struck rs p) q ≡ cond (same p q) None (hop_at rs q)
  -- what a change at a node p does to the leaf store: the leaves in p's reach are written
  pub enters_node : (rs : Routes) (p : Bits) (h : ℕ) → has_node (pushed rs) p ≡ true → (u : Bits)
      → leaf_entry (entered rs p h) u ≡ cond (any (same u) (reach rs p)) (Some h) (leaf_entry rs u)
  pub strikes_node : (rs : Routes) (p : Bits) → stands rs p ≡ true → has_node (pushed (struck rs p)) p ≡ true → (u : Bits)
      → leaf_entry (struck rs p) u ≡ cond (any (same u) (reach rs p)) (leaf_hop (struck rs p) p) (leaf_entry rs u)
  -- below a leaf q: p is written, the leaves beside the way get what q had, and q goes
  pub enters_below : (rs : Routes) (q p : Bits) (h : ℕ) → Leaf rs q → above q p ≡ true → (u : Bits)
      → leaf_entry (entered rs p h) u ≡ cond (same u p) (Some h) (cond (any (same u) (twigs q p)) (leaf_entry rs q) (cond (same u q) None (leaf_entry rs u)))
  -- back to a leaf q: q is written, and p and the leaves beside the way go
  pub strikes_below : (rs : Routes) (q p : Bits) → stands rs p ≡ true → Leaf (struck rs p) q → above q p ≡ true → (u : Bits)
      → leaf_entry (struck rs p) u ≡ cond (same u q) (leaf_hop (struck rs p) p) (cond (any (same u) (twigs q p)) None (leaf_entry rs u))
  -- the longest match, found by the lengths of the beginnings at which a route stands
  pub found_by_length : (rs : Routes) (q : Bits) (n h : ℕ) → Once rs → n ≤ length q → hop_at rs (take n q) ≡ Some h
      → ((k : ℕ) → n < k → k ≤ length q → stands rs (take k q) ≡ false) → leaf_hop rs q ≡ Some h
  pub none_by_length : (rs : Routes) (q : Bits) → ((k : ℕ) → k ≤ length q → stands rs (take k q) ≡ false) → leaf_hop rs q ≡ None
  -- so the match that is left for p once its route is struck is that of the next shorter one
  pub next_shorter : (rs : Routes) (p : Bits) (n h : ℕ) → Once rs → n < length p → hop_at rs (take n p) ≡ Some h
      → ((k : ℕ) → n < k → k < length p → stands rs (take k p) ≡ false) → leaf_hop (struck rs p) p ≡ Some h
  pub none_shorter : (rs : Routes) (p : Bits) → ((k : ℕ) → k < length p → stands rs (take k p) ≡ false) → leaf_hop (struck rs p) p ≡ None
