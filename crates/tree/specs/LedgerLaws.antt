-- What the calls keep of the ledger, and that one more call keeps the law over runs. Assumes nothing.
--   Once rs        no prefix stands twice
--   Sound g rs     what every list has that calls lead to: each prefix once and no longer than the width, hops in range, no limit exceeded
use Rattle.std.specs.Prelude.{◌≡◌, ℕ, suc, ◌<◌, ◌≤◌, true, false, ◌↔◌, List, [], ◌∷◌, ◌++◌, length}
use mathlib.Core.List.{Mem}
use Rattle.refusal.specs.declared.Refusal.{Refusal}
use Rattle.refusal.specs.declared.Refusal.TheVariants.{VerticesFull}
use Rattle.bits.specs.Rows.{Bits}
use Rattle.tree.specs.Tree.{Route, Routes, matched}
use Rattle.tree.specs.Graph.{Graph}
use Rattle.tree.specs.Ledger.{Given, Call, Answer, changed, refused, greatest_hop, vertex_slots, stands, struck, entered, vertices, new_shapes, together, turn, after_calls, answers}
use Rattle.tree.specs.Law.{Map, asked, Passed, State, Law}
use Rattle.tree.specs.LeafLaws.{AtMost, Best}

abbrev pub Once : Routes → Type 0
Once [] = Unit {0}
Once (r ∷ rs) = (stands rs r.at ≡ false) × Once rs

pub record Sound (g : Given) (rs : Routes) : Type 0 where
  pub once : Once rs
  pub short : AtMost g.width rs
  pub hops : (r : Route) → Mem r rs → (1 ≤ r.hop) × (r.hop ≤ greatest_hop)
  pub routes_fit : length rs ≤ g.route_limit
  pub leaves_fit : length (matched rs) ≤ g.leaf_limit
  pub vertices_fit : vertices rs ≤ vertex_slots

pub record LedgerLaws : Type 0 where
  -- a list that is sound stays sound
  pub starts_sound : (g : Given) → Sound g []
  pub stays_sound : (g : Given) (rs : Routes) (c : Call) → Sound g rs → Sound g (turn g rs c).0
  pub always_sound : (g : Given) (calls : List Call) → Sound g (after_calls g [] calls)
  -- a change that passes the earlier checks is refused for the vertices exactly when the shapes before and after, as one set, exceed their slots; else it is granted
  pub full_exactly : (g : Given) (rs : Routes) (c : Call) → Sound g rs → Passed g rs c → ((turn g rs c).1 ≡ refused VerticesFull) ↔ (vertex_slots < together rs (asked rs c))
  pub granted : (g : Given) (rs : Routes) (c : Call) → Sound g rs → Passed g rs c → together rs (asked rs c) ≤ vertex_slots → turn g rs c ≡ (asked rs c, changed (new_shapes rs (asked rs c)))
  -- whatever is granted or refused for the vertices passed the earlier checks
  pub granted_passed : (g : Given) (rs : Routes) (c : Call) (n : ℕ) → (turn g rs c).1 ≡ changed n → Passed g rs c
  pub full_passed : (g : Given) (rs : Routes) (c : Call) → (turn g rs c).1 ≡ refused VerticesFull → Passed g rs c
  -- a refusal leaves the list as it was
  pub refusals_keep : (g : Given) (rs : Routes) (c : Call) (r : Refusal) → (turn g rs c).1 ≡ refused r → (turn g rs c).0 ≡ rs
  -- among routes without repeats there is one longest match
  pub one_best : (rs : Routes) (q : Bits) (r s : Route) → Once rs → Best rs q r → Best rs q s → r ≡ s
  -- the number of routes
  pub one_more : (rs : Routes) (p : Bits) (h : ℕ) → stands rs p ≡ false → length (entered rs p h) ≡ suc (length rs)
  pub as_many : (rs : Routes) (p : Bits) (h : ℕ) → Once rs → stands rs p ≡ true → length (entered rs p h) ≡ length rs
  pub one_less : (rs : Routes) (p : Bits) → Once rs → stands rs p ≡ true → suc (length (struck rs p)) ≡ length rs

pub record RunLaws : Type 0 where
  -- the law holds where each call gave the ledger's answer, and stores and graph are those of the standing routes
  pub law_holds : (g : Given) (calls : List Call) (given : List Answer) (graph : Graph) (routes leaves : Map)
      → given ≡ answers g [] calls → State g.width (after_calls g [] calls) graph routes leaves → Law g calls given graph routes leaves
  -- so it holds of no calls, and of one call more
  pub law_starts : (g : Given) (graph : Graph) (routes leaves : Map) → State g.width [] graph routes leaves → Law g [] [] graph routes leaves
  pub law_steps : (g : Given) (calls : List Call) (given : List Answer) (graph : Graph) (routes leaves : Map) (c : Call) (graph' : Graph) (routes' leaves' : Map)
      → Law g calls given graph routes leaves → State g.width (turn g (after_calls g [] calls) c).0 graph' routes' leaves'
      → Law g (calls ++ (c ∷ [])) (given ++ ((turn g (after_calls g [] calls) c).1 ∷ [])) graph' routes' leaves'
