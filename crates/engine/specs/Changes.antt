-- What a change needs to be made, and how it settles, the state s before and t after. Assumes nothing.
--   room_checks g rs ss         the refusal of the first check that finds no room for the routes ss
--   fold_checks rs ss           the refusal of the check that finds no room for the shapes of rs and ss
--   RoomFor c n r               r tells whether a store of the content c has room for n rows more
--   Ready g rs ss o s           the state serves rs, and ss is a list that calls lead to where no check refuses, which o tells
--   CanEnter g rs p h s         the same for the list that entering p leads to
--   Entering g rs p h s t r     r is what entering the route of p settles
--   Enters p h s t r            r is what entering a new route of p answers
--   EntersAt p edge h s t r     the same for a node of the tree, which the edge leads to, where the routes have room
--   EntersBelow q p h s t r     the same below the leaf q
--   Strikes p s t r             r is what striking the standing route of p answers
use Rattle.std.specs.Prelude.{◌≡◌, ℕ, ◌-◌, ◌<◌, ◌≤◌, true, false, [], ◌∷◌, length, None, Option, Result, MatchResult, ◌==◌, nat_lt}
use Rattle.bits.specs.Rows.{Bits}
use Rattle.refusal.specs.declared.Refusal.{Refusal}
use Rattle.refusal.specs.declared.Refusal.TheVariants.{RoutesFull, LeavesFull, VerticesFull}
use Rattle.tree.specs.Tree.{Routes, above, has_node, shape_at, pushed, matched}
use Rattle.tree.specs.Ledger.{Given, vertex_slots, stands, struck, entered, together, checks, decided}
use Rattle.tree.specs.LedgerLaws as ledger
use Rattle.tree.specs.HopLaws.{Leaf}
use Rattle.store.specs.Content.{Content}
use Rattle.graph.specs.Slots.{Unfolds}
use Rattle.graph.specs.declared.edge.Edge.{Edge}
use Rattle.engine.specs.State.{State}
use Rattle.engine.specs.Serves.{Serves, Settles}

abbrev pub room_checks : Given → Routes → Routes → Option Refusal
room_checks g rs ss =
    checks (((length rs == g.route_limit), RoutesFull)
    ∷ (nat_lt g.leaf_limit (length (matched ss)), LeavesFull)
    ∷ (nat_lt vertex_slots (together rs ss), VerticesFull) ∷ [])

abbrev pub fold_checks : Routes → Routes → Option Refusal
fold_checks rs ss = checks ((nat_lt vertex_slots (together rs ss), VerticesFull) ∷ [])

abbrev pub RoomFor : Content → ℕ → Result (Unit {0}) Refusal → Type 0
RoomFor c n r = MatchResult r (λ _. n ≤ c.limit - c.held) (λ why. (why ≡ LeavesFull) × (c.limit - c.held < n))

-- the state serves rs, and where no check refuses, ss is a list that calls lead to
pub record Ready (g : Given) (rs ss : Routes) (o : Option Refusal) (s : State) : Type 0 where
  pub serves : Serves g rs s
  pub sound : o ≡ None → ledger.Sound g ss

abbrev pub CanEnter : Given → Routes → Bits → ℕ → State → Type 0
CanEnter g rs p h s = Ready g rs (entered rs p h) (room_checks g rs (entered rs p h)) s

abbrev pub Entering : Given → Routes → Bits → ℕ → State → State → Result ℕ Refusal → Type 0
Entering g rs p h s t r = Settles g (decided (room_checks g rs (entered rs p h)) rs (entered rs p h)) s t r

abbrev pub Enters : Bits → ℕ → State → State → Result ℕ Refusal → Type 0
Enters p h s t r = (g : Given) (rs : Routes) → CanEnter g rs p h s → stands rs p ≡ false → Entering g rs p h s t r

abbrev pub EntersAt : Bits → Edge → ℕ → State → State → Result ℕ Refusal → Type 0
EntersAt p edge h s t r = (g : Given) (rs : Routes) → CanEnter g rs p h s → (length rs == g.route_limit) ≡ false
    → has_node (pushed rs) p ≡ true → Unfolds s.slots edge (shape_at (pushed rs) p) → Entering g rs p h s t r

abbrev pub EntersBelow : Bits → Bits → ℕ → State → State → Result ℕ Refusal → Type 0
EntersBelow q p h s t r = (g : Given) (rs : Routes) → CanEnter g rs p h s → (length rs == g.route_limit) ≡ false
    → Leaf rs q → above q p ≡ true → Entering g rs p h s t r

abbrev pub Strikes : Bits → State → State → Result ℕ Refusal → Type 0
Strikes p s t r = (g : Given) (rs : Routes) → Ready g rs (struck rs p) (fold_checks rs (struck rs p)) s → stands rs p ≡ true
    → Settles g (decided (fold_checks rs (struck rs p)) rs (struck rs p)) s t r
