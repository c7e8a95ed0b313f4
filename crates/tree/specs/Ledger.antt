-- The ledger: a list of routes, and what each call answers by it. Assumes nothing.
--   Given                       what the ledger knows of the engine: the width and the two stores' limits
--   Call                        announce (address, length, hop), withdraw (address, length), lookup (address), count
--   Answer                      changed n (n new branching shapes), hop h, none, counts (routes, matched leaves, vertices), refused r
--   vertex_slots                how many branching shapes there is room for
--   stands rs p                 a route of the prefix p stands
--   struck rs p                 the routes without that of p
--   entered rs p h              the routes with p leading to h
--   vertices rs                 how many different branching shapes the routes have
--   new_shapes before after     how many different branching shapes there are afterwards that were not there before
--   together before after       how many different branching shapes there are before and after, as one set
--   checks xs                   the refusal of the first test that holds
--   turn g rs c                 the list after the call c, and its answer
--   after_calls g rs cs         the list after the calls cs, one after the other
--   answers g rs cs             the answer to each
use Rattle.std.specs.Prelude.{ℕ, Bool, true, false, not, ◌&&◌, List, [], ◌∷◌, ◌++◌, length, take, drop, Some, None, Option, ◌==◌, nat_lt}
pub use Rattle.refusal.specs.Hops.{greatest_hop, bad_hop}
use Rattle.refusal.specs.declared.Refusal.{Refusal}
use Rattle.refusal.specs.declared.Refusal.TheVariants.{Length, HostBits, Hop, Unknown, RoutesFull, LeavesFull, VerticesFull}
use Rattle.bits.specs.Lists.{any, different, only}
use Rattle.bits.specs.Rows.{Bits, same, any_one}
use Rattle.tree.specs.Tree.{Routes, alike, shapes, pushed, matched, longest, hop_of}

pub record Given : Type 0 where
  pub width : ℕ
  pub route_limit : ℕ
  pub leaf_limit : ℕ

pub data Call : Type 0 where
  announce : Bits → ℕ → ℕ → Call
  withdraw : Bits → ℕ → Call
  lookup : Bits → Call
  count : Call

pub data Answer : Type 0 where
  changed : ℕ → Answer
  hop : ℕ → Answer
  none : Answer
  counts : ℕ → ℕ → ℕ → Answer
  refused : Refusal → Answer

abbrev pub vertex_slots : ℕ
vertex_slots = 2048

abbrev pub stands : Routes → Bits → Bool
stands rs p = any (λ r. same r.at p) rs

abbrev pub struck : Routes → Bits → Routes
struck rs p = only (λ r. not (same r.at p)) rs

-- a standing route gets the new hop: its order in the list tells nothing
abbrev pub entered : Routes → Bits → ℕ → Routes
entered rs p h = record { at = p; hop = h } ∷ struck rs p

abbrev pub vertices : Routes → ℕ
vertices rs = different alike (shapes (pushed rs))

abbrev pub new_shapes : Routes → Routes → ℕ
new_shapes before after = different alike (only (λ s. not (any (alike s) (shapes (pushed before)))) (shapes (pushed after)))

abbrev pub together : Routes → Routes → ℕ
together before after = different alike (shapes (pushed before) ++ shapes (pushed after))

abbrev pub checks : List (Bool × Refusal) → Option Refusal
checks [] = None
checks (x ∷ xs) = elim x.0 [ true ↦ Some x.1 | false ↦ checks xs ]

-- the list and the answer, by the refusal if there is one
abbrev pub decided : Option Refusal → Routes → Routes → Routes × Answer
decided (Some r) before after = (before, refused r)
decided None before after = (after, changed (new_shapes before after))

abbrev pub looked : Option ℕ → Answer
looked None = none
looked (Some h) = hop h

module _ (g : Given) where
  -- the length n is over the width; a bit of the address a past it is 1
  abbrev pub prefix_checks : Bits → ℕ → List (Bool × Refusal)
  prefix_checks a n = (nat_lt g.width n, Length) ∷ (any_one (drop n a), HostBits) ∷ []

  -- for a new route the two stores and the vertices need room
  abbrev pub announce_checks : Routes → Bits → ℕ → ℕ → Option Refusal
  announce_checks rs a n h =
      let new : Bool = not (stands rs (take n a)) in
      let after : Routes = entered rs (take n a) h in
      checks (prefix_checks a n ++ (bad_hop h, Hop)
      ∷ (new && (length rs == g.route_limit), RoutesFull)
      ∷ (new && nat_lt g.leaf_limit (length (matched after)), LeavesFull)
      ∷ (new && nat_lt vertex_slots (together rs after), VerticesFull) ∷ [])

  abbrev pub withdraw_checks : Routes → Bits → ℕ → Option Refusal
  withdraw_checks rs a n =
      let after : Routes = struck rs (take n a) in
      checks (prefix_checks a n ++ (not (stands rs (take n a)), Unknown)
      ∷ (nat_lt vertex_slots (together rs after), VerticesFull) ∷ [])

  abbrev pub turn : Routes → Call → Routes × Answer
  turn rs (announce a n h) = decided (announce_checks rs a n h) rs (entered rs (take n a) h)
  turn rs (withdraw a n) = decided (withdraw_checks rs a n) rs (struck rs (take n a))
  turn rs (lookup a) = (rs, looked (hop_of (longest rs a)))
  turn rs count = (rs, counts (length rs) (length (matched rs)) (vertices rs))

  abbrev pub after_calls : Routes → List Call → Routes
  after_calls rs [] = rs
  after_calls rs (c ∷ cs) = after_calls (turn rs c).0 cs

  abbrev pub answers : Routes → List Call → List Answer
  answers rs [] = []
  answers rs (c ∷ cs) = (turn rs c).1 ∷ answers (turn rs c).0 cs
