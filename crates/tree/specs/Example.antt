-- The worked example, in a table: calls to a new engine, and what they answer. Assumes nothing.
--   address n            the row of an address of 32 bits
--   Case                 what the ledger knows, a list of calls, and the answers to expect
--   Example              in each case of the table the ledger's answers are the expected ones
use Rattle.std.specs.Prelude.{◌≡◌, ℕ, List, [], ◌∷◌, map}
use Rattle.refusal.specs.declared.Refusal.TheVariants.{Length, HostBits, Hop, Unknown, RoutesFull, LeavesFull}
use Rattle.bits.specs.Rows.{Bits, word}
use Rattle.tree.specs.Ledger.{Given, Call, announce, withdraw, lookup, count, Answer, changed, hop, none, counts, refused, answers}

abbrev pub address : ℕ → Bits
address n = word 32 n

pub record Case : Type 0 where
  pub given : Given
  pub calls : List Call
  pub expected : List Answer

-- 512 routes, and 1,280 matched leaves
abbrev pub new : List Call → List Answer → Case
new calls expected = record { given = record { width = 32; route_limit = 512; leaf_limit = 1280 }; calls = calls; expected = expected }

-- the same after the routes of the empty prefix, 00, 11, 101 and 110
abbrev pub after_five : List Call → List Answer → Case
after_five calls expected = new
    (announce (address 0x0000_0000) 0 10
    ∷ announce (address 0x0000_0000) 2 11
    ∷ announce (address 0xc000_0000) 2 12
    ∷ announce (address 0xa000_0000) 3 13
    ∷ announce (address 0xc000_0000) 3 14
    ∷ calls)
    (changed 0 ∷ changed 2 ∷ changed 1 ∷ changed 2 ∷ changed 2 ∷ expected)

-- stores that are soon full
abbrev pub small : ℕ → ℕ → List Call → List Answer → Case
small routes leaves calls expected = record { given = record { width = 32; route_limit = routes; leaf_limit = leaves }; calls = calls; expected = expected }

abbrev pub table : List Case
table =
    -- nothing stands
    new (lookup (address 0x0000_0000) ∷ count ∷ []) (none ∷ counts 0 0 0 ∷ [])
    -- the five routes
    ∷ after_five (count ∷ []) (counts 5 6 3 ∷ [])
    ∷ after_five (lookup (address 0x0000_0001) ∷ lookup (address 0xa000_0000) ∷ lookup (address 0xe000_0000) ∷ []) (hop 11 ∷ hop 13 ∷ hop 12 ∷ [])
    ∷ after_five (withdraw (address 0xc000_0000) 3 ∷ lookup (address 0xdfff_ffff) ∷ []) (changed 2 ∷ hop 12 ∷ [])
    ∷ after_five
    (lookup (address 0x4000_0000) ∷ lookup (address 0xdfff_ffff) ∷ withdraw (address 0xc000_0000) 3 ∷ count ∷ announce (address 0xc000_0001) 3 9 ∷ count ∷ [])
    (hop 10 ∷ hop 14 ∷ changed 2 ∷ counts 4 5 3 ∷ refused HostBits ∷ counts 4 5 3 ∷ [])
    -- a new hop for a standing route, and a withdrawal of none
    ∷ after_five
    (announce (address 0xc000_0000) 3 15 ∷ lookup (address 0xdfff_ffff) ∷ count ∷ withdraw (address 0xc000_0000) 4 ∷ withdraw (address 0xc000_0001) 4 ∷ withdraw (address 0xc000_0001) 33 ∷ count ∷ [])
    (changed 0 ∷ hop 15 ∷ counts 5 6 3 ∷ refused Unknown ∷ refused HostBits ∷ refused Length ∷ counts 5 6 3 ∷ [])
    -- mirrored shapes are two
    ∷ new (announce (address 0x0000_0000) 3 1 ∷ announce (address 0xe000_0000) 3 2 ∷ count ∷ []) (changed 3 ∷ changed 2 ∷ counts 2 2 4 ∷ [])
    -- a node with a route on a child stays branching
    ∷ new
    (announce (address 0x0000_0000) 1 5 ∷ announce (address 0x0000_0000) 2 6 ∷ withdraw (address 0x0000_0000) 2 ∷ count ∷ lookup (address 0x0000_0000) ∷ lookup (address 0x8000_0000) ∷ [])
    (changed 1 ∷ changed 1 ∷ changed 0 ∷ counts 1 1 1 ∷ hop 5 ∷ none ∷ [])
    -- the longest prefix, and one too long
    ∷ new (announce (address 0xffff_ffff) 32 1 ∷ count ∷ lookup (address 0xffff_fffe) ∷ []) (changed 32 ∷ counts 1 1 32 ∷ none ∷ [])
    ∷ new (announce (address 0x0000_0000) 33 1 ∷ announce (address 0x0000_0001) 33 0 ∷ count ∷ []) (refused Length ∷ refused Length ∷ counts 0 0 0 ∷ [])
    -- the greatest hop, and hops out of range
    ∷ new (announce (address 0x0000_0000) 0 65535 ∷ lookup (address 0x0000_0000) ∷ []) (changed 0 ∷ hop 65535 ∷ [])
    ∷ new
    (announce (address 0x0000_0000) 0 0 ∷ announce (address 0x0000_0000) 0 65536 ∷ announce (address 0x0000_0001) 0 0 ∷ count ∷ [])
    (refused Hop ∷ refused Hop ∷ refused HostBits ∷ counts 0 0 0 ∷ [])
    -- full stores: a new hop and a withdrawal need no room
    ∷ small 1 8
    (announce (address 0x0000_0000) 0 1 ∷ announce (address 0x0000_0000) 1 2 ∷ announce (address 0x0000_0000) 0 3 ∷ lookup (address 0x0000_0000) ∷ withdraw (address 0x0000_0000) 0 ∷ announce (address 0x0000_0000) 1 2 ∷ count ∷ [])
    (changed 0 ∷ refused RoutesFull ∷ changed 0 ∷ hop 3 ∷ changed 0 ∷ changed 1 ∷ counts 1 1 1 ∷ [])
    ∷ small 8 2
    (announce (address 0x0000_0000) 0 1 ∷ announce (address 0x0000_0000) 2 2 ∷ announce (address 0x0000_0000) 1 2 ∷ count ∷ lookup (address 0x8000_0000) ∷ [])
    (changed 0 ∷ refused LeavesFull ∷ changed 1 ∷ counts 2 2 1 ∷ hop 1 ∷ [])
    ∷ []

abbrev pub Example : Type 0
Example = map (λ c. answers c.given [] c.calls) table ≡ map (λ c. c.expected) table
