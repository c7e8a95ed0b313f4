-- Worked cases of the ledger and of images, in one table. Assumes nothing.
--   Case              a case of the ledger's table; or an image, an address and the leaf's length to expect, none where the image is broken
--   Outcome           what a case comes to
--   came c            what the case c comes to, by the definitions
--   expected c        what it should come to
--   CasesHold        the table has all its cases, and in each of them the two are equal
use Rattle.std.specs.Prelude.{◌≡◌, ℕ, List, [], ◌∷◌, ◌++◌, map, length, replicate, Some, None, Option}
use Rattle.bits.specs.Rows.{Bits}
use Rattle.tree.specs.Example as example
use Rattle.tree.specs.Example.{address}
use Rattle.tree.specs.Ledger.{Answer, answers}
use Rattle.image.specs.Image.{Image, image_walk}

pub data Case : Type 0 where
  calling : example.Case → Case
  walking : Image → Bits → Option ℕ → Case

pub data Outcome : Type 0 where
  answered : List Answer → Outcome
  walked : Option ℕ → Outcome

abbrev pub came : Case → Outcome
came (calling c) = answered (answers c.given [] c.calls)
came (walking i a d) = walked (image_walk i a)

abbrev pub expected : Case → Outcome
expected (calling c) = answered c.expected
expected (walking i a d) = walked d

-- one vertex of the stride 3, with all edges to the end
abbrev pub one_vertex : ℕ → Image
one_vertex marks = record { edges = replicate 8 0; marks = marks ∷ []; stride = 3; vertices = 1 }

-- a chain of two vertices of the stride 2: below 01 comes a second step
abbrev pub two_vertices : ℕ → Image
two_vertices edge = record { edges = 0 ∷ edge ∷ 0 ∷ 0 ∷ 0 ∷ 0 ∷ 0 ∷ 0 ∷ []; marks = 2 ∷ 12 ∷ []; stride = 2; vertices = 2 }

-- a vertex of the stride 3 that 111 leads back to
abbrev pub going_round : ℕ → Image
going_round marks = record { edges = replicate 7 0 ++ (1 ∷ []); marks = marks ∷ []; stride = 3; vertices = 1 }

-- the image at the stride 2 of the tree of the empty prefix, 00, 11, 101 and 110: its whole shape, then that below 0, 10 and 11, then that below 1
abbrev pub five_routes : Image
five_routes = record { edges = 0 ∷ 0 ∷ 2 ∷ 2 ∷ 0 ∷ 0 ∷ 0 ∷ 0 ∷ 0 ∷ 0 ∷ 0 ∷ 0 ∷ []; marks = 10 ∷ 12 ∷ 10 ∷ []; stride = 2; vertices = 3 }

abbrev pub table : List Case
table =
    map calling example.table ++
    (walking (one_vertex 172) (address 0x4000_0000) (Some 2)
    ∷ walking (one_vertex 172) (address 0xa000_0000) (Some 3)
    -- all marks equal: no leaf has such a run
    ∷ walking (one_vertex 0) (address 0x4000_0000) None
    -- runs of three
    ∷ walking (one_vertex 56) (address 0x0000_0000) None
    -- no vertex
    ∷ walking (record { edges = []; marks = []; stride = 3; vertices = 0 }) (address 0x4000_0000) (Some 0)
    -- two steps; an edge to no vertex; edges that go round
    ∷ walking (two_vertices 2) (address 0x4000_0000) (Some 3)
    ∷ walking (two_vertices 2) (address 0x8000_0000) (Some 1)
    ∷ walking (two_vertices 3) (address 0x4000_0000) None
    ∷ walking (two_vertices 1) (address 0x5555_5555) None
    -- the last of eleven steps takes two bits of the address and a zero: a leaf as long as the address, and one that would be longer
    ∷ walking (going_round 48) (address 0xffff_ffff) (Some 32)
    ∷ walking (going_round 48) (address 0xffff_fffe) (Some 32)
    ∷ walking (going_round 64) (address 0xffff_ffff) None
    -- the leaves 00, 01, 100, 101, 110 and 111
    ∷ walking five_routes (address 0x0000_0001) (Some 2)
    ∷ walking five_routes (address 0x4000_0000) (Some 2)
    ∷ walking five_routes (address 0x8000_0000) (Some 3)
    ∷ walking five_routes (address 0xa000_0000) (Some 3)
    ∷ walking five_routes (address 0xdfff_ffff) (Some 3)
    ∷ walking five_routes (address 0xe000_0000) (Some 3)
    ∷ [])

-- the number of cases stands beside the table, so that none is left out unseen
abbrev pub how_many : ℕ
how_many = 32

pub record CasesHold : Type 0 where
  pub all_there : length table ≡ how_many
  pub hold : map came table ≡ map expected table
