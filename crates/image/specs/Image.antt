-- Images with a stride, and the walk through them. Assumes nothing.
--   Image                 what a reader holds, whatever its contents: a row of edges, a row of run marks, the stride and the number of vertices
--   edges_each s          how many edges a vertex has at the stride s
--   number q              the number that the bits q write, the most significant first
--   next_edge s a         the edge that the next s bits of the row a follow, with zeros past its end
--   edge_at i v e         what stands at edge e of vertex v: the number of a vertex, or 0 for the end
--   marks_of i v          the marks of the edges of vertex v, from edge 0 up
--   run ms e              how many edges side by side, e among them, have the mark of e
--   log2 s t              l where t is 2 ^ l and l is below s; none for any other t
--   leaf_length i W v e k the bits of the leaf that edge e of vertex v leads to, after k earlier steps; none where there is no such leaf
--   steps i W n k v a     the leaf's length from vertex v on, with the bits a left, after k earlier steps, in at most n steps
--   image_walk i a        the length of the leaf of the address a by the image; none where the image is broken on the way
use Rattle.std.specs.Prelude.{ℕ, zero, suc, ◌+◌, ◌-◌, ◌*◌, ◌/◌, ◌^◌, Bool, true, false, cond, List, [], ◌∷◌, reverse, length, take, drop, Some, None, Option, ◌==◌, nat_lt, slice_index, slice_index_or}
use Rattle.std.specs.Bool.{beq}
use Rattle.bits.specs.Rows.{Bits, word, padded}

pub record Image : Type 0 where
  pub edges : List ℕ
  pub marks : List ℕ
  pub stride : ℕ
  pub vertices : ℕ

abbrev pub edges_each : ℕ → ℕ
edges_each s = 2 ^ s

-- n, with the bits q behind it
unfoldable pub number_from : ℕ → Bits → ℕ
number_from n [] = n
number_from n (b ∷ q) = number_from (2 * n + cond b 1 0) q

abbrev pub number : Bits → ℕ
number q = number_from 0 q

abbrev pub next_edge : ℕ → Bits → ℕ
next_edge s a = number (padded s (take s a))

abbrev pub edge_at : Image → ℕ → ℕ → ℕ
edge_at i v e = slice_index i.edges ((v - 1) * edges_each i.stride + e)

-- bit e of the vertex's marks, its value being 2 ^ e, belongs to edge e
abbrev pub marks_of : Image → ℕ → List Bool
marks_of i v = reverse (word (edges_each i.stride) (slice_index i.marks (v - 1)))

-- how many at the front of the list are m
unfoldable pub front_run : Bool → List Bool → ℕ
front_run m [] = 0
front_run m (b ∷ bs) = elim (beq b m) [ true ↦ suc (front_run m bs) | false ↦ 0 ]

-- e and those above it, and those below
abbrev pub run : List Bool → ℕ → ℕ
run ms e = front_run (slice_index_or ms e false) (drop e ms) + front_run (slice_index_or ms e false) (reverse (take e ms))

unfoldable pub log2 : ℕ → ℕ → Option ℕ
log2 zero t = None
log2 (suc s) t = elim (t == 2 ^ s) [ true ↦ Some s | false ↦ log2 s t ]

-- no leaf is longer than the width
abbrev pub within : ℕ → ℕ → Option ℕ
within W d = elim (nat_lt W d) [ true ↦ None | false ↦ Some d ]

abbrev pub unfolded : ℕ → ℕ → Option ℕ → Option ℕ
unfolded W d None = None
unfolded W d (Some l) = within W (d - l)

abbrev pub leaf_length : Image → ℕ → ℕ → ℕ → ℕ → Option ℕ
leaf_length i W v e k = unfolded W (i.stride * suc k) (log2 i.stride (run (marks_of i v) e))

unfoldable pub steps : Image → ℕ → ℕ → ℕ → ℕ → Bits → Option ℕ
steps i W zero k v a = None
steps i W (suc n) k v a =
    let e : ℕ = next_edge i.stride a in
    let to : ℕ = edge_at i v e in
    elim (to == 0) [
      | true ↦ leaf_length i W v e k
      | false ↦ elim (nat_lt i.vertices to) [ true ↦ None | false ↦ steps i W n (suc k) to (drop i.stride a) ]
    ]

-- W / s, rounded up
abbrev pub most_steps : ℕ → ℕ → ℕ
most_steps W s = (W + (s - 1)) / s

abbrev pub image_walk : Image → Bits → Option ℕ
image_walk i a = elim (i.vertices == 0) [ true ↦ Some 0 | false ↦ steps i (length a) (most_steps (length a) i.stride) 0 1 a ]
