-- The pushed tree of a list of routes: its nodes, its leaves, its shapes, and the longest match. Assumes nothing.
--   Route             a prefix's bits and a hop
--   Routes            the standing routes, in a list
--   above q p         the row p is longer than q and begins with it
--   branching rs q    the node q is above some route's prefix
--   Shape             the tree below a node, with its 0 side and its 1 side told apart
--   alike s t         the shapes are equal, as a test
--   forks_at t q      the tree has a node of the bits q, and it branches
--   has_node t q      the tree has a node of the bits q
--   shape_at t q      the shape of that node; a leaf where there is no such node
--   Pushed rs t       t branches exactly where the routes do
--   grown p t         the tree in which every node above p branches too
--   pushed rs         the pushed tree
--   leaves t q        the leaves of the tree t below the node q, from the 0 side to the 1 side
--   shapes t          the shape of each branching node, one for each node
--   matches rs q      some route's prefix is a beginning of q
--   matched rs        the matched leaves
--   longest rs q      the longest route whose prefix is a beginning of q
--   hop_of o          the hop of a route, if there is one
use Rattle.std.specs.Prelude.{◌≡◌, ℕ, Bool, true, false, cond, ◌&&◌, List, [], ◌∷◌, ◌++◌, length, Some, None, Option, nat_lt}
use Rattle.bits.specs.Lists.{any, only}
use Rattle.bits.specs.Rows.{Bits, begins}

pub record Route : Type 0 where
  pub at : Bits
  pub hop : ℕ

abbrev pub Routes : Type 0
Routes = List Route

abbrev pub above : Bits → Bits → Bool
above q p = nat_lt (length q) (length p) && begins q p

abbrev pub branching : Routes → Bits → Bool
branching rs q = any (λ r. above q r.at) rs

pub data Shape : Type 0 where
  leaf : Shape
  fork : Shape → Shape → Shape

abbrev pub alike : Shape → Shape → Bool
alike leaf leaf = true
alike leaf (fork a b) = false
alike (fork a b) leaf = false
alike (fork a b) (fork c d) = alike a c && alike b d

abbrev pub forks_at : Shape → Bits → Bool
forks_at leaf q = false
forks_at (fork a b) [] = true
forks_at (fork a b) (false ∷ q) = forks_at a q
forks_at (fork a b) (true ∷ q) = forks_at b q

abbrev pub has_node : Shape → Bits → Bool
has_node t [] = true
has_node leaf (c ∷ q) = false
has_node (fork a b) (false ∷ q) = has_node a q
has_node (fork a b) (true ∷ q) = has_node b q

abbrev pub shape_at : Shape → Bits → Shape
shape_at t [] = t
shape_at leaf (c ∷ q) = leaf
shape_at (fork a b) (false ∷ q) = shape_at a q
shape_at (fork a b) (true ∷ q) = shape_at b q

abbrev pub Pushed : Routes → Shape → Type 0
Pushed rs t = (q : Bits) → forks_at t q ≡ branching rs q

abbrev pub grown : Bits → Shape → Shape
grown [] t = t
grown (false ∷ p) leaf = fork (grown p leaf) leaf
grown (true ∷ p) leaf = fork leaf (grown p leaf)
grown (false ∷ p) (fork a b) = fork (grown p a) b
grown (true ∷ p) (fork a b) = fork a (grown p b)

-- by the laws of the tree this is the one tree t with `Pushed rs t`
abbrev pub pushed : Routes → Shape
pushed [] = leaf
pushed (r ∷ rs) = grown r.at (pushed rs)

abbrev pub leaves : Shape → Bits → List Bits
leaves leaf q = q ∷ []
leaves (fork a b) q = leaves a (q ++ (false ∷ [])) ++ leaves b (q ++ (true ∷ []))

abbrev pub shapes : Shape → List Shape
shapes leaf = []
shapes (fork a b) = fork a b ∷ (shapes a ++ shapes b)

abbrev pub matches : Routes → Bits → Bool
matches rs q = any (λ r. begins r.at q) rs

abbrev pub matched : Routes → List Bits
matched rs = only (matches rs) (leaves (pushed rs) [])

-- of two routes the longer one
abbrev pub longer : Option Route → Option Route → Option Route
longer None y = y
longer (Some r) None = Some r
longer (Some r) (Some s) = cond (nat_lt (length r.at) (length s.at)) (Some s) (Some r)

abbrev pub longest : Routes → Bits → Option Route
longest [] q = None
longest (r ∷ rs) q = longer (cond (begins r.at q) (Some r) None) (longest rs q)

abbrev pub hop_of : Option Route → Option ℕ
hop_of None = None
hop_of (Some r) = Some r.hop
