-- What a change does to the tree and to its leaves, in words. Assumes nothing.
--   below b test       a test of nodes, seen from the child on the side b
--   folded owned a b   a fork over these sides; a leaf in its place if both are leaves and neither has a route of its own
--   pruned own t p     the tree folded back up from p, where `own` tells which nodes have a route of their own
--   unless test xs     nothing where the test holds, and else xs
--   painted own t q    the leaves of the tree t below q that no node with a route covers: one strictly below q, on the way to the leaf or the leaf itself
--   reach rs p         the leaves that the route of p decides: those below p that no longer route covers
--   twigs q p          what a leaf q gives way to when a route of p below it is entered: the leaves beside the way from q to p, and p
--   on_path t p        the shapes of the branching nodes above p, the topmost first
use Rattle.std.specs.Prelude.{Bool, true, false, cond, ◌||◌, List, [], ◌∷◌, ◌++◌, length, drop}
use Rattle.bits.specs.Rows.{Bits}
use Rattle.tree.specs.Tree.{Routes, Shape, leaf, fork, shape_at, grown, pushed, leaves}
use Rattle.tree.specs.Ledger.{stands}

abbrev pub below : Bool → (Bits → Bool) → Bits → Bool
below b test q = test (b ∷ q)

abbrev pub folded : Bool → Shape → Shape → Shape
folded owned leaf leaf = cond owned (fork leaf leaf) leaf
folded owned leaf (fork c d) = fork leaf (fork c d)
folded owned (fork a b) leaf = fork (fork a b) leaf
folded owned (fork a b) (fork c d) = fork (fork a b) (fork c d)

abbrev pub pruned : (Bits → Bool) → Shape → Bits → Shape
pruned own t [] = t
pruned own leaf (c ∷ p) = leaf
pruned own (fork a b) (false ∷ p) = folded (own (false ∷ []) || own (true ∷ [])) (pruned (below false own) a p) b
pruned own (fork a b) (true ∷ p) = folded (own (false ∷ []) || own (true ∷ [])) a (pruned (below true own) b p)

abbrev pub unless : Bool → List Bits → List Bits
unless true xs = []
unless false xs = xs

unfoldable pub painted : (Bits → Bool) → Shape → Bits → List Bits
painted own leaf q = q ∷ []
painted own (fork a b) q =
    unless (own (q ++ (false ∷ []))) (painted own a (q ++ (false ∷ [])))
    ++ unless (own (q ++ (true ∷ []))) (painted own b (q ++ (true ∷ [])))

abbrev pub reach : Routes → Bits → List Bits
reach rs p = painted (stands rs) (shape_at (pushed rs) p) p

abbrev pub twigs : Bits → Bits → List Bits
twigs q p = leaves (grown (drop (length q) p) leaf) q

abbrev pub on_path : Shape → Bits → List Shape
on_path t [] = []
on_path leaf (c ∷ p) = []
on_path (fork a b) (false ∷ p) = fork a b ∷ on_path a p
on_path (fork a b) (true ∷ p) = fork a b ∷ on_path b p
