-- The leaves that a node decides, the rows that a walk to them goes through, and visits of these in order. Assumes nothing.
--   has m q             the map has the row q
--   nameable q          a prefix can have the row q: it has at most 128 bits
--   Names o q           the prefix o has the row q; where there is none, no prefix can have it
--   reached own t q     the leaves that a node q decides, with the tree t below it: those that no node with a route covers and that are nameable
--   side own t q b      those of them below q's child on the side b, where t is the tree below the child
--   cut n t             the tree t down to n branchings below its root, where what goes on branching is a leaf
--   walked own t q      the rows that a walk from the node q goes through, with the tree t below it: the leaves that q decides and, each in its turn,
--                       the children of nodes of 128 bits, with a route or not and in place of all that is below them: a walk goes no deeper
--   VisitsAt g f        what a call of f may do at a row: from a state, at the row's prefix or none, its answer and the state that it leaves
--   Visits R xs s r s'  steps of R lead from the state s over the rows xs to s', all of them where r is `Ok`, else up to the one that answers r
--   Reaches             visits of the rows that a walk from the node q goes through, where the edge e leads to the tree below it
use Rattle.std.specs.Prelude.{◌≡◌, ℕ, zero, suc, ◌-◌, Bool, false, ◌&&◌, List, [], ◌∷◌, ◌++◌, length, Some, None, Option, Result, Ok, Err, nat_le}
use Rattle.std.specs.Fn.{Shared}
use denote.Ref.{Bor, MutBor}
use Rattle.bits.specs.Lists.{only}
use Rattle.bits.specs.Rows.{Bits}
use Rattle.net.specs.Prefix.{row_of}
use Rattle.net.specs.declared.prefix.Prefix.{Prefix}
use Rattle.tree.specs.Tree.{Shape, leaf, fork}
use Rattle.tree.specs.Changes.{painted, unless}
use Rattle.store.specs.Content.{Map, present}
use Rattle.graph.specs.Slots.{Unfolds}
use Rattle.graph.specs.declared.edge.Edge.{Edge}
use Rattle.graph.specs.declared.vertex.Vertex.{Vertex}

abbrev pub has : Map → Bits → Bool
has m q = present (m q)

abbrev pub nameable : Bits → Bool
nameable q = nat_le (length q) 128

abbrev pub Names : Option (Bor Prefix) → Bits → Type 0
Names None q = nameable q ≡ false
Names (Some o) q = row_of o.now ≡ q

unfoldable pub reached : (Bits → Bool) → Shape → Bits → List Bits
reached own t q = only nameable (painted own t q)

abbrev pub side : (Bits → Bool) → Shape → Bits → Bool → List Bits
side own t q b = unless (own (q ++ (b ∷ []))) (reached own t (q ++ (b ∷ [])))

abbrev pub cut : ℕ → Shape → Shape
cut zero t = leaf
cut (suc n) leaf = leaf
cut (suc n) (fork a b) = fork (cut n a) (cut n b)

unfoldable pub walked : (Bits → Bool) → Shape → Bits → List Bits
walked own t q = painted (λ x. nameable x && own x) (cut (129 - length q) t) q

module _ {F S E : Type 0} (g : Shared F (MutBor S × (Option (Bor Prefix) × Unit {0})) (Result (Unit {0}) E × (MutBor S × Unit {0}))) (f : F) where
  pub record VisitsAt (s : S) (x : Bits) (r : Result (Unit {0}) E) (s' : S) : Type 0 where
    pub from : MutBor S
    pub at : Option (Bor Prefix)
    pub left : MutBor S
    pub starts : from.now ≡ s
    pub row : Names at x
    pub met : g.post f (from, (at, tt)) (r, (left, tt))
    pub ends : left.now ≡ s'

pub data Visits {S E : Type 0} (R : S → Bits → Result (Unit {0}) E → S → Type 0) : List Bits → S → Result (Unit {0}) E → S → Type 0 where
  visits_none : {s : S} → Visits R [] s (Ok tt) s
  visits_more : {x : Bits} {xs : List Bits} {s m s' : S} {r : Result (Unit {0}) E} → R s x (Ok tt) m → Visits R xs m r s' → Visits R (x ∷ xs) s r s'
  visits_fail : {x : Bits} {xs : List Bits} {s s' : S} {e : E} → R s x (Err e) s' → Visits R (x ∷ xs) s (Err e) s'

abbrev pub Reaches : {S E : Type 0} → Map → List Vertex → Edge → Bits → (S → Bits → Result (Unit {0}) E → S → Type 0) → S → Result (Unit {0}) E → S → Type 0
Reaches routes slots e q R s r s' = (t : Shape) → Unfolds slots e t → Visits R (walked (has routes) t q) s r s'
