-- The pushed tree is the one tree that branches where the routes say. Assumes nothing.
use Rattle.std.proofs.Common.{◌≡◌, true, false, ◌||◌, [], ◌∷◌, sym, refl, ap, ◌∙◌, ap₂, true≢false, arith}
use mathlib.Core.Bool.{false≢true}
use Rattle.bits.specs.Lists.{any}
use Rattle.bits.specs.Rows.{Bits}
use Rattle.tree.specs.Tree.{Routes, Shape, leaf, fork, forks_at, Pushed, grown, pushed}
use Rattle.tree.proofs.Above.{over, branching_is}

-- two trees that fork at the same nodes are one
pub one_tree : (t u : Shape) → ((q : Bits) → forks_at t q ≡ forks_at u q) → t ≡ u
one_tree leaf leaf h = refl
one_tree leaf (fork c d) h = absurd (false≢true (h []))
one_tree (fork a b) leaf h = absurd (true≢false (h []))
one_tree (fork a b) (fork c d) h = ap₂ fork (one_tree a c (λ q. h (false ∷ q))) (one_tree b d (λ q. h (true ∷ q)))

-- a tree grown to p forks over p, and where it forked before
pub forks_grown : (p : Bits) (t : Shape) (q : Bits) → forks_at (grown p t) q ≡ (over q p || forks_at t q)
forks_grown [] t q = refl
forks_grown (b ∷ p) t q = let ih = forks_grown p in grind arith

forks_pushed : (rs : Routes) (q : Bits) → forks_at (pushed rs) q ≡ any (λ r. over q r.at) rs
forks_pushed [] q = refl
forks_pushed (r ∷ rs) q = forks_grown r.at (pushed rs) q ∙ ap (λ b. over q r.at || b) (forks_pushed rs q)

pub pushed_is : (rs : Routes) → Pushed rs (pushed rs)
pushed_is rs q = forks_pushed rs q ∙ sym (branching_is rs q)
