-- The shapes that a change brings, as a set. Assumes nothing.
--   Changed rs ss p      ss is rs with a route of p entered, or with that of p struck
--   brought rs ss p      the shapes on the path to p afterwards that were nowhere before
use Rattle.std.specs.Prelude.{◌≡◌, ℕ, suc, ◌+◌, ◌≤◌, Bool, true, cond, not, ◌↔◌, List, [], ◌∷◌, ◌++◌, length}
use mathlib.Core.List.{Mem}
use Rattle.bits.specs.Lists.{any, only, different}
use Rattle.bits.specs.Rows.{Bits}
use Rattle.tree.specs.Tree.{Routes, Shape, fork, above, alike, forks_at, shape_at, grown, pushed, shapes}
use Rattle.tree.specs.Ledger.{stands, struck, entered, vertices, new_shapes, together}
use Rattle.tree.specs.Changes.{on_path}

pub data Changed (rs : Routes) (p : Bits) : Routes → Type 0 where
  by_entering : (h : ℕ) → Changed rs p (entered rs p h)
  by_striking : Changed rs p (struck rs p)

abbrev pub brought : Routes → Routes → Bits → List Shape
brought rs ss p = only (λ s. not (any (alike s) (shapes (pushed rs)))) (on_path (pushed ss) p)

pub record ShapeLaws : Type 0 where
  -- `alike` tells equality, and a mirrored shape is another shape unless its sides are alike
  pub alike_is : (s t : Shape) → (alike s t ≡ true) ↔ (s ≡ t)
  pub mirrored : (s t : Shape) → alike (fork s t) (fork t s) ≡ alike s t
  -- the path has the shapes of the branching nodes above p
  pub on_path_is : (t : Shape) (p : Bits) (s : Shape) → Mem s (on_path t p) ↔ ∥ ((q : Bits) × (above q p ≡ true) × (forks_at t q ≡ true) × (shape_at t q ≡ s)) ∥₁
  pub on_path_length : (t : Shape) (p : Bits) → length (on_path t p) ≤ length p
  -- a branching shape that was not there before lies on the path
  pub only_on_path : (rs ss : Routes) (p : Bits) → Changed rs p ss → (s : Shape) → Mem s (shapes (pushed ss)) → (Mem s (shapes (pushed rs)) → ⊥) → Mem s (on_path (pushed ss) p)
  -- so the new shapes are counted on the path
  pub new_on_path : (rs ss : Routes) (p : Bits) → Changed rs p ss → new_shapes rs ss ≡ different alike (brought rs ss p)
  -- before and after, as one set: the old ones and the new ones; or the old ones, and then the path fork by fork from its lower end up
  pub together_is : (rs ss : Routes) → together rs ss ≡ vertices rs + new_shapes rs ss
  pub together_by_path : (rs ss : Routes) (p : Bits) → Changed rs p ss → together rs ss ≡ different alike (on_path (pushed ss) p ++ shapes (pushed rs))
  pub one_step : (s : Shape) (ss : List Shape) → different alike (s ∷ ss) ≡ cond (any (alike s) ss) (different alike ss) (suc (different alike ss))
  pub never_fewer : (ss ts : List Shape) → different alike ts ≤ different alike (ss ++ ts)
  pub path_step : (b : Bool) (p : Bits) (t : Shape) → on_path (grown (b ∷ p) t) (b ∷ p) ≡ grown (b ∷ p) t ∷ on_path (grown p (shape_at t (b ∷ []))) p
  -- what is there afterwards is among both
  pub after_within : (rs ss : Routes) → vertices ss ≤ together rs ss
  -- a standing route's new hop brings none
  pub rehopping : (rs : Routes) (p : Bits) (h : ℕ) → stands rs p ≡ true → new_shapes rs (entered rs p h) ≡ 0
