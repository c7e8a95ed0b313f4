-- No closed graph whose walks end at the leaves has fewer vertices than the tree has different shapes. Assumes nothing.
-- Such a graph, read from its start, is the tree. So each shape of the tree is read from a vertex, and from a vertex one shape is read.
use Rattle.std.proofs.Common.{◌≡◌, ℕ, zero, suc, ◌<◌, ◌≤◌, Bool, true, false, [], ◌∷◌, length, take, replicate, Some, None, Option, sym, refl, ap, ◌∙◌, inl, inr, arith}
use mathlib.Core.Logic.{∥∥₁_map}
use mathlib.Core.List.Memᴰ
use mathlib.Core.List.{Mem, Memᴰ, mem-cons_self, mem-cons_of_mem}
use lib.ListN.{length-replicate}
use Rattle.bits.specs.Lists.{different}
use Rattle.bits.specs.Rows.{Bits}
use Rattle.tree.specs.Tree.{Routes, Shape, leaf, fork, forks_at, Pushed, grown, pushed, shapes, alike}
use Rattle.tree.specs.Graph.{Edge, end, to, Graph, Inside, Closed, more, walk, LeafAt, EndsAtLeaves, Reads, reads_end, reads_to}
use Rattle.bits.proofs.Sets.{different_injected}
use Rattle.tree.specs.LeafLaws.{AtMost}
use Rattle.tree.proofs.Shapes.{alike_equality}
use Rattle.tree.proofs.Pushed.{pushed_is}

-- no leaf of the tree is deeper than n
abbrev pub Fits : ℕ → Shape → Type 0
Fits n leaf = Unit {0}
Fits zero (fork a b) = ⊥
Fits (suc n) (fork a b) = Fits n a × Fits n b

fits_grown : (n : ℕ) (p : Bits) (t : Shape) → length p ≤ n → Fits n t → Fits n (grown p t)
fits_grown n [] t h f = f
fits_grown zero (b ∷ p) t h f = absurd (omega arith)
fits_grown (suc n) (false ∷ p) leaf h f = (fits_grown n p leaf (omega arith) tt, tt)
fits_grown (suc n) (true ∷ p) leaf h f = (tt, fits_grown n p leaf (omega arith) tt)
fits_grown (suc n) (false ∷ p) (fork a b) h f = (fits_grown n p a (omega arith) f.0, f.1)
fits_grown (suc n) (true ∷ p) (fork a b) h f = (f.0, fits_grown n p b (omega arith) f.1)

pub fits_pushed : (n : ℕ) (rs : Routes) → AtMost n rs → Fits n (pushed rs)
fits_pushed n [] h = tt
fits_pushed n (r ∷ rs) h = fits_grown n r.at (pushed rs) (h r mem-cons_self) (fits_pushed n rs (λ s m. h s (mem-cons_of_mem r m)))

-- how many bits of the row lead to a leaf of the tree
abbrev pub descent : Shape → Bits → Option ℕ
descent leaf q = Some 0
descent (fork a b) [] = None
descent (fork a b) (false ∷ q) = more (descent a q)
descent (fork a b) (true ∷ q) = more (descent b q)

-- the leaf that the row begins with has d bits, in the words of the tree
pub record LeafOf (t : Shape) (q : Bits) (d : ℕ) : Type 0 where
  pub descends : descent t q ≡ Some d
  pub within : d ≤ length q
  pub ends : forks_at t (take d q) ≡ false
  pub before : (k : ℕ) → k < d → forks_at t (take k q) ≡ true

from_zero : (P : ℕ → Type 0) (d : ℕ) → P 0 → ((k : ℕ) → k < d → P (suc k)) → (k : ℕ) → k < suc d → P k
from_zero P d here next zero h = here
from_zero P d here next (suc k) h = next k (omega arith)

pub leaf_of : (t : Shape) (q : Bits) → Fits (length q) t → (d : ℕ) × LeafOf t q d
leaf_of leaf q f = (0, record { descends = refl; within = omega arith; ends = refl; before = λ k h. absurd (omega arith) })
leaf_of (fork a b) [] f = absurd f
leaf_of (fork a b) (false ∷ q) f =
    let (d, l) = leaf_of a q f.0 in
    (suc d, record { descends = ap more l.descends; within = omega arith; ends = l.ends; before = from_zero (λ k. forks_at (fork a b) (take k (false ∷ q)) ≡ true) d refl l.before })
leaf_of (fork a b) (true ∷ q) f =
    let (d, l) = leaf_of b q f.1 in
    (suc d, record { descends = ap more l.descends; within = omega arith; ends = l.ends; before = from_zero (λ k. forks_at (fork a b) (take k (true ∷ q)) ≡ true) d refl l.before })

-- the walks of the rows of n bits end where the tree's leaves are
abbrev pub Follows : (ℕ → Bool → Edge) → ℕ → Edge → Shape → Type 0
Follows edge n e t = (q : Bits) → length q ≡ n → walk edge e q ≡ descent t q

pub follows_start : (W : ℕ) (rs : Routes) (g : Graph) → Fits W (pushed rs) → EndsAtLeaves W rs g → Follows g.edge W g.start (pushed rs)
follows_start W rs g fits walks q h =
    let forks : Pushed rs (pushed rs) = pushed_is rs in
    let (d, l) = leaf_of (pushed rs) q (rw h fits) in
    let at_leaf : LeafAt rs q d = record { within = l.within; ends = sym (forks (take d q)) ∙ l.ends; before = λ k less. sym (forks (take k q)) ∙ l.before k less } in
    (walks q h d).1 at_leaf ∙ sym l.descends

more_injective : (x y : Option ℕ) → more x ≡ more y → x ≡ y
more_injective x y h = grind arith

-- so the graph, read from there, is the tree
module _ (edge : ℕ → Bool → Edge) where
  pub reads_of_follows : (n : ℕ) (e : Edge) (t : Shape) → Fits n t → Follows edge n e t → Reads edge e t
  reads_of_follows n end leaf fits follows = reads_end
  reads_of_follows zero e (fork a b) fits follows = absurd fits
  reads_of_follows zero (to v) leaf fits follows = let h = follows [] refl in grind arith
  reads_of_follows (suc n) (to v) leaf fits follows = let h = follows (replicate (suc n) false) (length-replicate (suc n) false) in grind arith
  reads_of_follows (suc n) end (fork a b) fits follows = let h = follows (replicate (suc n) false) (length-replicate (suc n) false) in grind arith
  reads_of_follows (suc n) (to v) (fork a b) fits follows =
      reads_to (reads_of_follows n (edge v false) a fits.0 (λ q h. more_injective _ _ (follows (false ∷ q) (ap suc h))))
      (reads_of_follows n (edge v true) b fits.1 (λ q h. more_injective _ _ (follows (true ∷ q) (ap suc h))))

  pub reads_one : {e : Edge} {s t : Shape} → Reads edge e s → Reads edge e t → s ≡ t
  reads_one reads_end reads_end = refl
  reads_one (reads_to l r) (reads_to l' r') = let left = reads_one l l' in let right = reads_one r r' in cc

-- each shape of the tree is read from some vertex
module _ (g : Graph) (closed : Closed g) where
  pub reader : {e : Edge} {t s : Shape} → Inside g e → Reads g.edge e t → Memᴰ s (shapes t) → (v : ℕ) × Mem v g.vertices × Reads g.edge (to v) s
  reader inside reads_end m = absurd (Memᴰ.not-nil m)
  reader inside (reads_to {v} l r) (Memᴰ.head e) = (v, inside, rw e (reads_to l r))
  reader inside (reads_to {v} {a} l r) (Memᴰ.tail m) =
      elim (Memᴰ.append_cases (shapes a) m) [
        | inl below ↦ reader (closed.edges v false inside) l below
        | inr below ↦ reader (closed.edges v true inside) r below
      ]

pub least : (W : ℕ) (rs : Routes) (g : Graph) → AtMost W rs → Closed g → EndsAtLeaves W rs g → different alike (shapes (pushed rs)) ≤ length g.vertices
least W rs g short closed walks =
    let fits = fits_pushed W rs short in
    let read = reads_of_follows g.edge W g.start (pushed rs) fits (follows_start W rs g fits walks) in
    different_injected alike_equality (λ s v. Reads g.edge (to v) s) (λ s s' v r r'. reads_one g.edge r r') (shapes (pushed rs)) g.vertices
    (λ s m. ∥∥₁_map m (reader g closed closed.starts read))
