-- Going down a tree by the bits of a row. Assumes nothing.
use Rattle.std.proofs.Common.{◌≡◌, ℕ, ◌+◌, ◌<◌, ◌≤◌, Bool, true, false, not, List, [], ◌∷◌, ◌++◌, length, get_or, take, sym, refl, ap, ◌∙◌, subst, inl, inr, arith}
use Rattle.std.proofs.lemmas.Bool.{true≢false}
use Rattle.std.proofs.lemmas.List.{take_more, take_all}
use Rattle.bits.specs.Rows.{Bits}
use Rattle.tree.specs.Tree.{Shape, leaf, fork, forks_at, has_node, shape_at}
use Rattle.tree.proofs.Nodes.{child_node}
use Rattle.graph.specs.Slots.{is_end, led, next, Unfolds, unfolds_end, unfolds_to}
use Rattle.graph.specs.declared.edge.Edge.{Edge}
use Rattle.graph.specs.declared.edge.Edge.TheVariants.{End, To}
use Rattle.graph.specs.declared.vertex.Vertex.{Vertex}
use Rattle.graph.proofs.Unfold.{unfolds_one}
use Rattle.graph.proofs.Growing.{side, unfolds_side, taken}
use Rattle.graph.specs.Descend.{SpotOf}

-- a leaf, as a test
abbrev pub is_leaf : Shape → Bool
is_leaf leaf = true
is_leaf (fork a b) = false

pub leaf_is : (t : Shape) → is_leaf t ≡ true → t ≡ leaf
leaf_is leaf h = refl
leaf_is (fork a b) h = absurd (true≢false (sym h))

pub end_leaf : {xs : List Vertex} {e : Edge} {t : Shape} → Unfolds xs e t → is_end e ≡ is_leaf t
end_leaf unfolds_end = refl
end_leaf (unfolds_to u l r) = refl

pub vertex_forks : {xs : List Vertex} {e : Edge} {t : Shape} (n : ℕ) → e ≡ To n → Unfolds xs e t → is_leaf t ≡ false
vertex_forks n is h = sym (end_leaf h) ∙ ap is_end is

-- an edge that was followed leads to that side's tree
pub follows : (xs : List Vertex) (node e : Edge) (t : Shape) (b c : Bool) → e ≡ next xs (led xs node) c → c ≡ b → Unfolds xs node t → Unfolds xs e (side b t)
follows xs node e t b c is same h = rw (is, same) (unfolds_side b (taken h))

pub forks_shape : (t : Shape) (q : Bits) → forks_at t q ≡ not (is_leaf (shape_at t q))
forks_shape leaf [] = refl
forks_shape leaf (c ∷ q) = refl
forks_shape (fork l r) [] = refl
forks_shape (fork l r) (false ∷ q) = forks_shape l q
forks_shape (fork l r) (true ∷ q) = forks_shape r q

shape_side : (t : Shape) (q : Bits) (b : Bool) → shape_at t (q ++ (b ∷ [])) ≡ side b (shape_at t q)
shape_side leaf [] b = refl
shape_side leaf (c ∷ q) b = refl
shape_side (fork l r) [] false = refl
shape_side (fork l r) [] true = refl
shape_side (fork l r) (false ∷ q) b = shape_side l q b
shape_side (fork l r) (true ∷ q) b = shape_side r q b

-- the edge leads to the tree's node of the first d bits
pub record Down (xs : List Vertex) (start : Edge) (p : Bits) (d : ℕ) (edge : Edge) : Type 0 where
  pub node : (t : Shape) → Unfolds xs start t → has_node t (take d p) ≡ true
  pub unfolds : (t : Shape) → Unfolds xs start t → Unfolds xs edge (shape_at t (take d p))

module _ (xs : List Vertex) (start : Edge) (p : Bits) where
  pub down_start : Down xs start p 0 start
  down_start = record { node = λ t h. refl; unfolds = λ t h. h }

  -- one bit on
  pub down_next : (d n : ℕ) (edge e : Edge) (b : Bool) → Down xs start p d edge → edge ≡ To n → d < length p → b ≡ get_or p d false → e ≡ next xs (led xs edge) b → Down xs start p (d + 1) e
  down_next d n edge e b here is less bit goes = record { node = node; unfolds = unfolds }
    where
      longer : take (d + 1) p ≡ take d p ++ (b ∷ [])
      longer = take_more p d false less ∙ ap (λ c. take d p ++ (c ∷ [])) (sym bit)

      node : (t : Shape) → Unfolds xs start t → has_node t (take (d + 1) p) ≡ true
      node t h = ap (has_node t) longer ∙ child_node t (take d p) b ∙ forks_shape t (take d p) ∙ ap not (vertex_forks n is (here.unfolds t h))

      unfolds : (t : Shape) → Unfolds xs start t → Unfolds xs e (shape_at t (take (d + 1) p))
      unfolds t h = subst (Unfolds xs e) (sym (ap (shape_at t) longer ∙ shape_side t (take d p) b)) (follows xs edge e (shape_at t (take d p)) b b goes refl (here.unfolds t h))

  -- at a leaf, or at the prefix's node
  pub down_end : (d : ℕ) (edge : Edge) (t : Shape) → Down xs start p d edge → edge ≡ End → d < length p → Unfolds xs start t → SpotOf xs t p (record { edge = edge; depth = d })
  down_end d edge t here is less h = record {
    within = omega arith;
    node = here.node t h;
    unfolds = here.unfolds t h;
    stops = inr (less, unfolds_one (here.unfolds t h) (rw is unfolds_end), is);
  }

  pub down_whole : (d len : ℕ) (edge : Edge) (t : Shape) → Down xs start p d edge → length p ≤ d → len ≡ length p → Unfolds xs start t → SpotOf xs t p (record { edge = edge; depth = len })
  down_whole d len edge t here past long h =
      let same : take d p ≡ take len p = take_all d p past ∙ sym (take_all len p (omega arith)) in
      record {
        within = omega arith;
        node = ap (has_node t) (sym same) ∙ here.node t h;
        unfolds = subst (λ q. Unfolds xs edge (shape_at t q)) same (here.unfolds t h);
        stops = inl long;
      }
