-- An image of a graph walks as the graph does. Assumes nothing.
use Rattle.std.proofs.Common.{◌≡◌, ℕ, zero, suc, ◌+◌, ◌-◌, ◌*◌, ◌<◌, ◌≤◌, List, reverse, length, get_or, take, drop, Some, None, Option, sym, refl, ap, ◌∙◌, subst, mul-suc, arith}
use mathlib.Core.List.{Mem}
use Rattle.bits.specs.Rows.{Bits, word, padded}
use Rattle.bits.proofs.Words.{length_word}
use Rattle.tree.specs.Tree.{Routes}
use Rattle.tree.specs.Graph.{Edge, end, to, Graph, walk, EndsAtLeaves, OneForEach}
use Rattle.tree.specs.LeafLaws.{AtMost}
use Rattle.tree.proofs.Walks.{leaf_depth}
use Rattle.image.specs.Image.{Image, edges_each, next_edge, edge_at, marks_of, run, log2, steps, most_steps, image_walk}
use Rattle.image.specs.Picture.{down, Leads, Starts, Pictures, StandsFor, WalksToLeaves, ImageLaws}
use Rattle.image.proofs.Numbers.{length_next, word_next_edge, next_edge_below}
use Rattle.image.proofs.Downs.{walk_within, walk_some, down_end, next_ends, next_goes_on}
use Rattle.image.proofs.Groups.{log2_run}
use Rattle.image.proofs.Steps.{steps_end, steps_on, leaf_length_is, most_steps_enough, no_vertices, some_vertices}
use Rattle.image.proofs.Places.{member_at, same_place}

module _ (g : Graph) (order : List ℕ) (i : Image) (one : 1 ≤ i.stride) (pictures : Pictures g order i) where
  -- vertex suc x of the image stands for the vertex of the graph at place x of the order
  abbrev vertex : ℕ → Edge
  vertex x = to (get_or order x 0)

  -- the walk ends with the next step: the run of its edge tells where
  last_step : (W n k x : ℕ) (a : Bits) (d : ℕ) → x < i.vertices → walk g.edge (vertex x) (word i.stride (next_edge i.stride a)) ≡ Some d → i.stride * k + d ≤ W → steps i W (suc n) k (suc x) a ≡ Some (i.stride * k + d)
  last_step W n k x a d there h fits =
      let s : ℕ = i.stride in
      let e : ℕ = next_edge s a in
      let small : e < edges_each s = next_edge_below s a in
      let to_end : edge_at i (suc x) e ≡ 0 = subst (λ t. Leads order t (edge_at i (suc x) e)) (down_end g.edge (vertex x) (word s e) d h) (pictures.edges x e there small) in
      let taken = walk_within g.edge (vertex x) (word s e) d h in
      let long = length_word s e in
      let place : x ≡ suc x - 1 = omega arith in
      let told = log2_run g.edge s (get_or order x 0) (get_or i.marks x 0) (pictures.marks x there) e d small h in
      let run_tells : log2 s (run (marks_of i (suc x)) e) ≡ Some (s - d) = subst (λ y. log2 s (run (reverse (word (edges_each s) (get_or i.marks y 0))) e) ≡ Some (s - d)) place told in
      steps_end i W n k (suc x) a to_end ∙ leaf_length_is i W (suc x) e k (s - d) (s * k + d) run_tells (omega (arith, mul-suc s k)) fits

  pub steps_walk : (W n k x : ℕ) (a : Bits) (d : ℕ) → x < i.vertices → walk g.edge (vertex x) a ≡ Some d → i.stride * k + d ≤ W → d ≤ i.stride * n → steps i W n k (suc x) a ≡ Some (i.stride * k + d)
  steps_walk W zero k x a d there h fits enough = absurd (omega (arith, walk_some g.edge _ a d h))
  steps_walk W (suc n) k x a d there h fits enough = go (walk g.edge (vertex x) (padded i.stride (take i.stride a))) refl (steps_walk W n (suc k))
    where
      go : (o : Option ℕ) → walk g.edge (vertex x) (padded i.stride (take i.stride a)) ≡ o
          → ((y : ℕ) (b : Bits) (c : ℕ) → y < i.vertices → walk g.edge (vertex y) b ≡ Some c → i.stride * suc k + c ≤ W → c ≤ i.stride * n → steps i W n (suc k) (suc y) b ≡ Some (i.stride * suc k + c))
          → steps i W (suc n) k (suc x) a ≡ Some (i.stride * k + d)
      go (Some j) t later =
          let same_depth : j ≡ d = next_ends g.edge (vertex x) i.stride a d h j t in
          last_step W n k x a d there (ap (walk g.edge (vertex x)) (word_next_edge i.stride a) ∙ t ∙ ap Some same_depth) fits
      go None t later =
          let s : ℕ = i.stride in
          let e : ℕ = next_edge s a in
          let on = next_goes_on g.edge (vertex x) s a d h t in
          let leads = subst (λ t. Leads order t (edge_at i (suc x) e)) (ap (down g.edge (vertex x)) (word_next_edge s a) ∙ on.down_to) (pictures.edges x e there (next_edge_below s a)) in
          let y : ℕ = edge_at i (suc x) e - 1 in
          let next : suc y ≡ edge_at i (suc x) e = omega (arith, leads.0) in
          let all : d ≡ s + on.left = on.all ∙ ap (λ l. l + on.left) (length_next s a) in
          let more = mul-suc s k in
          let rest = mul-suc s n in
          let ih = later y (drop s a) on.left (omega (arith, leads.0, leads.1, pictures.number)) (ap (λ v. walk g.edge (to v) (drop s a)) leads.2 ∙ on.walks) (omega arith) (omega arith) in
          steps_on i W n k (suc x) (suc y) a (sym next) (omega arith) (omega (arith, leads.1, pictures.number)) ∙ ih ∙ ap Some (omega arith)

  pub walks_alike : (a : Bits) (d : ℕ) → walk g.edge g.start a ≡ Some d → image_walk i a ≡ Some d
  walks_alike a d h = go g.start refl pictures.start
    where
      go : (e : Edge) → g.start ≡ e → Starts order e → image_walk i a ≡ Some d
      go end s none =
          let z : 0 ≡ d = cc in
          no_vertices i a (pictures.number ∙ ap length none) ∙ ap Some z
      go (to v) s first =
          let some : 1 ≤ i.vertices = omega (arith, first.1, pictures.number) in
          let from : walk g.edge (vertex 0) a ≡ Some d = ap (λ w. walk g.edge (to w) a) first.2 ∙ ap (λ e. walk g.edge e a) (sym s) ∙ h in
          let short = walk_within g.edge (vertex 0) a d from in
          let none : i.stride * 0 ≡ 0 = omega arith in
          let all : i.stride * 0 + d ≡ d = omega arith in
          some_vertices i a some ∙ steps_walk (length a) (most_steps (length a) i.stride) 0 0 a d some from (omega arith) (omega (arith, most_steps_enough (length a) i.stride one)) ∙ ap Some all

  -- where the graph's walks end at the leaves, the image's do
  pub walks_to_leaves : (W : ℕ) (rs : Routes) → AtMost W rs → EndsAtLeaves W rs g → WalksToLeaves W rs i
  walks_to_leaves W rs short ends a w d =
      let (k, l) = leaf_depth W rs short a w in
      let walked : image_walk i a ≡ Some k = walks_alike a k ((ends a w k).1 l) in
      (λ h. (let same_depth : k ≡ d = cc in rw (← same_depth) l), λ m. walks_alike a d ((ends a w d).1 m))

-- and where the graph has one vertex for each shape, so does the image
pub stands_for : (rs : Routes) (g : Graph) (order : List ℕ) (i : Image) → Pictures g order i → OneForEach rs g → StandsFor rs g order
stands_for rs g order i pictures each = record {
  some_shape = λ x h. each.reads (get_or order x 0) (there x h);
  apart = λ x y t h k r q. same_place order 0 pictures.once x y h k (each.once _ _ t (there x h) (there y k) r q);
}
  where
    there : (x : ℕ) → x < length order → Mem (get_or order x 0) g.vertices
    there x h = (pictures.same (get_or order x 0)).0 (member_at order x 0 h)

pub image_laws : ImageLaws
image_laws = record {
  walks = walks_alike;
  leaves = λ W rs g order i short one pictures. walks_to_leaves g order i one pictures W rs short;
  shapes = stands_for;
}
