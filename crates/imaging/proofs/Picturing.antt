-- What was drawn is an image of the table's graph. Assumes nothing.
use Rattle.std.proofs.Common.{◌≡◌, ℕ, suc, ◌+◌, ◌-◌, ◌*◌, ◌<◌, true, ◌↔◌, List, [], ◌∷◌, length, get_or, sym, refl, ap, ◌∙◌, subst, arith}
use mathlib.Core.Logic.{∥∥₁_elim, ∥∥₁_prop}
use mathlib.Core.List.Memᴰ
use mathlib.Core.List.{Mem, Memᴰ, Nodup, Nodup-cons, Nodup-nil}
use Rattle.std.proofs.lemmas.List.{nil_from_length}
use Rattle.bits.specs.Rows.{Bits, word}
use Rattle.tree.specs.Graph.{Edge as Way, end, to, Graph, Inside, Closed}
use Rattle.graph.specs.Slots.{at, used, led, in_use, Sound}
use Rattle.graph.specs.View.{way, out, graph_of}
use Rattle.graph.specs.declared.edge.Edge.{Edge}
use Rattle.graph.specs.declared.edge.Edge.TheVariants.{End, To}
use Rattle.graph.specs.declared.vertex.Vertex.{Vertex}
use Rattle.graph.proofs.Count.{used_listed, listed_in_use}
use Rattle.graph.proofs.View.{closed}
use Rattle.image.specs.Image.{edges_each}
use Rattle.image.specs.Picture.{down, Leads, Starts, Pictures}
use Rattle.image.proofs.Places.{member_at}
use Rattle.imaging.specs.Make.{picture, Rooted, Images}
use Rattle.imaging.specs.Vertices.{Numbers, number_of}
use Rattle.imaging.specs.declared.numbering.Numbering.{Numbering}
use Rattle.imaging.proofs.Counting.{lead_used}
use Rattle.imaging.proofs.Filling.{Filled}

-- a member of a list has a place in it
place_of : (xs : List ℕ) (v : ℕ) → Memᴰ v xs → (k : ℕ) × (k < length xs) × (get_or xs k 0 ≡ v)
place_of [] v m = absurd (Memᴰ.not-nil m)
place_of (x ∷ xs) v (Memᴰ.head e) = (0, omega arith, sym e)
place_of (x ∷ xs) v (Memᴰ.tail m) = let (k, less, is) = place_of xs v m in (suc k, omega arith, is)

-- a list with different members at different places has each once
once_by_places : (xs : List ℕ) → ((j k : ℕ) → j < length xs → k < length xs → get_or xs j 0 ≡ get_or xs k 0 → j ≡ k) → Nodup xs
once_by_places [] apart = Nodup-nil
once_by_places (x ∷ xs) apart = Nodup-cons.1 (new, once_by_places xs rest)
  where
    new : Mem x xs → ⊥
    new m = ∥∥₁_elim m (λ a b. absurd a) λ d. go (place_of xs x d)
      where
        go : (k : ℕ) × (k < length xs) × (get_or xs k 0 ≡ x) → ⊥
        go (k, less, is) = let same : 0 ≡ suc k = apart 0 (suc k) (omega arith) (omega arith) (sym is) in omega arith

    rest : (j k : ℕ) → j < length xs → k < length xs → get_or xs j 0 ≡ get_or xs k 0 → j ≡ k
    rest j k p q e = let same : suc j ≡ suc k = apart (suc j) (suc k) (omega arith) (omega arith) e in omega arith

-- the bits of an edge lead to a vertex of the graph or to the end
down_inside : (g : Graph) → Closed g → (e : Way) (q : Bits) → Inside g e → Inside g (down g.edge e q)
down_inside g c end q h = tt
down_inside g c (to v) [] h = h
down_inside g c (to v) (b ∷ q) h = down_inside g c (g.edge v b) q (c.edges v b h)

-- the vertices are numbered in the order of the slots that the numbering has
module _ (xs : List Vertex) (sound : ∥ Sound xs ∥₁) (start : Edge) (n : Numbering) (ok : Numbers xs (led xs start) n) where
  abbrev order : List ℕ
  order = n.slots.items

  apart : (j k : ℕ) → j < length order → k < length order → get_or order j 0 ≡ get_or order k 0 → j ≡ k
  apart j k p q e = let same : get_or n.numbers (get_or order j 0) 0 ≡ get_or n.numbers (get_or order k 0) 0 = ap (λ v. get_or n.numbers v 0) e in omega (arith, (ok.numbers j p).1, (ok.numbers k q).1)

  members : (v : ℕ) → Mem v order ↔ Mem v (in_use xs)
  members v = (forth, back)
    where
      forth : Mem v order → Mem v (in_use xs)
      forth m = ∥∥₁_elim m ∥∥₁_prop λ d. go (place_of order v d)
        where
          go : (k : ℕ) × (k < length order) × (get_or order k 0 ≡ v) → Mem v (in_use xs)
          go (k, less, is) = used_listed xs v (subst (λ w. used (at xs w) ≡ true) is (ok.numbers k less).0)

      back : Mem v (in_use xs) → Mem v order
      back m = let (least, most, is) = ok.slots v (listed_in_use xs v m) in subst (λ w. Mem w order) is (member_at order (get_or n.numbers v 0 - 1) 0 (omega arith))

  number_leads : (w : Way) → Inside (graph_of xs (led xs start)) w → Leads order w (number_of n.numbers w)
  number_leads end h = refl
  number_leads (to v) h = ok.slots v (listed_in_use xs v h)

  starts : Rooted xs start → (l : Edge) → led xs start ≡ l → Starts order (way l)
  starts rooted End e = nil_from_length order (ok.counted ∙ ap length (rooted e))
  starts rooted (To v) e = let (least, most, is) = ok.slots v (lead_used xs start v e) in (omega arith, omega arith, ok.first v e)

  module _ (s : ℕ) (es fs ms ns : List ℕ) (h : Filled xs n s (length order) es fs ms ns) where
    pictures : Rooted xs start → Pictures (graph_of xs (led xs start)) order (picture fs ns s (length order))
    pictures rooted = record {
      once = once_by_places order apart;
      same = members;
      number = refl;
      start = starts rooted (led xs start) refl;
      edges = edges;
      marks = h.marks;
    }
      where
        edges : (y e : ℕ) → y < length order → e < edges_each s → Leads order (down (out xs) (to (get_or order y 0)) (word s e)) (get_or fs ((suc y - 1) * edges_each s + e) 0)
        edges y e less f =
            let back : suc y - 1 ≡ y = omega arith in
            let inside = down_inside (graph_of xs (led xs start)) (closed xs start sound) (to (get_or order y 0)) (word s e) (used_listed xs (get_or order y 0) (ok.numbers y less).0) in
            rw (back, h.edges y e less f) (number_leads (down (out xs) (to (get_or order y 0)) (word s e)) inside)

    pub images : Images xs start s es fs ms ns (length (in_use xs))
    images = subst (Images xs start s es fs ms ns) ok.counted (record {
      pictures = λ rooted. (order, pictures rooted);
      edges_behind = h.edges_behind;
      marks_behind = h.marks_behind;
    })
