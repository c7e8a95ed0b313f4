-- An image of an engine's graph, while routes stand. Assumes nothing.
use Rattle.std.proofs.Common.{◌≡◌, ℕ, ◌≤◌, List, length, take, Some, None, Ok, Err, Option, Result, sym, ap, ◌∙◌, subst, arith}
use Rattle.std.proofs.lemmas.List.{nil_from_length}
use Rattle.std.proofs.lemmas.Bool.Decides.{nat_tests}
use Rattle.std.proofs.lemmas.Option.{none-some}
use Rattle.bits.specs.Rows.{Bits}
use Rattle.bits.specs.Lists.{different}
use Rattle.bits.proofs.Begins.{take_begins}
use Rattle.refusal.specs.declared.Refusal.{Refusal}
use Rattle.tree.specs.Tree.{Routes, leaf, alike, shapes, pushed, longest, hop_of}
use Rattle.tree.specs.Graph.{LeafAt}
use Rattle.tree.specs.Ledger.{Given, looked}
use Rattle.tree.specs.LeafLaws.{AtMost}
use Rattle.tree.specs.StoreLaws.{leaf_entry}
use Rattle.tree.proofs.Walks.{leaf_depth}
use Rattle.tree.proofs.Tells.{leaf_at}
use Rattle.tree.proofs.Stores.{found_at_leaf}
use Rattle.graph.specs.Slots.{in_use, Sound, Unfolds, unfolds_end}
use Rattle.graph.specs.View.{Holds, graph_of}
use Rattle.graph.specs.declared.edge.Edge.TheVariants.{End}
use Rattle.graph.proofs.Unfold.{led_unfolds, unfolds_one}
use Rattle.graph.proofs.View.{number, one_for_each, ends}
use Rattle.image.specs.Image.{Image, image_walk}
use Rattle.image.specs.Picture.{Pictures}
use Rattle.image.proofs.Laws.{image_laws}
use Rattle.image.proofs.Count.{vertices_counted}
use Rattle.store.specs.Content.{Told, Content}
use Rattle.engine.specs.State.{State}
use Rattle.engine.specs.Serves.{Serves}
use Rattle.reader.specs.Rows.{rows_refusal}
use Rattle.reader.specs.Reader.{Walked}
use Rattle.imaging.specs.Make.{picture, Rooted, Made, Shows}
use Rattle.imaging.specs.Look.{Looked}

-- a stride that is not refused
stride_least : (es ms : List ℕ) (s V : ℕ) → rows_refusal es ms s V ≡ None → 1 ≤ s
stride_least es ms s V granted = grind (arith, nat_tests)

module _ (rs : Routes) (e : State) (sound : ∥ Sound e.slots ∥₁) (starts : Unfolds e.slots e.start (pushed rs)) (holds : Holds e.slots (shapes (pushed rs))) where
  -- the start is the end only where no vertex is in use
  rooted : Rooted e.slots e.start
  rooted to_end =
      let at_end : e.start ≡ End = sym (led_unfolds starts) ∙ to_end in
      let none : pushed rs ≡ leaf = unfolds_one (subst (λ f. Unfolds e.slots f (pushed rs)) at_end starts) unfolds_end in
      nil_from_length (in_use e.slots) (number e.slots (shapes (pushed rs)) sound holds ∙ ap (λ t. different alike (shapes t)) none)

  pub shows_is : (s V : ℕ) (es fs ms ns : List ℕ) → AtMost e.width rs → Made e s es fs ms ns V → Shows rs e (picture fs ns s V)
  shows_is s V es fs ms ns short made =
      let (order, drawn) = made.images.pictures rooted in
      let graph = graph_of e.slots e.start in
      let pictures : Pictures graph order (picture fs ns s V) = subst (λ f. Pictures (graph_of e.slots f) order (picture fs ns s V)) (led_unfolds starts) drawn in
      let each = one_for_each rs e.slots e.start sound starts holds in
      record {
        leaves = image_laws.leaves e.width rs graph order (picture fs ns s V) short (stride_least es ms s V made.granted) pictures (ends e.width rs e.slots e.start short starts);
        shapes = (order, pictures, image_laws.shapes rs graph order (picture fs ns s V) pictures each);
        number = vertices_counted rs graph order (picture fs ns s V) pictures each;
      }

-- the walk's answer is the lookup's, where the image i that is walked is that picture, and the leaves have the routes' hops
pub walked_found : (g : Given) (rs : Routes) (e : State) (a : Bits) (s V : ℕ) (es fs ms ns : List ℕ) (leaves : Content) (i : Image) (r : Result (ℕ × Told) Refusal)
    → length a ≡ e.width → AtMost e.width rs → Made e s es fs ms ns V → Shows rs e (picture fs ns s V) → i ≡ picture fs ns s V → ((q : Bits) → leaves.map q ≡ leaf_entry rs q)
    → Walked i a leaves r → Looked g rs e a s es fs ms ns r
walked_found g rs e a s V es fs ms ns leaves i (Ok x) wide short made shows is entries (walk, entry) =
    let at : LeafAt rs a x.0 = (shows.leaves a wide x.0).0 (ap (λ j. image_walk j a) (sym is) ∙ walk) in
    let found : leaf_entry rs (take x.0 a) ≡ hop_of (longest rs a) = found_at_leaf rs a (take x.0 a) ((leaf_at rs a x.0).0 at).1 (take_begins x.0 a) in
    let told : x.1 ≡ leaf_entry rs (take x.0 a) = entry ∙ entries (take x.0 a) in
    (subst (Made e s es fs ms ns) made.number made, record { leaf = at; hop = ap looked (sym found ∙ sym told) })
walked_found g rs e a s V es fs ms ns leaves i (Err why) wide short made shows is entries (walk, broken) =
    let (d, at) = leaf_depth e.width rs short a wide in
    absurd (none-some d (sym walk ∙ ap (λ j. image_walk j a) is ∙ (shows.leaves a wide d).1 at))

-- an engine that serves the routes rs
module _ (g : Given) (rs : Routes) (e : State) (sound : ∥ Sound e.slots ∥₁) (serves : Serves g rs e) where
  at_most : AtMost e.width rs
  at_most = subst (λ w. AtMost w rs) serves.stored.width serves.ledger.short

  module _ (s V : ℕ) (es fs ms ns : List ℕ) (made : Made e s es fs ms ns V) where
    pub served_shows : Shows rs e (picture fs ns s V)
    served_shows = shows_is rs e sound serves.starts serves.holds s V es fs ms ns at_most made

    pub served_walk : (a : Bits) (leaves : Content) (i : Image) (r : Result (ℕ × Told) Refusal) → length a ≡ e.width → i ≡ picture fs ns s V → leaves ≡ e.leaves → Walked i a leaves r → Looked g rs e a s es fs ms ns r
    served_walk a leaves i r wide is same =
        walked_found g rs e a s V es fs ms ns leaves i r wide at_most made served_shows is (λ q. ap (λ c. c.map q) same ∙ serves.stored.leaf_hops q)

-- the rows that an image was made in have room for it
pub never_refused : (es fs ms ns : List ℕ) (s V : ℕ) (why : Refusal) → length fs ≡ length es → length ns ≡ length ms → rows_refusal es ms s V ≡ None → rows_refusal fs ns s V ≡ Some why → ⊥
never_refused es fs ms ns s V why e m granted refused = apart (sym alike ∙ refused)
  where
    alike : rows_refusal fs ns s V ≡ None
    alike = rw (e, m) granted

    apart : ◌≡◌ {A = Option Refusal} None (Some why) → ⊥
    apart h = let z : ◌≡◌ {A = ℕ} 0 1 = cc in omega arith
