-- A lookup goes through the leaf store to the longest match. Assumes nothing.
use Rattle.std.proofs.Common.{◌≡◌, ℕ, Bool, true, false, cond, List, [], length, take, Some, None, Option, sym, refl, ap, ◌∙◌, arith}
use Rattle.bits.specs.Lists.{any}
use Rattle.bits.specs.Rows.{Bits, same}
use Rattle.bits.proofs.Begins.{take_begins}
use Rattle.tree.specs.Tree.{Routes, pushed, leaves, longest, hop_of}
use Rattle.tree.specs.Graph.{walk}
use Rattle.tree.specs.LeafLaws.{AtMost}
use Rattle.tree.specs.Ledger.{Given, lookup, looked}
use Rattle.tree.specs.StoreLaws.{leaf_entry}
use Rattle.tree.proofs.Walks.{leaf_depth, reads_end_at_leaves}
use Rattle.tree.proofs.Tells.{leaf_at}
use Rattle.tree.proofs.Stores.{found_at_leaf}
use Rattle.graph.specs.Slots.{led, Unfolds}
use Rattle.graph.specs.declared.edge.Edge.{Edge}
use Rattle.graph.specs.declared.vertex.Vertex.{Vertex}
use Rattle.graph.specs.View.{way, out, graph_of}
use Rattle.graph.proofs.View.{reads_of_unfolds}
use Rattle.graph.proofs.Unfold.{led_unfolds}
use Rattle.engine.specs.State.{State}
use Rattle.engine.specs.Calls.{Answers}
use Rattle.engine.specs.Serves.{Serves}

module _ (rs : Routes) (slots : List Vertex) (start : Edge) (a : Bits) (short : AtMost (length a) rs) (starts : Unfolds slots start (pushed rs)) where
  -- the walk's end is the address's leaf, whose entry is the address's longest match
  pub at_depth : (d : ℕ) → Some d ≡ walk (out slots) (way (led slots start)) a → leaf_entry rs (take d a) ≡ hop_of (longest rs a)
  at_depth d h =
      let w : walk (out slots) (way start) a ≡ Some d = ap (λ e. walk (out slots) (way e) a) (sym (led_unfolds starts)) ∙ sym h in
      let l = (reads_end_at_leaves (length a) rs short (graph_of slots start) (reads_of_unfolds starts) a refl d).0 w in
      found_at_leaf rs a (take d a) ((leaf_at rs a d).0 l).1 (take_begins d a)

  -- it has one
  pub always_ends : None ≡ walk (out slots) (way (led slots start)) a → ⊥
  always_ends h =
      let (d, l) = leaf_depth (length a) rs short a refl in
      let w = (reads_end_at_leaves (length a) rs short (graph_of slots start) (reads_of_unfolds starts) a refl d).1 l in
      let same : walk (out slots) (way (led slots start)) a ≡ Some d = ap (λ e. walk (out slots) (way e) a) (led_unfolds starts) ∙ w in
      let no : ◌≡◌ {A = Option ℕ} None (Some d) = h ∙ same in
      let z : ◌≡◌ {A = ℕ} 0 1 = cc in zero_one z
    where
      zero_one : ◌≡◌ {A = ℕ} 0 1 → ⊥
      zero_one z = omega arith

module _ (g : Given) (rs : Routes) (s : State) (a : Bits) (serves : Serves g rs s) (long : length a ≡ s.width) where
  short : AtMost (length a) rs
  short = let e : length a ≡ g.width = long ∙ sym serves.stored.width in rw e serves.ledger.short

  pub found : (d : ℕ) → Some d ≡ walk (out s.slots) (way (led s.slots s.start)) a → (q : Bits) → q ≡ take d a → (o : Option ℕ) → o ≡ s.leaves.map q → Answers g rs (lookup a) (looked o)
  found d ends q front o told = ap looked (sym (at_depth rs s.slots s.start a short serves.starts d ends) ∙ sym (serves.stored.leaf_hops (take d a)) ∙ ap s.leaves.map (sym front) ∙ sym told)

  pub lookup_ends : None ≡ walk (out s.slots) (way (led s.slots s.start)) a → ⊥
  lookup_ends = always_ends rs s.slots s.start a short serves.starts

-- no route, no entry
pub no_entries : (q : Bits) → leaf_entry [] q ≡ None
no_entries q = both (any (same q) (leaves (pushed []) []))
  where
    both : (b : Bool) → ◌≡◌ {A = Option ℕ} (cond b None None) None
    both true = refl
    both false = refl
