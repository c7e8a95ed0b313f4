-- The tree below a node: how deep it is, what it is where the tree has grown, and which of its leaves painting reaches. Assumes nothing.
use Rattle.std.proofs.Common.{◌≡◌, ℕ, ◌+◌, ◌≤◌, Bool, true, false, [], ◌∷◌, ◌++◌, length, drop, refl, ap, ◌∙◌, ap₂, arith, length-append}
use Rattle.std.proofs.lemmas.Bool.{and_parts, and_from, ltb-true, lt-ltb}
use Rattle.bits.specs.Rows.{Bits, same}
use Rattle.bits.proofs.Tests.{same_is}
use Rattle.bits.proofs.Begins.{begins_rest, begins_join, begins_shorter}
use Rattle.tree.specs.Tree.{Routes, Shape, leaf, fork, above, branching, has_node, shape_at, grown, pushed, leaves}
use Rattle.tree.specs.Ledger.{stands}
use Rattle.tree.specs.Changes.{painted, twigs}
use Rattle.tree.specs.HopLaws.{Leaf}
use Rattle.tree.specs.LeafLaws.{AtMost}
use Rattle.tree.proofs.Leaves.{ends_at, leaf_ends}
use Rattle.tree.proofs.Nodes.{leaf_nodes}
use Rattle.tree.proofs.Leaves as l
use Rattle.graph.specs.Keep.{depth}

-- no deeper than the tree is long
same_depth : (t : Shape) → depth t ≡ l.depth t
same_depth leaf = refl
same_depth (fork a b) = let x = same_depth a in let y = same_depth b in grind arith

node_depth : (t : Shape) (q : Bits) → has_node t q ≡ true → length q + depth (shape_at t q) ≤ depth t
node_depth t [] h = omega arith
node_depth leaf (c ∷ q) h = grind arith
node_depth (fork a b) (false ∷ q) h = let ih = node_depth a q h in grind arith
node_depth (fork a b) (true ∷ q) h = let ih = node_depth b q h in grind arith

pub fits : (W : ℕ) (rs : Routes) (q : Bits) → AtMost W rs → W ≤ 128 → has_node (pushed rs) q ≡ true → length q + depth (shape_at (pushed rs) q) ≤ 128
fits W rs q short most node =
    let d = l.depth_pushed rs W short in
    let s = same_depth (pushed rs) in
    let n = node_depth (pushed rs) q node in
    omega arith

-- where a tree has grown from its leaf q on, only the way there lies below q
shape_grown : (t : Shape) (q w : Bits) → ends_at t q ≡ true → shape_at (grown (q ++ w) t) q ≡ grown w leaf
shape_grown leaf [] w h = refl
shape_grown leaf (c ∷ q) w h = grind arith
shape_grown (fork a b) [] w h = grind arith
shape_grown (fork a b) (false ∷ q) w h = shape_grown a q w h
shape_grown (fork a b) (true ∷ q) w h = shape_grown b q w h

node_grown : (t : Shape) (q w : Bits) → ends_at t q ≡ true → has_node (grown (q ++ w) t) q ≡ true
node_grown leaf [] w h = refl
node_grown leaf (c ∷ q) w h = grind arith
node_grown (fork a b) [] w h = refl
node_grown (fork a b) (false ∷ q) w h = node_grown a q w h
node_grown (fork a b) (true ∷ q) w h = node_grown b q w h

-- painting reaches each leaf below q where no node below q has a route of its own
painted_all : (own : Bits → Bool) (t : Shape) (q : Bits) → ((v : Bits) → above q v ≡ true → own v ≡ false) → painted own t q ≡ leaves t q
unfolding painted
painted_all own leaf q none = refl
painted_all own (fork a b) q none =
    rw (none (q ++ (false ∷ [])) (child_above q false), none (q ++ (true ∷ [])) (child_above q true))
    (ap₂ ◌++◌ (painted_all own a (q ++ (false ∷ [])) (λ v h. none v (above_child q false v h))) (painted_all own b (q ++ (true ∷ [])) (λ v h. none v (above_child q true v h))))
  where
    child_above : (q : Bits) (b : Bool) → above q (q ++ (b ∷ [])) ≡ true
    child_above q b = and_from _ _ (lt-ltb _ _ (rw length-append (omega arith))) (begins_join q (b ∷ []))

    above_child : (q : Bits) (b : Bool) (v : Bits) → above (q ++ (b ∷ [])) v ≡ true → above q v ≡ true
    above_child q b v h =
        let (longer, front) = and_parts _ _ h in
        let n = length-append q (b ∷ []) in
        let k = ltb-true (length (q ++ (b ∷ []))) (length v) longer in
        and_from _ _ (lt-ltb _ _ (omega arith)) (begins_shorter q (b ∷ []) v front)

-- no route stands below a leaf
unbranched : (rs : Routes) (q v : Bits) → branching rs q ≡ false → above q v ≡ true → stands rs v ≡ false
unbranched [] q v n h = refl
unbranched (r ∷ rs) q v n h =
    let ih = unbranched rs q v in
    let here : same r.at v ≡ true → above q r.at ≡ true = λ s. rw (same_is r.at v s) h in
    grind arith

pub bare_below : (rs : Routes) (q v : Bits) → Leaf rs q → above q v ≡ true → stands rs v ≡ false
bare_below rs q v l h = unbranched rs q v ((leaf_nodes rs q).0 l).1 h

-- what painting reaches below a leaf's node, once the tree has grown to p
module _ (rs : Routes) (q p : Bits) (is_leaf : Leaf rs q) (over : above q p ≡ true) where
  whole : p ≡ q ++ drop (length q) p
  whole = begins_rest q p (and_parts _ _ over).1

  pub split_shape : shape_at (grown p (pushed rs)) q ≡ grown (drop (length q) p) leaf
  split_shape = ap (λ r. shape_at (grown r (pushed rs)) q) whole ∙ shape_grown (pushed rs) q (drop (length q) p) ((leaf_ends (pushed rs) q).0 is_leaf)

  pub split_node : has_node (grown p (pushed rs)) q ≡ true
  split_node = ap (λ r. has_node (grown r (pushed rs)) q) whole ∙ node_grown (pushed rs) q (drop (length q) p) ((leaf_ends (pushed rs) q).0 is_leaf)

  pub split_painted : painted (stands rs) (shape_at (grown p (pushed rs)) q) q ≡ twigs q p
  split_painted = rw split_shape (painted_all (stands rs) (grown (drop (length q) p) leaf) q (λ v h. bare_below rs q v is_leaf h))
