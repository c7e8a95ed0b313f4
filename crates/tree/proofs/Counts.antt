-- How many matched leaves a change leaves. Assumes nothing.
use Rattle.std.proofs.Common.{◌≡◌, ℕ, suc, ◌+◌, ◌-◌, ◌≤◌, Bool, true, false, cond, not, ◌||◌, List, [], ◌∷◌, ◌++◌, length, drop, is_some, sym, refl, ap, ◌∙◌, ap₂, inl, inr, arith, length-append}
use Rattle.std.proofs.lemmas.Bool.{cases_Bool, both_ways, or_left, or_right}
use Rattle.bits.specs.Lists.{any, count}
use Rattle.bits.specs.Rows.{Bits, same, begins}
use Rattle.tree.specs.Tree.{Routes, Shape, leaf, fork, above, has_node, shape_at, grown, pushed, leaves, matches}
use Rattle.tree.specs.Ledger.{stands, struck, entered}
use Rattle.tree.specs.Changes.{painted, unless, reach}
use Rattle.tree.specs.TreeLaws.{SamePrefixes}
use Rattle.tree.specs.HopLaws.{Leaf}
use Rattle.tree.specs.CountLaws.{unmatched, held}
use Rattle.bits.proofs.Tests.{same_is, never}
use Rattle.bits.proofs.Members.{length_only, same_self, has_row}
use Rattle.bits.proofs.Begins.{begins_join}
use Rattle.tree.proofs.Above.{over, above_is}
use Rattle.tree.proofs.Leaves.{leaf_ends}
use Rattle.tree.proofs.Nodes.{grown_node}
use Rattle.tree.proofs.Prefixes.{pushed_by_prefixes, matches_by_prefixes, stands_struck, stands_entered, rehopped}
use Rattle.tree.proofs.Changes.{entering, striking_beside}
use Rattle.tree.proofs.Lookup.{within, nothing_below}
use Rattle.tree.proofs.Hops.{whole, node_or_below, strikes_node as repainted}
use Rattle.tree.proofs.Matched.{some_hop}
use Rattle.tree.proofs.Tally.{tally, tally_like, count_leaves, node_tally, below_tally, painted_count}

pub held_is : (rs : Routes) → held rs ≡ tally (matches rs) (pushed rs)
held_is rs = length_only (matches rs) (leaves (pushed rs) []) ∙ count_leaves (matches rs) (pushed rs) []

pub held_by_prefixes : (rs ss : Routes) → SamePrefixes rs ss → held rs ≡ held ss
held_by_prefixes rs ss e = held_is rs ∙ tally_like _ _ (matches_by_prefixes rs ss e) (pushed rs) ∙ ap (tally (matches ss)) (pushed_by_prefixes rs ss e) ∙ sym (held_is ss)

matches_entered : (rs : Routes) (p : Bits) (h : ℕ) (u : Bits) → matches (entered rs p h) u ≡ (matches rs u || begins p u)
matches_entered rs p h u =
    let e = matches_by_prefixes (entered rs p h) (record { at = p; hop = h } ∷ rs) (stands_entered rs p h) u in
    grind arith

held_entered : (rs : Routes) (p : Bits) (h : ℕ) → held (entered rs p h) ≡ tally (λ u. matches rs u || begins p u) (grown p (pushed rs))
held_entered rs p h = held_is (entered rs p h) ∙ tally_like _ _ (matches_entered rs p h) (pushed (entered rs p h)) ∙ ap (tally (λ u. matches rs u || begins p u)) (entering rs p h)

-- below a standing route all is matched
stands_matches : (rs : Routes) (v u : Bits) → stands rs v ≡ true → matches rs (v ++ u) ≡ true
stands_matches [] v u s = s
stands_matches (r ∷ rs) v u s =
    let ih = stands_matches rs v u in
    let here : same r.at v ≡ true → begins r.at (v ++ u) ≡ true = λ e. rw (same_is r.at v e) (begins_join v u) in
    grind arith

-- at a node p
pub enters_node : (rs : Routes) (p : Bits) (h : ℕ) → has_node (pushed rs) p ≡ true → held (entered rs p h) ≡ held rs + count (unmatched rs) (reach rs p)
enters_node rs p h node =
    let t = shape_at (pushed rs) p in
    let free : (v u : Bits) → stands rs v ≡ true → unmatched rs (v ++ u) ≡ false = λ v u s. rw (stands_matches rs v u s) in
    let fresh : count (unmatched rs) (reach rs p) ≡ tally (λ u. unmatched rs (p ++ u)) t = painted_count (stands rs) (unmatched rs) free t p ∙ count_leaves (unmatched rs) t p in
    let all : held (entered rs p h) ≡ tally (λ u. matches rs u || begins p u) (pushed rs) = held_entered rs p h ∙ ap (tally (λ u. matches rs u || begins p u)) (grown_node p (pushed rs) node) in
    let parts = node_tally p (pushed rs) (matches rs) node in
    let old = held_is rs in
    omega arith

pub rehops : (rs : Routes) (p : Bits) (h : ℕ) → stands rs p ≡ true → held (entered rs p h) ≡ held rs
rehops rs p h s = held_by_prefixes (entered rs p h) rs (rehopped rs p h s)

matches_near : (rs : Routes) (q a : Bits) → begins q a ≡ true → any (λ r. over q r.at) rs ≡ false → matches rs a ≡ matches rs q
matches_near [] q a h n = refl
matches_near (r ∷ rs) q a h n = let ih = matches_near rs q a in let same_match = within r.at q a in grind arith

-- below the leaf q
module _ (rs : Routes) (q p : Bits) (h : ℕ) (is_leaf : Leaf rs q) (o : above q p ≡ true) where
  abbrev w : Bits
  w = drop (length q) p

  abbrev more : Bits → ℕ
  more r = tally (λ u. matches rs u || begins r u) (grown r (pushed rs))

  row : p ≡ q ++ w
  row = whole (pushed rs) q p ((leaf_ends (pushed rs) q).0 is_leaf) (sym (above_is q p) ∙ o)

  enters_below : held (entered rs p h) + cond (matches rs q) 1 0 ≡ held rs + cond (matches rs q) (suc (length w)) 1
  enters_below =
      let near : (u : Bits) → matches rs (q ++ u) ≡ matches rs q = λ u. matches_near rs q (q ++ u) (begins_join q u) (nothing_below rs q is_leaf) in
      let parts = below_tally q w (pushed rs) (matches rs) (matches rs q) ((leaf_ends (pushed rs) q).0 is_leaf) near in
      let all : held (entered rs p h) ≡ more (q ++ w) = held_entered rs p h ∙ ap more row in
      let old = held_is rs in
      omega arith

  pub below_unmatched : matches rs q ≡ false → held (entered rs p h) ≡ held rs + 1
  below_unmatched m = let e = enters_below in grind arith

  pub below_matched : matches rs q ≡ true → held (entered rs p h) ≡ held rs + (length p - length q)
  below_matched m = let e = enters_below in let l = ap length row ∙ length-append q w in grind arith

-- the route of p entered again
again : (rs : Routes) (p : Bits) → stands rs p ≡ true → held rs ≡ held (entered (struck rs p) p 0)
again rs p s = held_by_prefixes rs (entered (struck rs p) p 0) (λ u.
    let a = stands_entered (struck rs p) p 0 u in
    let b = stands_struck rs p u in
    let e : same p u ≡ true → stands rs u ≡ true = λ j. rw (← same_is p u j) s in
    grind arith)

over_child : (q : Bits) (b : Bool) → over q (q ++ (b ∷ [])) ≡ true
over_child [] b = refl
over_child (true ∷ q) b = over_child q b
over_child (false ∷ q) b = over_child q b

over_under : (q : Bits) (b : Bool) (v : Bits) → over (q ++ (b ∷ [])) v ≡ true → over q v ≡ true
over_under q b [] h = h
over_under [] b (c ∷ v) h = refl
over_under (d ∷ q) b (c ∷ v) h = let ih = over_under q b v in grind arith

painted_like : (own own' : Bits → Bool) (t : Shape) (q : Bits) → ((v : Bits) → over q v ≡ true → own v ≡ own' v) → painted own t q ≡ painted own' t q
unfolding painted
painted_like own own' leaf q h = refl
painted_like own own' (fork a b) q h = ap₂ ◌++◌
    (ap₂ unless (h (q ++ (false ∷ [])) (over_child q false)) (painted_like own own' a (q ++ (false ∷ [])) (λ v o. h v (over_under q false v o))))
    (ap₂ unless (h (q ++ (true ∷ [])) (over_child q true)) (painted_like own own' b (q ++ (true ∷ [])) (λ v o. h v (over_under q true v o))))

over_self : (p : Bits) → over p p ≡ false
over_self [] = refl
over_self (true ∷ p) = over_self p
over_self (false ∷ p) = over_self p

-- a route decides over the same leaves, whether it stands or not
pub reach_struck : (rs : Routes) (p : Bits) → reach (struck rs p) p ≡ reach rs p
reach_struck rs p =
    painted_like (stands (struck rs p)) (stands rs) (shape_at (pushed (struck rs p)) p) p
    (λ v o. let k = stands_struck rs p v in let n : same p v ≡ false = never _ (λ e. both_ways _ (over_self p) (rw (← same_is p v e) at o)) in grind arith)
    ∙ ap (λ t. painted (stands rs) t p) (striking_beside rs p p (above_is p p ∙ over_self p)).1

pub strikes_node : (rs : Routes) (p : Bits) → stands rs p ≡ true → has_node (pushed (struck rs p)) p ≡ true → held rs ≡ held (struck rs p) + count (unmatched (struck rs p)) (reach rs p)
strikes_node rs p s node = again rs p s ∙ enters_node (struck rs p) p 0 node ∙ ap (λ xs. held (struck rs p) + count (unmatched (struck rs p)) xs) (reach_struck rs p)

-- rows that pass all, or fail all
count_all : (f : Bits → Bool) (c : Bool) (xs : List Bits) → ((u : Bits) → any (same u) xs ≡ true → f u ≡ c) → count f xs ≡ cond c (length xs) 0
count_all f true [] h = refl
count_all f false [] h = refl
count_all f c (x ∷ xs) h =
    let here = h x (or_left (same x x) _ (same_self x)) in
    let ih = count_all f c xs (λ u k. h u (or_right (same u x) _ k)) in
    grind arith

-- what p decided is matched afterwards if p is
module _ (rs : Routes) (p : Bits) (s : stands rs p ≡ true) (node : has_node (pushed (struck rs p)) p ≡ true) where
  left_bare : count (unmatched (struck rs p)) (reach rs p) ≡ cond (unmatched (struck rs p) p) (length (reach rs p)) 0
  left_bare = count_all (unmatched (struck rs p)) (unmatched (struck rs p) p) (reach rs p)
      (λ u k. ap not (sym (some_hop (struck rs p) u) ∙ ap is_some ((repainted rs p s node).painted u ((has_row u _).1 k)) ∙ some_hop (struck rs p) p))

  pub strikes_covered : matches (struck rs p) p ≡ true → held rs ≡ held (struck rs p)
  strikes_covered m = let e = left_bare in let n = strikes_node rs p s node in grind arith

  pub strikes_bare : matches (struck rs p) p ≡ false → held rs ≡ held (struck rs p) + length (reach rs p)
  strikes_bare m = let e = left_bare in let n = strikes_node rs p s node in grind arith

pub folds_unmatched : (rs : Routes) (q p : Bits) → stands rs p ≡ true → Leaf (struck rs p) q → above q p ≡ true → matches (struck rs p) q ≡ false → held rs ≡ held (struck rs p) + 1
folds_unmatched rs q p s l o m = again rs p s ∙ below_unmatched (struck rs p) q p 0 l o m

pub folds_matched : (rs : Routes) (q p : Bits) → stands rs p ≡ true → Leaf (struck rs p) q → above q p ≡ true → matches (struck rs p) q ≡ true → held rs ≡ held (struck rs p) + (length p - length q)
folds_matched rs q p s l o m = again rs p s ∙ below_matched (struck rs p) q p 0 l o m

-- to strike what does not stand changes no prefix
absent : (rs : Routes) (p : Bits) → stands rs p ≡ false → SamePrefixes (struck rs p) rs
absent rs p s u = let k = stands_struck rs p u in let e : same p u ≡ true → stands rs u ≡ false = λ j. rw (← same_is p u j) s in grind arith

pub never_more : (rs : Routes) (p : Bits) → held (struck rs p) ≤ held rs
never_more rs p = elim (cases_Bool (stands rs p)) [
  | inl s ↦ elim (node_or_below (struck rs p) p) [
    | inl node ↦ omega (arith, strikes_node rs p s node)
    | inr (q, l, o) ↦ elim (cases_Bool (matches (struck rs p) q)) [
      | inl m ↦ omega (arith, folds_matched rs q p s l o m)
      | inr m ↦ omega (arith, folds_unmatched rs q p s l o m)
    ]
  ]
  | inr s ↦ omega (arith, held_by_prefixes (struck rs p) rs (absent rs p s))
]
