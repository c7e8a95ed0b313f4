-- What the stores hold, read as facts of the routes. Assumes nothing.
use Rattle.std.proofs.Common.{◌≡◌, ℕ, ◌+◌, ◌-◌, ◌^◌, ◌<◌, ◌≤◌, min, Bool, true, false, cond, not, ◌&&◌, eqb, ltb, List, [], ◌∷◌, length, is_some, Some, None, Ok, Err, Option, Result, sym, refl, ap, ◌∙◌, subst, inl, inr, arith}
use mathlib.Core.Path.{fun_ext}
use mathlib.Core.List.{mem-cons_self}
use Rattle.std.proofs.lemmas.Bool.{cases_Bool, or_left, or_right, lt-ltb, le-ltb}
use Rattle.std.proofs.lemmas.Bool.Decides.{nat_tests}
use Rattle.bits.specs.Lists.{any, count}
use Rattle.bits.specs.Rows.{Bits, same, begins}
use Rattle.bits.proofs.Members.{same_self, same_swap, has_row}
use Rattle.bits.proofs.Tests.{same_is}
use Rattle.bits.proofs.Begins.{begins_same}
use Rattle.refusal.specs.declared.Refusal.{Refusal}
use Rattle.store.specs.Content.{Content, Sound, Puts, Wrote, put_refusal, bad_hop, hop_told, absent, present}
use Rattle.tree.specs.Tree.{Route, Routes, above, pushed, leaves, matches, matched, longest, hop_of, has_node, shape_at}
use Rattle.tree.specs.Ledger.{Given, stands, struck, entered, greatest_hop}
use Rattle.tree.specs.LedgerLaws as ledger
use Rattle.tree.specs.Changes.{painted, reach}
use Rattle.tree.specs.HopLaws.{Leaf, leaf_hop}
use Rattle.tree.specs.CountLaws.{unmatched}
use Rattle.tree.specs.StoreLaws.{hop_at, leaf_entry}
use Rattle.tree.proofs.Stores.{routes_held, entered_hop, struck_hop}
use Rattle.tree.proofs.Entries.{entry_leaf}
use Rattle.tree.proofs.Matched.{some_hop}
use Rattle.tree.proofs.Longest.{longest_some}
use Rattle.tree.proofs.Counts.{enters_node, rehops, below_matched, below_unmatched}
use Rattle.tree.proofs.Hops as hops
use Rattle.graph.specs.Slots.{led, Unfolds}
use Rattle.graph.specs.declared.edge.Edge.{Edge}
use Rattle.graph.proofs.Growing.{taken}
use Rattle.paint.specs.Paint.{has, missing, fair, Counts}
use Rattle.paint.proofs.Whole.{counts_whole}
use Rattle.engine.specs.State.{State}
use Rattle.engine.specs.Serves.{Serves, Stored}
use Rattle.engine.proofs.Numbers.{routes_number, leaves_number}
use Rattle.engine.proofs.Trees.{fits}

-- counted on the members alone
pub count_on : (f g : Bits → Bool) (xs : List Bits) → ((x : Bits) → any (same x) xs ≡ true → f x ≡ g x) → count f xs ≡ count g xs
count_on f g [] alike = refl
count_on f g (x ∷ xs) alike =
    let here = alike x (or_left (same x x) _ (same_self x)) in
    let ih = count_on f g xs (λ y h. alike y (or_right (same y x) _ h)) in
    rw (here, ih)

pub count_some : (f : Bits → Bool) (x : Bits) (xs : List Bits) → any (same x) xs ≡ true → f x ≡ true → 1 ≤ count f xs
count_some f x [] m h = grind arith
count_some f x (y ∷ ys) m h =
    let ih = count_some f x ys in
    let here : same x y ≡ true → f y ≡ true = λ s. rw (← same_is x y s) h in
    grind arith

-- a route's own row is matched
pub stands_matches : (rs : Routes) (p : Bits) → stands rs p ≡ true → matches rs p ≡ true
stands_matches [] p h = h
stands_matches (r ∷ rs) p h =
    let ih = stands_matches rs p in
    let here : same r.at p ≡ true → begins r.at p ≡ true = λ s. begins_same r.at p (same_swap p r.at ∙ s) in
    grind arith

-- put is done where no check refuses it
pub put_done : (q : Bits) (h : ℕ) (a b : Content) (r : Result (Unit {0}) Refusal) → put_refusal a q h ≡ None → Puts q h a b r → Wrote q (hop_told h) a b
put_done q h a b (Ok u) free puts = puts.1
put_done q h a b (Err e) free puts = absurd (no (sym free ∙ puts.0))
  where
    no : ◌≡◌ {A = Option Refusal} None (Some e) → ⊥
    no z = let k : ◌≡◌ {A = ℕ} 0 1 = cc in omega arith

good_hop : (h : ℕ) → (1 ≤ h) × (h ≤ greatest_hop) → bad_hop h ≡ false
good_hop h k = let l = k.0 in let m = k.1 in grind (arith, nat_tests)

pub free_at : (a : Content) (q : Bits) (h : ℕ) → (1 ≤ h) × (h ≤ greatest_hop) → (not (present (a.map q)) && eqb a.held a.limit) ≡ false → put_refusal a q h ≡ None
free_at a q h good room = let b = good_hop h good in grind arith

module _ (g : Given) (rs : Routes) (sound : ledger.Sound g rs) where
  -- the hops of routes and leaves are hops
  fair_some : (o : Option ℕ) → ((h : ℕ) → o ≡ Some h → (1 ≤ h) × (h ≤ greatest_hop)) → fair o ≡ true
  fair_some None k = refl
  fair_some (Some h) k = let b = good_hop h (k h refl) in grind arith

  pub leaf_fair : (q : Bits) → fair (leaf_hop rs q) ≡ true
  leaf_fair q = go (longest rs q) refl
    where
      go : (o : Option Route) → longest rs q ≡ o → fair (hop_of o) ≡ true
      go None e = refl
      go (Some r) e = let b = good_hop r.hop (sound.hops r (longest_some rs q r e).member) in grind arith

  pub entry_fair : (q : Bits) → fair (leaf_entry rs q) ≡ true
  entry_fair q = elim (cases_Bool (any (same q) (leaves (pushed rs) []))) [
    | inl l ↦ rw l (leaf_fair q)
    | inr l ↦ rw l refl
  ]

-- a route that was just entered
pub entered_good : (g : Given) (rs : Routes) (p : Bits) (h : ℕ) → ledger.Sound g (entered rs p h) → (1 ≤ h) × (h ≤ greatest_hop)
entered_good g rs p h sound = sound.hops (record { at = p; hop = h }) mem-cons_self

-- the number follows from the map
pub stored_by : (g : Given) (ss : Routes) (t : State) → ledger.Sound g ss → g.width ≡ t.width
    → Sound t.routes → ((p : Bits) → t.routes.map p ≡ hop_at ss p) → t.routes.limit ≡ g.route_limit
    → Sound t.leaves → ((q : Bits) → t.leaves.map q ≡ leaf_entry ss q) → t.leaves.limit ≡ g.leaf_limit
    → Stored g ss t
stored_by g ss t sound wide sr told lr sl told' ll = record {
  width = wide;
  routes_sound = sr;
  route_hops = told;
  routes_held = routes_number t.routes ss sr sound.once told;
  routes_limit = lr;
  leaves_sound = sl;
  leaf_hops = told';
  leaves_held = leaves_number t.leaves ss sl told';
  leaves_limit = ll;
}

module _ (g : Given) (rs : Routes) (s : State) (stored : Stored g rs s) where
  pub has_routes : has s.routes.map ≡ stands rs
  has_routes = fun_ext (λ q. ap is_some (stored.route_hops q) ∙ routes_held rs q)

  pub put_told : (p : Bits) (h : ℕ) (after : Content) → Wrote p (hop_told h) s.routes after → (q : Bits) → after.map q ≡ hop_at (entered rs p h) q
  put_told p h after wrote q = wrote.rows q ∙ ap (λ b. cond b (Some h) (s.routes.map q)) (same_swap q p) ∙ ap (cond (same p q) (Some h)) (stored.route_hops q) ∙ sym (entered_hop rs p h q)

  pub remove_told : (p : Bits) (after : Content) → Wrote p absent s.routes after → (q : Bits) → after.map q ≡ hop_at (struck rs p) q
  remove_told p after wrote q = wrote.rows q ∙ ap (λ b. cond b None (s.routes.map q)) (same_swap q p) ∙ ap (cond (same p q) None) (stored.route_hops q) ∙ sym (struck_hop rs p q)

  -- the routes have room for one that stands already, and for a new one where the limit is not reached
  pub put_free : (p : Bits) (h : ℕ) → ledger.Sound g (entered rs p h) → (stands rs p ≡ true) → put_refusal s.routes p h ≡ None
  put_free p h sound there =
      let here : present (s.routes.map p) ≡ true = ap (λ t. t p) has_routes ∙ there in
      free_at s.routes p h (entered_good g rs p h sound) (grind arith)

  pub put_new : (p : Bits) (h : ℕ) → ledger.Sound g (entered rs p h) → (stands rs p ≡ false) → length (entered rs p h) ≡ length rs + 1 → put_refusal s.routes p h ≡ None
  put_new p h sound away more =
      let fit = sound.routes_fit in
      let held = stored.routes_held in
      let limit = stored.routes_limit in
      let apart : eqb s.routes.held s.routes.limit ≡ false = grind (arith, nat_tests) in
      free_at s.routes p h (entered_good g rs p h sound) (grind arith)

  -- a leaf has an entry exactly where it is matched
  leaf_missing : (q : Bits) → Leaf rs q → missing s.leaves.map q ≡ unmatched rs q
  leaf_missing q l = ap not (ap is_some (stored.leaf_hops q ∙ entry_leaf rs q l) ∙ some_hop rs q)

  pub reach_missing : (p : Bits) → has_node (pushed rs) p ≡ true → count (missing s.leaves.map) (reach rs p) ≡ count (unmatched rs) (reach rs p)
  reach_missing p node = count_on _ _ (reach rs p) (λ u m. leaf_missing u ((hops.enters_node rs p node 0).leaf u ((has_row u _).1 m)))

  -- the leaf store has room for what it will hold
  pub node_number : (p : Bits) (h : ℕ) → has_node (pushed rs) p ≡ true → s.leaves.held + count (missing s.leaves.map) (reach rs p) ≡ length (matched (entered rs p h))
  node_number p h node = let a = stored.leaves_held in let b = reach_missing p node in let c = enters_node rs p h node in omega arith

  pub node_room : (p : Bits) (h : ℕ) → has_node (pushed rs) p ≡ true → ledger.Sound g (entered rs p h) → s.leaves.held + count (missing s.leaves.map) (reach rs p) ≤ s.leaves.limit
  node_room p h node sound = let a = node_number p h node in let b = sound.leaves_fit in let c = stored.leaves_limit in omega arith

  -- a standing route's leaves all have an entry
  pub standing_room : (p : Bits) → has_node (pushed rs) p ≡ true → stands rs p ≡ true → s.leaves.held + count (missing s.leaves.map) (reach rs p) ≤ s.leaves.limit
  standing_room p node there = let a = node_number p 0 node in let b = rehops rs p 0 there in let c = stored.leaves_held in let d = stored.leaves_sound.within in omega arith

  pub counted_reach : (p : Bits) (n : ℕ) → n ≡ min (count (missing s.leaves.map) (painted (has s.routes.map) (shape_at (pushed rs) p) p)) (2 ^ 64 - 1) → n ≡ min (count (missing s.leaves.map) (reach rs p)) (2 ^ 64 - 1)
  counted_reach p n e = e ∙ ap (λ f. min (count (missing s.leaves.map) (painted f (shape_at (pushed rs) p) p)) (2 ^ 64 - 1)) has_routes

  -- whether there is room at a node p, by what was counted
  module _ (p : Bits) (h : ℕ) (node : has_node (pushed rs) p ≡ true) (added : ℕ) (counted : added ≡ min (count (missing s.leaves.map) (reach rs p)) (2 ^ 64 - 1)) where
    pub node_full : s.leaves.limit - s.leaves.held < added → ltb g.leaf_limit (length (matched (entered rs p h))) ≡ true
    node_full less = lt-ltb _ _ (let n = node_number p h node in let k = stored.leaves_limit in let w = stored.leaves_sound.within in omega (arith, counted, less))

    pub node_fits : added ≤ s.leaves.limit - s.leaves.held → ltb g.leaf_limit (length (matched (entered rs p h))) ≡ false
    node_fits few = le-ltb _ _ (let n = node_number p h node in let k = stored.leaves_limit in let w = stored.leaves_sound.within in let m = stored.leaves_sound.most in omega (arith, counted, few))

  -- and below a leaf q
  module _ (q p : Bits) (h : ℕ) (is_leaf : Leaf rs q) (over : above q p ≡ true) (added : ℕ) (counted : added ≡ cond (present (s.leaves.map q)) (length p - length q) 1) where
    below_number : s.leaves.held + added ≡ length (matched (entered rs p h))
    below_number =
        let is : present (s.leaves.map q) ≡ matches rs q = ap is_some (stored.leaf_hops q ∙ entry_leaf rs q is_leaf) ∙ some_hop rs q in
        let held = stored.leaves_held in
        elim (cases_Bool (matches rs q)) [
          | inl m ↦ (let b = below_matched rs q p h is_leaf over m in let c : added ≡ length p - length q = counted ∙ ap (λ b. cond b (length p - length q) 1) (is ∙ m) in omega arith)
          | inr m ↦ (let b = below_unmatched rs q p h is_leaf over m in let c : added ≡ 1 = counted ∙ ap (λ b. cond b (length p - length q) 1) (is ∙ m) in omega arith)
        ]

    pub below_full : s.leaves.limit - s.leaves.held < added → ltb g.leaf_limit (length (matched (entered rs p h))) ≡ true
    below_full less = lt-ltb _ _ (let n = below_number in let k = stored.leaves_limit in let w = stored.leaves_sound.within in omega (arith, less))

    pub below_fits : added ≤ s.leaves.limit - s.leaves.held → ltb g.leaf_limit (length (matched (entered rs p h))) ≡ false
    below_fits most = le-ltb _ _ (let n = below_number in let k = stored.leaves_limit in let w = stored.leaves_sound.within in omega (arith, most))

-- the same of a node p that the edge leads to, where what is below the edge was counted
module _ (g : Given) (rs : Routes) (s : State) (serves : Serves g rs s) (most : s.width ≤ 128) (p : Bits) (h : ℕ) (node : has_node (pushed rs) p ≡ true)
    (edge : Edge) (leads : Unfolds s.slots edge (shape_at (pushed rs) p)) (added : ℕ) (counts : Counts s.routes.map s.leaves.map s.slots (led s.slots edge) p added) where
  counted : added ≡ min (count (missing s.leaves.map) (reach rs p)) (2 ^ 64 - 1)
  counted = counted_reach g rs s serves.stored p added
      (counts_whole _ _ _ _ _ _ counts (shape_at (pushed rs) p) (taken leads) (fits g.width rs p serves.ledger.short (subst (λ w. w ≤ 128) (sym serves.stored.width) most) node))

  pub edge_full : s.leaves.limit - s.leaves.held < added → ltb g.leaf_limit (length (matched (entered rs p h))) ≡ true
  edge_full less = node_full g rs s serves.stored p h node added counted less

  pub edge_fits : added ≤ s.leaves.limit - s.leaves.held → ltb g.leaf_limit (length (matched (entered rs p h))) ≡ false
  edge_fits few = node_fits g rs s serves.stored p h node added counted few
