-- One lemma for each way to write a change: what the parts do to the stores comes to what they hold for the new routes. Assumes nothing.
use Rattle.std.proofs.Common.{◌≡◌, ℕ, suc, ◌+◌, ◌≤◌, Bool, true, false, cond, not, ◌&&◌, eqb, ltb, [], ◌∷◌, length, is_ok, is_some, Some, None, Option, Result, sym, refl, ap, ◌∙◌, subst, inl, inr, arith}
use mathlib.Core.Path.{fun_ext}
use mathlib.Core.List.{Mem}
use Rattle.std.proofs.lemmas.Bool.{cases_Bool, and_parts}
use Rattle.std.proofs.lemmas.Bool.Decides.{nat_tests}
use Rattle.bits.specs.Lists.{any, count}
use Rattle.bits.specs.Rows.{Bits, same, begins}
use Rattle.bits.proofs.Members.{has_row, count_none, count_most}
use Rattle.refusal.specs.declared.Refusal.{Refusal}
use Rattle.store.specs.Content.{Content, Sound, Puts, Removes, put_refusal, present, absent, size}
use Rattle.tree.specs.Tree.{Routes, leaf, above, has_node, shape_at, grown, pushed, leaves, matches}
use Rattle.tree.specs.Ledger.{Given, stands, struck, entered}
use Rattle.tree.specs.LedgerLaws as ledger
use Rattle.tree.specs.Changes.{painted, reach, twigs}
use Rattle.tree.specs.HopLaws.{Leaf, leaf_hop}
use Rattle.tree.specs.StoreLaws.{hop_at, leaf_entry}
use Rattle.tree.proofs.Changes.{entering, undoing, standing_node}
use Rattle.tree.proofs.Counts.{below_unmatched, below_matched}
use Rattle.tree.proofs.Entries.{repainted, split_entries, fold_entries, entry_leaf}
use Rattle.tree.proofs.Hops as hops
use Rattle.tree.proofs.Matched.{some_hop}
use Rattle.tree.proofs.Sounds.{one_more}
use Rattle.tree.proofs.Stores.{routes_held}
use Rattle.tree.proofs.Twigs.{twigs_number}
use Rattle.graph.specs.Slots.{Unfolds, unfolds_end, led}
use Rattle.graph.specs.declared.edge.Edge.{Edge}
use Rattle.graph.specs.declared.edge.Edge.TheVariants.{End}
use Rattle.graph.proofs.Growing.{taken}
use Rattle.paint.specs.Paint.{has, missing, Paints, fair}
use Rattle.paint.proofs.Whole.{Whole, PaintsWhole, paints_whole}
use Rattle.graph.specs.Descend.{Descends}
use Rattle.graph.specs.declared.spot.Spot.{Spot}
use Rattle.engine.specs.State.{State, rewritten}
use Rattle.engine.specs.Serves.{Stored}
use Rattle.engine.specs.Writes.{Writable, PaintsFrom}
use Rattle.engine.proofs.Spots.{node_edge}
use Rattle.engine.proofs.Stocks.{count_some, stands_matches, put_done, free_at, leaf_fair, entry_fair, entered_good, stored_by, has_routes, put_told, remove_told, put_free, put_new, node_room, standing_room}
use Rattle.engine.proofs.Trees.{fits, split_node, split_painted}

-- painting from a leaf
at_leaf : (own : Bits → Bool) (q : Bits) → painted own leaf q ≡ q ∷ []
unfolding painted
at_leaf own q = refl

-- the state before, and what the stores hold at last
module _ (g : Given) (rs : Routes) (s : State) (most : s.width ≤ 128) (before : ledger.Sound g rs) (stored : Stored g rs s)
    (p : Bits) (routes' leaves' : Content) (sr : Sound routes') (sl : Sound leaves') where
  narrow : g.width ≤ 128
  narrow = subst (λ w. w ≤ 128) (sym stored.width) most

  -- the routes have room for what they will hold
  routes_free : (h : ℕ) → ledger.Sound g (entered rs p h) → put_refusal s.routes p h ≡ None
  routes_free h after = elim (cases_Bool (stands rs p)) [
    | inl there ↦ put_free g rs s stored p h after there
    | inr away ↦ put_new g rs s stored p h after away (let m = one_more rs p h away in omega arith)
  ]

  -- painting the leaves that the route of a node decides
  repaint : (hop : Option ℕ) (ok : Bool) (edge : Edge) → fair hop ≡ true → has_node (pushed rs) p ≡ true → Unfolds s.slots edge (shape_at (pushed rs) p)
      → PaintsWhole s.routes.map s.slots (led s.slots edge) p hop s.leaves leaves' ok → Whole (reach rs p) hop s.leaves leaves' ok
  repaint hop ok edge good node leads paints =
      subst (λ f. Whole (painted f (shape_at (pushed rs) p) p) hop s.leaves leaves' ok) (has_routes g rs s stored)
      (paints good (shape_at (pushed rs) p) (taken leads) (fits g.width rs p before.short narrow node))

  sets_by : (h : ℕ) (edge : Edge) (ok : Bool) (r : Result (Unit {0}) Refusal) → ledger.Sound g (entered rs p h) → has_node (pushed rs) p ≡ true → Unfolds s.slots edge (shape_at (pushed rs) p)
      → leaves'.limit ≡ s.leaves.limit → PaintsWhole s.routes.map s.slots (led s.slots edge) p (Some h) s.leaves leaves' ok
      → routes'.limit ≡ s.routes.limit → Puts p h s.routes routes' r
      → Stored g (entered rs p h) (rewritten s routes' leaves')
  sets_by h edge ok r after node leads ll paints lr puts =
      let good : fair (Some h) ≡ true = (let k = entered_good g rs p h after in good_fair h k) in
      let paint = repaint (Some h) ok edge good node leads paints in
      let done = paint.room (node_room g rs s stored p h node after) in
      stored_by g (entered rs p h) (rewritten s routes' leaves') after stored.width
      sr (put_told g rs s stored p h routes' (put_done p h s.routes routes' r (routes_free h after) puts)) (lr ∙ stored.routes_limit)
      sl (λ u. paint.rows done u ∙ ap (cond (any (same u) (reach rs p)) (Some h)) (stored.leaf_hops u) ∙ sym (repainted rs (entered rs p h) p (Some h) (hops.enters_node rs p node h) u)) (ll ∙ stored.leaves_limit)
    where
      good_fair : (h : ℕ) → (1 ≤ h) × (h ≤ 65535) → fair (Some h) ≡ true
      good_fair h k = let l = k.0 in let m = k.1 in grind (arith, nat_tests)

  clears_by : (next : Option ℕ) (edge : Edge) (ok : Bool) (t : Option ℕ) → ledger.Sound g (struck rs p) → stands rs p ≡ true → has_node (pushed (struck rs p)) p ≡ true
      → Unfolds s.slots edge (shape_at (pushed rs) p) → next ≡ leaf_hop (struck rs p) p
      → leaves'.limit ≡ s.leaves.limit → PaintsWhole s.routes.map s.slots (led s.slots edge) p next s.leaves leaves' ok
      → routes'.limit ≡ s.routes.limit → Removes p s.routes routes' t
      → Stored g (struck rs p) (rewritten s routes' leaves')
  clears_by next edge ok t after there node' leads is ll paints lr removes =
      let node = standing_node rs p there in
      let good : fair next ≡ true = ap fair is ∙ leaf_fair g (struck rs p) after p in
      let paint = repaint next ok edge good node leads paints in
      let done = paint.room (standing_room g rs s stored p node there) in
      stored_by g (struck rs p) (rewritten s routes' leaves') after stored.width
      sr (remove_told g rs s stored p routes' removes.taken) (lr ∙ stored.routes_limit)
      sl (λ u. paint.rows done u ∙ ap (λ o. cond (any (same u) (reach rs p)) o (s.leaves.map u)) is ∙ ap (cond (any (same u) (reach rs p)) (leaf_hop (struck rs p) p)) (stored.leaf_hops u)
      ∙ sym (repainted rs (struck rs p) p (leaf_hop (struck rs p) p) (hops.strikes_node rs p there node') u)) (ll ∙ stored.leaves_limit)

  module _ (q : Bits) (over : above q p ≡ true) where
    -- the leaf q gives way: its entry is taken out, the leaves below it get what it had, then p gets its hop
    split_by : (h : ℕ) (start : Edge) (spot : Spot) (had : Option ℕ) (one two : Content) (ok : Bool) (r r' : Result (Unit {0}) Refusal)
        → ledger.Sound g (entered rs p h) → Leaf rs q → Unfolds s.slots start (pushed (entered rs p h))
        → Removes q s.leaves one had → one.limit ≡ s.leaves.limit
        → Descends s.slots start q spot
        → PaintsWhole s.routes.map s.slots (led s.slots spot.edge) q had one two ok → two.limit ≡ one.limit
        → Puts p h two leaves' r → leaves'.limit ≡ two.limit
        → Puts p h s.routes routes' r' → routes'.limit ≡ s.routes.limit
        → Stored g (entered rs p h) (rewritten s routes' leaves')
    split_by h start spot had one two ok r r' after is_leaf leads removes l1 descends paints l2 puts l3 puts' lr =
        stored_by g (entered rs p h) (rewritten s routes' leaves') after stored.width
        sr (put_told g rs s stored p h routes' (put_done p h s.routes routes' r' (routes_free h after) puts')) (lr ∙ stored.routes_limit)
        sl rows (l3 ∙ l2 ∙ l1 ∙ stored.leaves_limit)
      where
        node : has_node (pushed (entered rs p h)) q ≡ true
        node = ap (λ t. has_node t q) (entering rs p h) ∙ split_node rs q p is_leaf over

        had_is : had ≡ leaf_entry rs q
        had_is = removes.answer ∙ stored.leaf_hops q

        reached : painted (has s.routes.map) (shape_at (pushed (entered rs p h)) q) q ≡ twigs q p
        reached = ap (λ f. painted f (shape_at (pushed (entered rs p h)) q) q) (has_routes g rs s stored)
            ∙ ap (λ t. painted (stands rs) (shape_at t q) q) (entering rs p h) ∙ split_painted rs q p is_leaf over

        paint : Whole (twigs q p) had one two ok
        paint = subst (λ xs. Whole xs had one two ok) reached
            (paints (ap fair had_is ∙ entry_fair g rs before q) (shape_at (pushed (entered rs p h)) q)
            (taken (node_edge s.slots (pushed (entered rs p h)) q spot (descends (pushed (entered rs p h)) (taken leads)) node))
            (fits g.width (entered rs p h) q after.short narrow node))

        is_matched : is_some had ≡ matches rs q
        is_matched = ap is_some (had_is ∙ entry_leaf rs q is_leaf) ∙ some_hop rs q

        front : begins q p ≡ true
        front = (and_parts (ltb (length q) (length p)) (begins q p) over).1

        enough : is_some had ≡ true → one.held + count (missing one.map) (twigs q p) ≤ one.limit
        enough there =
            let n = removes.taken.number in
            let here : is_some (s.leaves.map q) ≡ true = ap is_some (sym removes.answer) ∙ there in
            let one_less : one.held + 1 ≡ s.leaves.held = count_out (s.leaves.map q) here n in
            let more = below_matched rs q p h is_leaf over (sym is_matched ∙ there) in
            let long = twigs_number q p front in
            let most = count_most (missing one.map) (twigs q p) in
            let held = stored.leaves_held in
            let fit = after.leaves_fit in
            let limit = stored.leaves_limit in
            omega (arith, l1)
          where
            count_out : (t : Option ℕ) → is_some t ≡ true → one.held + size t ≡ s.leaves.held + 0 → one.held + 1 ≡ s.leaves.held
            count_out t h e = let k : size t ≡ 1 = rw h in omega arith

        done : ok ≡ true
        done = elim (cases_Bool (is_some had)) [ inl there ↦ paint.room (enough there) | inr away ↦ paint.none away ]

        -- p is one of the new leaves
        new : any (same p) (twigs q p) ≡ true
        new = (has_row p _).0 (hops.enters_below rs q p h is_leaf over).new_leaf

        free : put_refusal two p h ≡ None
        free = free_at two p h (entered_good g rs p h after) (elim (cases_Bool (is_some had)) [ inl there ↦ present_there there | inr away ↦ room_there away ])
          where
            present_there : is_some had ≡ true → (not (present (two.map p)) && eqb two.held two.limit) ≡ false
            present_there there =
                let row = paint.rows done p in
                let has_it : present (two.map p) ≡ true = ap is_some row ∙ ap (λ b. is_some (cond b had (one.map p))) new ∙ there in
                grind arith

            room_there : is_some had ≡ false → (not (present (two.map p)) && eqb two.held two.limit) ≡ false
            room_there away =
                let n = removes.taken.number in
                let k = paint.number done in
                let none : count (λ (_ : Bits). present had) (twigs q p) ≡ 0 = rw away (count_none (twigs q p)) in
                let more = below_unmatched rs q p h is_leaf over (sym is_matched ∙ away) in
                let held = stored.leaves_held in
                let fit = after.leaves_fit in
                let limit = stored.leaves_limit in
                let less : suc two.held ≤ two.limit = omega (arith, l1, l2) in
                let apart : eqb two.held two.limit ≡ false = grind (arith, nat_tests) in
                grind arith

        rows : (u : Bits) → leaves'.map u ≡ leaf_entry (entered rs p h) u
        rows u =
            (put_done p h two leaves' r free puts).rows u
            ∙ ap (cond (same u p) (Some h)) (paint.rows done u
            ∙ ap (λ o. cond (any (same u) (twigs q p)) o (one.map u)) had_is
            ∙ ap (cond (any (same u) (twigs q p)) (leaf_entry rs q)) (removes.taken.rows u ∙ ap (cond (same u q) None) (stored.leaf_hops u)))
            ∙ sym (split_entries rs (entered rs p h) q p (Some h) (hops.enters_below rs q p h is_leaf over) u)

    -- q is a leaf again: what lies below it is erased, then it gets the hop that is left
    fold_by : (next : Option ℕ) (start : Edge) (spot : Spot) (t : Option ℕ) (one : Content) (ok ok' : Bool)
        → ledger.Sound g (struck rs p) → stands rs p ≡ true → Leaf (struck rs p) q → Unfolds s.slots start (pushed rs) → next ≡ leaf_hop (struck rs p) p
        → Removes p s.routes routes' t → routes'.limit ≡ s.routes.limit
        → Descends s.slots start q spot
        → PaintsWhole routes'.map s.slots (led s.slots spot.edge) q None s.leaves one ok → one.limit ≡ s.leaves.limit
        → PaintsWhole routes'.map s.slots (led s.slots End) q next one leaves' ok' → leaves'.limit ≡ one.limit
        → Stored g (struck rs p) (rewritten s routes' leaves')
    fold_by next start spot t one ok ok' after there is_leaf leads is removes lr descends erases l1 paints l2 =
        stored_by g (struck rs p) (rewritten s routes' leaves') after stored.width sr told (lr ∙ stored.routes_limit) sl rows (l2 ∙ l1 ∙ stored.leaves_limit)
      where
        told : (u : Bits) → routes'.map u ≡ hop_at (struck rs p) u
        told = remove_told g rs s stored p routes' removes.taken

        own_is : has routes'.map ≡ stands (struck rs p)
        own_is = fun_ext (λ u. ap is_some (told u) ∙ routes_held (struck rs p) u)

        back : pushed rs ≡ grown p (pushed (struck rs p))
        back = sym (undoing rs p there)

        node : has_node (pushed rs) q ≡ true
        node = ap (λ t. has_node t q) back ∙ split_node (struck rs p) q p is_leaf over

        reached : painted (has routes'.map) (shape_at (pushed rs) q) q ≡ twigs q p
        reached = ap (λ f. painted f (shape_at (pushed rs) q) q) own_is ∙ ap (λ t. painted (stands (struck rs p)) (shape_at t q) q) back ∙ split_painted (struck rs p) q p is_leaf over

        erase : Whole (twigs q p) None s.leaves one ok
        erase = subst (λ xs. Whole xs None s.leaves one ok) reached
            (erases refl (shape_at (pushed rs) q) (taken (node_edge s.slots (pushed rs) q spot (descends (pushed rs) (taken leads)) node)) (fits g.width rs q before.short narrow node))

        short : length q ≤ 128
        short = let f = fits g.width rs q before.short narrow node in omega arith

        paint : Whole (q ∷ []) next one leaves' ok'
        paint = subst (λ xs. Whole xs next one leaves' ok') (at_leaf (has routes'.map) q) (paints (ap fair is ∙ leaf_fair g (struck rs p) after p) leaf unfolds_end (let k = short in omega arith))

        gone : ok ≡ true
        gone = erase.none refl

        new : any (same p) (twigs q p) ≡ true
        new = (has_row p _).0 (hops.enters_below (struck rs p) q p 0 is_leaf over).new_leaf

        here : has s.leaves.map p ≡ true
        here =
            let is_new = hops.enters_below (struck rs p) q p 0 is_leaf over in
            let new_there : Leaf (entered (struck rs p) p 0) p = (is_new.leaves p).1 ∣ inr is_new.new_leaf ∣₁ in
            let standing : Leaf rs p = subst (λ t. Mem p (leaves t [])) (entering (struck rs p) p 0 ∙ undoing rs p there) new_there in
            ap is_some (stored.leaf_hops p ∙ entry_leaf rs p standing) ∙ some_hop rs p ∙ stands_matches rs p there

        enough : one.held + count (missing one.map) (q ∷ []) ≤ one.limit
        enough =
            let n = erase.number gone in
            let none : count (λ (_ : Bits). present absent) (twigs q p) ≡ 0 = count_none (twigs q p) in
            let some = count_some (has s.leaves.map) p (twigs q p) new here in
            let most = count_most (missing one.map) (q ∷ []) in
            let within = stored.leaves_sound.within in
            omega (arith, l1)

        done : ok' ≡ true
        done = paint.room enough

        rows : (u : Bits) → leaves'.map u ≡ leaf_entry (struck rs p) u
        rows u =
            paint.rows done u
            ∙ ap (λ b. cond b next (one.map u)) (or_none (same u q))
            ∙ ap (λ o. cond (same u q) o (one.map u)) is
            ∙ ap (cond (same u q) (leaf_hop (struck rs p) p)) (erase.rows gone u ∙ ap (cond (any (same u) (twigs q p)) None) (stored.leaf_hops u))
            ∙ sym (fold_entries rs (struck rs p) q p (hops.strikes_below rs q p there is_leaf over) u)
          where
            or_none : (b : Bool) → any (λ (c : Bool). c) (b ∷ []) ≡ b
            or_none true = refl
            or_none false = refl

-- the same by the calls, one after the other
module _ (g : Given) (rs : Routes) (s : State) (most : s.width ≤ 128) (p : Bits) (routes' : Content) (sr : Sound routes') where
  pub sets_at : (h : ℕ) (edge : Edge) (one : State) (k r : Result (Unit {0}) Refusal) → Sound one.leaves → Writable g rs (entered rs p h) s
      → has_node (pushed rs) p ≡ true → Unfolds s.slots edge (shape_at (pushed rs) p) → PaintsFrom p edge (Some h) s one k
      → Puts p h one.routes routes' r → routes'.limit ≡ one.routes.limit → Stored g (entered rs p h) (rewritten one routes' one.leaves)
  sets_at h edge one k r sl w node leads paint = subst (λ x. Puts p h x.routes routes' r → routes'.limit ≡ x.routes.limit → Stored g (entered rs p h) (rewritten x routes' one.leaves)) (sym paint.rest)
      (λ puts lr. sets_by g rs s most w.before w.stored p routes' one.leaves sr sl h edge (is_ok k) r w.after node leads paint.limit (paints_whole _ _ _ _ _ _ _ _ paint.paints) lr puts)

  pub clears_at : (next : Option ℕ) (edge : Edge) (one : State) (k : Result (Unit {0}) Refusal) (t : Option ℕ) → Sound one.leaves → Writable g rs (struck rs p) s → stands rs p ≡ true
      → has_node (pushed (struck rs p)) p ≡ true → Unfolds s.slots edge (shape_at (pushed rs) p) → next ≡ leaf_hop (struck rs p) p → PaintsFrom p edge next s one k
      → Removes p one.routes routes' t → routes'.limit ≡ one.routes.limit → Stored g (struck rs p) (rewritten one routes' one.leaves)
  clears_at next edge one k t sl w there node leads is paint = subst (λ x. Removes p x.routes routes' t → routes'.limit ≡ x.routes.limit → Stored g (struck rs p) (rewritten x routes' one.leaves)) (sym paint.rest)
      (λ removes lr. clears_by g rs s most w.before w.stored p routes' one.leaves sr sl next edge (is_ok k) t w.after there node leads is paint.limit (paints_whole _ _ _ _ _ _ _ _ paint.paints) lr removes)

  module _ (q : Bits) (over : above q p ≡ true) where
    pub sets_below : (h : ℕ) (start : Edge) (spot : Spot) (had : Option ℕ) (one leaves' : Content) (two : State) (k r r' : Result (Unit {0}) Refusal) → Sound leaves' → Writable g rs (entered rs p h) s
        → Leaf rs q → Unfolds s.slots start (pushed (entered rs p h)) → Removes q s.leaves one had → one.limit ≡ s.leaves.limit → Descends s.slots start q spot
        → PaintsFrom q spot.edge had (rewritten s s.routes one) two k → Puts p h two.leaves leaves' r → leaves'.limit ≡ two.leaves.limit
        → Puts p h two.routes routes' r' → routes'.limit ≡ two.routes.limit → Stored g (entered rs p h) (rewritten two routes' leaves')
    sets_below h start spot had one leaves' two k r r' sl w is_leaf leads removes l1 descends paint puts l3 =
        subst (λ x. Puts p h x.routes routes' r' → routes'.limit ≡ x.routes.limit → Stored g (entered rs p h) (rewritten x routes' leaves')) (sym paint.rest)
        (λ puts' lr. split_by g rs s most w.before w.stored p routes' leaves' sr sl q over h start spot had one two.leaves (is_ok k) r r' w.after is_leaf leads removes l1 descends
        (paints_whole _ _ _ _ _ _ _ _ paint.paints) paint.limit puts l3 puts' lr)

    pub clears_below : (next : Option ℕ) (start : Edge) (spot : Spot) (t : Option ℕ) (two three : State) (k k' : Result (Unit {0}) Refusal) → Sound three.leaves → Writable g rs (struck rs p) s → stands rs p ≡ true
        → Leaf (struck rs p) q → Unfolds s.slots start (pushed rs) → next ≡ leaf_hop (struck rs p) p → Removes p s.routes routes' t → routes'.limit ≡ s.routes.limit → Descends s.slots start q spot
        → PaintsFrom q spot.edge None (rewritten s routes' s.leaves) two k → PaintsFrom q End next two three k' → Stored g (struck rs p) three
    clears_below next start spot t two three k k' sl w there is_leaf leads is removes lr descends erase paint =
        subst (Stored g (struck rs p)) (sym (paint.rest ∙ ap (λ x. rewritten x x.routes three.leaves) erase.rest))
        (fold_by g rs s most w.before w.stored p routes' three.leaves sr sl q over next start spot t two.leaves (is_ok k) (is_ok k') w.after there is_leaf leads is removes lr descends
        (paints_whole _ _ _ _ _ _ _ _ erase.paints) erase.limit (paints_whole _ _ _ _ _ _ _ _ (subst (λ x. Paints x.routes.map x.slots (led x.slots End) q next two.leaves three.leaves k') erase.rest paint.paints)) paint.limit)
