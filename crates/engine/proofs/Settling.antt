-- How a change settles, by its checks. Assumes nothing.
use Rattle.std.proofs.Common.{◌≡◌, ℕ, ◌+◌, ◌<◌, ◌≤◌, Bool, true, false, cond, not, ◌&&◌, eqb, ltb, List, [], ◌∷◌, ◌++◌, length, take, drop, is_some, Some, None, Ok, Err, Option, Result, sym, refl, ap, ◌∙◌, subst, arith}
use Rattle.std.proofs.lemmas.Bool.{lt-ltb, le-ltb}
use Rattle.bits.specs.Lists.{different}
use Rattle.bits.specs.Rows.{Bits, same, any_one}
use Rattle.net.specs.Prefix.{refusal_of}
use Rattle.refusal.specs.declared.Refusal.{Refusal}
use Rattle.refusal.specs.declared.Refusal.TheVariants.{Length, HostBits, Hop, Unknown, RoutesFull, LeavesFull, VerticesFull}
use Rattle.tree.specs.Tree.{Routes, Shape, alike, shapes, has_node, pushed, matched}
use Rattle.tree.specs.Ledger.{Given, announce, withdraw, Answer, bad_hop, vertex_slots, stands, struck, entered, vertices, new_shapes, together, checks, decided, announce_checks, withdraw_checks, turn}
use Rattle.tree.specs.LedgerLaws as ledger
use Rattle.tree.specs.Changes.{pruned}
use Rattle.tree.specs.HopLaws.{leaf_hop}
use Rattle.tree.specs.StoreLaws.{hop_at}
use Rattle.tree.proofs.Changes.{standing_node, entering_node}
use Rattle.tree.proofs.Paths.{together_is, nothing_new}
use Rattle.tree.proofs.Sounds.{turn_sound}
use Rattle.tree.proofs.Stores.{routes_held}
use Rattle.store.specs.Content.{Map}
use Rattle.path.proofs.Laws as path
use Rattle.path.specs.Prune.{others}
use Rattle.path.specs.Shorter.{NextShorter}
use Rattle.engine.specs.Changes.{room_checks, fold_checks, Enters, Strikes}
use Rattle.engine.specs.Writes.{SetsAt}
use Rattle.engine.proofs.Spots.{node_edge}
use Rattle.graph.specs.Descend.{Descends}
use Rattle.graph.specs.declared.spot.Spot.{Spot}
use Rattle.graph.proofs.Growing.{taken}
use Rattle.graph.specs.Slots.{Unfolds}
use Rattle.graph.specs.View.{Holds}
use Rattle.graph.specs.declared.edge.Edge.{Edge}
use Rattle.graph.specs.declared.vertex.Vertex.{Vertex}
use Rattle.engine.specs.State.{State, rewritten, redrawn}
use Rattle.engine.specs.Draws.{Drew, Full, Moves}
use Rattle.engine.specs.Serves.{Serves, Settles, Stored}
use Rattle.engine.specs.declared.draw.Drawn.{Drawn}

-- by the refusal, if there is one
module _ (g : Given) (rs ss : Routes) (s t : State) (o : Option Refusal) where
  pub refused_by : (why : Refusal) → o ≡ Some why → Serves g rs s → t ≡ s → Settles g (decided o rs ss) s t (Err why)
  refused_by why is serves same =
      subst (λ x. Settles g (decided x rs ss) s t (Err why)) (sym is) (record { answer = refl; serves = subst (Serves g rs) (sym same) serves; refuses = same })

  pub granted_by : (n : ℕ) → o ≡ None → n ≡ new_shapes rs ss → Serves g ss t → Settles g (decided o rs ss) s t (Ok n)
  granted_by n is new serves = subst (λ x. Settles g (decided x rs ss) s t (Ok n)) (sym is) (record { answer = ap Answer.changed (sym new); serves = serves; refuses = tt })

-- the room for a new route
module _ (g : Given) (rs ss : Routes) where
  pub no_route : eqb (length rs) g.route_limit ≡ true → room_checks g rs ss ≡ Some RoutesFull
  no_route a = rw a

  module _ (a : eqb (length rs) g.route_limit ≡ false) where
    pub no_leaf : ltb g.leaf_limit (length (matched ss)) ≡ true → room_checks g rs ss ≡ Some LeavesFull
    no_leaf b = rw (a, b)

    module _ (b : ltb g.leaf_limit (length (matched ss)) ≡ false) where
      pub no_vertex : vertex_slots < together rs ss → room_checks g rs ss ≡ Some VerticesFull
      no_vertex many = let c = lt-ltb _ _ many in rw (a, b, c)

      pub all_room : together rs ss ≤ vertex_slots → room_checks g rs ss ≡ None
      all_room few = let c = le-ltb _ _ few in rw (a, b, c)

pub no_fold : (rs ss : Routes) → vertex_slots < together rs ss → fold_checks rs ss ≡ Some VerticesFull
no_fold rs ss many = let c = lt-ltb _ _ many in rw c

pub fold_room : (rs ss : Routes) → together rs ss ≤ vertex_slots → fold_checks rs ss ≡ None
fold_room rs ss few = let c = le-ltb _ _ few in rw c

pub new_by : (rs ss : Routes) (made : ℕ) → together rs ss ≡ vertices rs + made → made ≡ new_shapes rs ss
new_by rs ss made e = let t = together_is rs ss in omega arith

-- where the tree stays, its shapes still fit
pub still_fits : (g : Given) (rs ss : Routes) → ledger.Sound g rs → pushed ss ≡ pushed rs → together rs ss ≤ vertex_slots
still_fits g rs ss sound e = let t = together_is rs ss in let n = nothing_new rs ss e in let v = sound.vertices_fit in omega arith

-- the tree without a route, and the hop that is left for it
pub struck_tree : (rs : Routes) (p : Bits) (m : Map) → ((q : Bits) → m q ≡ hop_at rs q) → pushed (struck rs p) ≡ pruned (others m p) (pushed rs) p
struck_tree rs p m told = sym (path.left_tree rs m p told)

pub hop_left : (rs : Routes) (p : Bits) (m : Map) → ((q : Bits) → m q ≡ hop_at rs q) → ledger.Once rs → (o : Option ℕ) → NextShorter m p o → o ≡ leaf_hop (struck rs p) p
hop_left rs p m told once o next = sym (path.left_hop rs m p told o once next)

-- the checks of an announcement, one after the other
module _ (g : Given) (rs : Routes) (a : Bits) (n : ℕ) where
  prefix_cases : (x y : Bool) (why : Refusal) → cond x (Some Length) (cond y (Some HostBits) None) ≡ Some why → (rest : List (Bool × Refusal)) → checks ((x, Length) ∷ (y, HostBits) ∷ rest) ≡ Some why
  prefix_cases true y why e rest = e
  prefix_cases false true why e rest = e
  prefix_cases false false why e rest = absurd (let k : ◌≡◌ {A = ℕ} 0 1 = cc in omega arith)

  prefix_right : (x y : Bool) → cond x (Some Length) (cond y (Some HostBits) None) ≡ None → (rest : List (Bool × Refusal)) → checks ((x, Length) ∷ (y, HostBits) ∷ rest) ≡ checks rest
  prefix_right true y e rest = absurd (let k : ◌≡◌ {A = ℕ} 0 1 = cc in omega arith)
  prefix_right false true e rest = absurd (let k : ◌≡◌ {A = ℕ} 0 1 = cc in omega arith)
  prefix_right false false e rest = refl

  -- the checks after those of the prefix
  abbrev announce_rest : ℕ → List (Bool × Refusal)
  announce_rest h =
      (bad_hop h, Hop)
      ∷ (not (stands rs (take n a)) && eqb (length rs) g.route_limit, RoutesFull)
      ∷ (not (stands rs (take n a)) && ltb g.leaf_limit (length (matched (entered rs (take n a) h))), LeavesFull)
      ∷ (not (stands rs (take n a)) && ltb vertex_slots (together rs (entered rs (take n a) h)), VerticesFull) ∷ []

  abbrev withdraw_rest : List (Bool × Refusal)
  withdraw_rest = (not (stands rs (take n a)), Unknown) ∷ (ltb vertex_slots (together rs (struck rs (take n a))), VerticesFull) ∷ []

  pub announce_prefix : (h : ℕ) (why : Refusal) → refusal_of g.width a n ≡ Some why → announce_checks g rs a n h ≡ Some why
  announce_prefix h why e = prefix_cases (ltb g.width n) (any_one (drop n a)) why e (announce_rest h)

  pub withdraw_prefix : (why : Refusal) → refusal_of g.width a n ≡ Some why → withdraw_checks g rs a n ≡ Some why
  withdraw_prefix why e = prefix_cases (ltb g.width n) (any_one (drop n a)) why e withdraw_rest

  module _ (right : refusal_of g.width a n ≡ None) where
    pub withdraw_unknown : stands rs (take n a) ≡ false → withdraw_checks g rs a n ≡ Some Unknown
    withdraw_unknown s = prefix_right (ltb g.width n) (any_one (drop n a)) right withdraw_rest ∙ rw s

    pub withdraw_known : stands rs (take n a) ≡ true → withdraw_checks g rs a n ≡ fold_checks rs (struck rs (take n a))
    withdraw_known s = prefix_right (ltb g.width n) (any_one (drop n a)) right withdraw_rest ∙ rw s

    pub announce_hop : (h : ℕ) → bad_hop h ≡ true → announce_checks g rs a n h ≡ Some Hop
    announce_hop h bad = prefix_right (ltb g.width n) (any_one (drop n a)) right (announce_rest h) ∙ rw bad

    pub announce_standing : (h : ℕ) → bad_hop h ≡ false → stands rs (take n a) ≡ true → announce_checks g rs a n h ≡ None
    announce_standing h good s = prefix_right (ltb g.width n) (any_one (drop n a)) right (announce_rest h) ∙ rw (good, s)

    pub announce_new : (h : ℕ) → bad_hop h ≡ false → stands rs (take n a) ≡ false → announce_checks g rs a n h ≡ room_checks g rs (entered rs (take n a) h)
    announce_new h good s = prefix_right (ltb g.width n) (any_one (drop n a)) right (announce_rest h) ∙ rw (good, s)

  -- what is granted is sound
  pub announce_sound : (h : ℕ) → ledger.Sound g rs → announce_checks g rs a n h ≡ None → ledger.Sound g (entered rs (take n a) h)
  announce_sound h sound e = subst (λ o. ledger.Sound g (decided o rs (entered rs (take n a) h)).0) e (turn_sound g rs sound (announce a n h))

  pub withdraw_sound : ledger.Sound g rs → withdraw_checks g rs a n ≡ None → ledger.Sound g (struck rs (take n a))
  withdraw_sound sound e = subst (λ o. ledger.Sound g (decided o rs (struck rs (take n a))).0) e (turn_sound g rs sound (withdraw a n))

-- of a prefix p that the address's first n bits are
module _ (g : Given) (rs : Routes) (a : Bits) (n : ℕ) (p : Bits) (row : p ≡ take n a) (right : refusal_of g.width a n ≡ None) where
  standing_here : (b : Bool) → stands rs p ≡ b → stands rs (take n a) ≡ b
  standing_here b s = ap (stands rs) (sym row) ∙ s

  pub enter_sound : (h : ℕ) → bad_hop h ≡ false → stands rs p ≡ false → ledger.Sound g rs → room_checks g rs (entered rs p h) ≡ None → ledger.Sound g (entered rs p h)
  enter_sound h good new sound none =
      subst (λ q. ledger.Sound g (entered rs q h)) (sym row)
      (announce_sound g rs a n h sound (announce_new g rs a n right h good (standing_here false new) ∙ subst (λ q. room_checks g rs (entered rs q h) ≡ None) row none))

  pub rehop_sound : (h : ℕ) → bad_hop h ≡ false → stands rs p ≡ true → ledger.Sound g rs → ledger.Sound g (entered rs p h)
  rehop_sound h good s sound = subst (λ q. ledger.Sound g (entered rs q h)) (sym row) (announce_sound g rs a n h sound (announce_standing g rs a n right h good (standing_here true s)))

  pub strike_sound : stands rs p ≡ true → ledger.Sound g rs → fold_checks rs (struck rs p) ≡ None → ledger.Sound g (struck rs p)
  strike_sound s sound none =
      subst (λ q. ledger.Sound g (struck rs q)) (sym row)
      (withdraw_sound g rs a n sound (withdraw_known g rs a n right (standing_here true s) ∙ subst (λ q. fold_checks rs (struck rs q) ≡ None) row none))

  -- how the change settles, by the checks that are left
  module _ (s t : State) (r : Result ℕ Refusal) where
    pub enters_turn : (h : ℕ) → bad_hop h ≡ false → stands rs p ≡ false → Settles g (decided (room_checks g rs (entered rs p h)) rs (entered rs p h)) s t r → Settles g (turn g rs (announce a n h)) s t r
    enters_turn h good new settles =
        subst (λ o. Settles g (decided o rs (entered rs (take n a) h)) s t r) (sym (announce_new g rs a n right h good (standing_here false new)))
        (subst (λ q. Settles g (decided (room_checks g rs (entered rs q h)) rs (entered rs q h)) s t r) row settles)

    pub rehops_turn : (h : ℕ) → bad_hop h ≡ false → stands rs p ≡ true → Settles g (decided None rs (entered rs p h)) s t r → Settles g (turn g rs (announce a n h)) s t r
    rehops_turn h good there settles =
        subst (λ o. Settles g (decided o rs (entered rs (take n a) h)) s t r) (sym (announce_standing g rs a n right h good (standing_here true there)))
        (subst (λ q. Settles g (decided None rs (entered rs q h)) s t r) row settles)

    pub strikes_turn : stands rs p ≡ true → Settles g (decided (fold_checks rs (struck rs p)) rs (struck rs p)) s t r → Settles g (turn g rs (withdraw a n)) s t r
    strikes_turn there settles =
        subst (λ o. Settles g (decided o rs (struck rs (take n a))) s t r) (sym (withdraw_known g rs a n right (standing_here true there)))
        (subst (λ q. Settles g (decided (fold_checks rs (struck rs q)) rs (struck rs q)) s t r) row settles)

  pub unknown_by : stands rs p ≡ false → withdraw_checks g rs a n ≡ Some Unknown
  unknown_by s = withdraw_unknown g rs a n right (standing_here false s)

-- whether a route stands, by what its store told
pub told_stands : (g : Given) (rs : Routes) (s : State) → Stored g rs s → (p : Bits) (o : Option ℕ) (b : Bool) → o ≡ s.routes.map p → is_some o ≡ b → stands rs p ≡ b
told_stands g rs s stored p o b told is = sym (routes_held rs p) ∙ ap is_some (sym (stored.route_hops p) ∙ sym told) ∙ is

-- a state after its parts have changed
module _ (g : Given) (s t : State) where
  -- the graph stays, and the stores have the new routes
  pub serves_still : (rs ss : Routes) → t ≡ rewritten s t.routes t.leaves → pushed ss ≡ pushed rs → ledger.Sound g ss → Serves g rs s → Stored g ss t → Serves g ss t
  serves_still rs ss rest tree sound serves stored = record {
    ledger = sound;
    stored = stored;
    starts = subst (λ x. Unfolds x.slots x.start (pushed ss)) (sym rest) (subst (Unfolds s.slots s.start) (sym tree) serves.starts);
    holds = subst (λ x. Holds x.slots (shapes (pushed ss))) (sym rest) (subst (λ a. Holds s.slots (shapes a)) (sym tree) serves.holds);
  }

  -- the graph is another, and the stores stay
  stored_redrawn : (rs : Routes) (slots : List Vertex) (start : Edge) → t ≡ redrawn s slots start → Stored g rs s → Stored g rs t
  stored_redrawn rs slots start rest stored = subst (Stored g rs) (sym rest) (record {
    width = stored.width;
    routes_sound = stored.routes_sound;
    route_hops = stored.route_hops;
    routes_held = stored.routes_held;
    routes_limit = stored.routes_limit;
    leaves_sound = stored.leaves_sound;
    leaf_hops = stored.leaf_hops;
    leaves_held = stored.leaves_held;
    leaves_limit = stored.leaves_limit;
  })

  -- the start has moved
  serves_moved : (ss : Routes) (start : Edge) → Moves s t start → ledger.Sound g ss → Stored g ss s → Unfolds s.slots start (pushed ss) → Serves g ss t
  serves_moved ss start moves sound stored leads = record {
    ledger = sound;
    stored = stored_redrawn ss t.slots start moves.rest stored;
    starts = subst (λ k. Unfolds t.slots k (pushed ss)) (sym (ap (λ x. x.start) moves.rest)) (moves.leads (pushed ss) leads);
    holds = moves.holds (pushed ss) leads;
  }

-- the graph is drawn anew for the tree u, from s to s1
module _ (g : Given) (rs ss : Routes) (o : Option Refusal) (s s1 : State) (u : Shape) (tree : pushed ss ≡ u) where
  together_by : together rs ss ≡ different alike (shapes (pushed rs) ++ shapes u)
  together_by = ap (λ t. different alike (shapes (pushed rs) ++ shapes t)) tree

  -- no room for it
  pub drawn_full : (why : Refusal) → Full s s1 (pushed rs) u why → (vertex_slots < together rs ss → o ≡ Some VerticesFull) → Serves g rs s → Settles g (decided o rs ss) s s1 (Err why)
  drawn_full why full none serves = rw full.why_full (refused_by g rs ss s s1 o VerticesFull (none (rw together_by full.many)) serves full.same)

  module _ (d : Drawn) (drew : Drew s s1 (pushed rs) u d) where
    pub drawn_room : together rs ss ≤ vertex_slots
    drawn_room = rw together_by drew.room

    pub drawn_leads : Unfolds s1.slots d.start (pushed ss)
    drawn_leads = subst (Unfolds s1.slots d.start) (sym tree) drew.new

    pub drawn_starts : Unfolds s1.slots s1.start (pushed rs)
    drawn_starts = subst (λ k. Unfolds s1.slots k (pushed rs)) (sym (ap (λ x. x.start) drew.rest)) drew.old

    pub drawn_stored : Stored g rs s → Stored g rs s1
    drawn_stored = stored_redrawn g s s1 rs s1.slots s.start drew.rest

    -- then the stores are written, to s2, and the start is moved, to s3
    pub drawn_granted : (s2 s3 : State) → o ≡ None → ledger.Sound g ss → s2 ≡ rewritten s1 s2.routes s2.leaves → Stored g ss s2 → Moves s2 s3 d.start → Settles g (decided o rs ss) s s3 (Ok d.made)
    drawn_granted s2 s3 none sound rest stored moves =
        granted_by g rs ss s s3 o d.made none
        (new_by rs ss d.made (together_by ∙ drew.number))
        (serves_moved g s2 s3 ss d.start moves sound stored (subst (λ x. Unfolds x.slots d.start (pushed ss)) (sym rest) drawn_leads))

-- from the state of the call, and the prefix p that was made, to the call's own words
module _ (g : Given) (rs : Routes) (s : State) (serves : Serves g rs s) (a : Bits) (n : ℕ) where
  at_width : (o : Option Refusal) → refusal_of s.width a n ≡ o → refusal_of g.width a n ≡ o
  at_width o is = ap (λ w. refusal_of w a n) serves.stored.width ∙ is

  -- no prefix was made
  pub announce_refused : (h : ℕ) (why : Refusal) → refusal_of s.width a n ≡ Some why → Settles g (turn g rs (announce a n h)) s s (Err why)
  announce_refused h why is = refused_by g rs (entered rs (take n a) h) s s (announce_checks g rs a n h) why (announce_prefix g rs a n h why (at_width (Some why) is)) serves refl

  pub withdraw_refused : (why : Refusal) → refusal_of s.width a n ≡ Some why → Settles g (turn g rs (withdraw a n)) s s (Err why)
  withdraw_refused why is = refused_by g rs (struck rs (take n a)) s s (withdraw_checks g rs a n) why (withdraw_prefix g rs a n why (at_width (Some why) is)) serves refl

  module _ (fits : refusal_of s.width a n ≡ None) where
    right : refusal_of g.width a n ≡ None
    right = at_width None fits

    pub hop_refused : (h : ℕ) → bad_hop h ≡ true → Settles g (turn g rs (announce a n h)) s s (Err Hop)
    hop_refused h bad = refused_by g rs (entered rs (take n a) h) s s (announce_checks g rs a n h) Hop (announce_hop g rs a n right h bad) serves refl

    module _ (p : Bits) (row : p ≡ take n a) (told : Option ℕ) (get : told ≡ s.routes.map p) where
      -- whether its route stands, by what the store told
      standing : (b : Bool) → is_some told ≡ b → stands rs p ≡ b
      standing b is = told_stands g rs s serves.stored p told b get is

      pub unknown_refused : is_some told ≡ false → Settles g (turn g rs (withdraw a n)) s s (Err Unknown)
      unknown_refused away =
          refused_by g rs (struck rs (take n a)) s s (withdraw_checks g rs a n) Unknown (unknown_by g rs a n p row right (standing false away)) serves refl

      module _ (t : State) (r : Result ℕ Refusal) where
        pub strikes_told : is_some told ≡ true → Strikes p s t r → Settles g (turn g rs (withdraw a n)) s t r
        strikes_told there strikes =
            strikes_turn g rs a n p row right s t r (standing true there)
            (strikes g rs (record { serves = serves; sound = strike_sound g rs a n p row right (standing true there) serves.ledger }) (standing true there))

        pub enters_told : (h : ℕ) → bad_hop h ≡ false → is_some told ≡ false → Enters p h s t r → Settles g (turn g rs (announce a n h)) s t r
        enters_told h good away enters =
            enters_turn g rs a n p row right s t r h good (standing false away)
            (enters g rs (record { serves = serves; sound = enter_sound g rs a n p row right h good (standing false away) serves.ledger }) (standing false away))

      -- a standing route gets another hop
      pub rehops_told : (t : State) (h : ℕ) (spot : Spot) → bad_hop h ≡ false → is_some told ≡ true → Descends s.slots s.start p spot
          → t ≡ rewritten s t.routes t.leaves → SetsAt p spot.edge h s t → Settles g (turn g rs (announce a n h)) s t (Ok 0)
      rehops_told t h spot good there descends rest sets =
          rehops_turn g rs a n p row right s t (Ok 0) h good (standing true there)
          (granted_by g rs (entered rs p h) s t None 0 refl (sym (nothing_new rs (entered rs p h) tree))
          (serves_still g s t rs (entered rs p h) rest tree sound serves
          (sets g rs (record { before = serves.ledger; after = sound; stored = serves.stored }) node
          (node_edge s.slots (pushed rs) p spot (descends (pushed rs) (taken serves.starts)) node))))
        where
          node : has_node (pushed rs) p ≡ true
          node = standing_node rs p (standing true there)

          tree : pushed (entered rs p h) ≡ pushed rs
          tree = entering_node rs p h node

          sound : ledger.Sound g (entered rs p h)
          sound = rehop_sound g rs a n p row right h good (standing true there) serves.ledger
