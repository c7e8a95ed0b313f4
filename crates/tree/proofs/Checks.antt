-- The ledger's checks, read as facts. Assumes nothing.
use Rattle.std.proofs.Common.{◌≡◌, ℕ, Bool, true, false, not, ◌&&◌, ◌||◌, eqb, ltb, ◌⊎◌, [], ◌∷◌, length, take, drop, Some, None, Option, sym, ◌∙◌, inl, inr, arith}
use Rattle.std.proofs.lemmas.Bool.{cases_Bool, or_parts, ltb-false, le-ltb}
use Rattle.std.proofs.lemmas.Bool.Decides.{nat_tests}
use Rattle.refusal.specs.declared.Refusal.{Refusal}
use Rattle.refusal.specs.declared.Refusal.TheVariants.{Length, HostBits, Hop, Unknown, RoutesFull, LeavesFull, VerticesFull}
use Rattle.bits.specs.Rows.{Bits, any_one}
use Rattle.tree.specs.Tree.{Routes, matched}
use Rattle.tree.specs.Ledger.{Given, greatest_hop, vertex_slots, stands, struck, entered, together, checks, announce_checks, withdraw_checks}
use Rattle.tree.specs.Law.{PassedAnnounce, PassedWithdraw}

-- what is left once the check of the vertices is
abbrev pub last : Bool → Option Refusal
last full = checks ((full, VerticesFull) ∷ [])

-- the first five checks of an announcement, the first three of a withdrawal
five : (x y z v w full : Bool) → x ≡ false → y ≡ false → z ≡ false → v ≡ false → w ≡ false
    → checks ((x, Length) ∷ (y, HostBits) ∷ (z, Hop) ∷ (v, RoutesFull) ∷ (w, LeavesFull) ∷ (full, VerticesFull) ∷ []) ≡ last full
five x y z v w full a b c d e = rw (a, b, c, d, e)

three : (x y z full : Bool) → x ≡ false → y ≡ false → z ≡ false → checks ((x, Length) ∷ (y, HostBits) ∷ (z, Unknown) ∷ (full, VerticesFull) ∷ []) ≡ last full
three x y z full a b c = rw (a, b, c)

-- none of the earlier checks refuses
abbrev pub CameThrough : Option Refusal → Type 0
CameThrough o = (o ≡ None) ⊎ (o ≡ Some VerticesFull)

earlier_five : (x y z v w full : Bool) → CameThrough (checks ((x, Length) ∷ (y, HostBits) ∷ (z, Hop) ∷ (v, RoutesFull) ∷ (w, LeavesFull) ∷ (full, VerticesFull) ∷ []))
    → (x ≡ false) × (y ≡ false) × (z ≡ false) × (v ≡ false) × (w ≡ false)
earlier_five x y z v w full (inl e) = (grind arith, grind arith, grind arith, grind arith, grind arith)
earlier_five x y z v w full (inr e) = (grind arith, grind arith, grind arith, grind arith, grind arith)

earlier_three : (x y z full : Bool) → CameThrough (checks ((x, Length) ∷ (y, HostBits) ∷ (z, Unknown) ∷ (full, VerticesFull) ∷ [])) → (x ≡ false) × (y ≡ false) × (z ≡ false)
earlier_three x y z full (inl e) = (grind arith, grind arith, grind arith)
earlier_three x y z full (inr e) = (grind arith, grind arith, grind arith)

last_none : (full : Bool) → last full ≡ None → full ≡ false
last_none full e = grind arith

module _ (g : Given) (rs : Routes) (a : Bits) (n : ℕ) where
  abbrev p : Bits
  p = take n a

  module _ (h : ℕ) where
    abbrev after : Routes
    after = entered rs p h

    -- only the check of the vertices is left
    pub announce_last : PassedAnnounce g rs a n h → announce_checks g rs a n h ≡ last (not (stands rs p) && ltb vertex_slots (together rs after))
    announce_last ok =
        five (ltb g.width n) (any_one (drop n a)) (eqb h 0 || ltb greatest_hop h) (not (stands rs p) && eqb (length rs) g.route_limit) (not (stands rs p) && ltb g.leaf_limit (length (matched after))) _
        (le-ltb _ _ ok.prefix.short) ok.prefix.clear hop_right (routes_right (cases_Bool (stands rs p))) (leaves_right (cases_Bool (stands rs p)))
      where
        hop_right : (eqb h 0 || ltb greatest_hop h) ≡ false
        hop_right = let l = ok.hop_least in let m = ok.hop_most in grind (arith, nat_tests)

        routes_right : (stands rs p ≡ true) ⊎ (stands rs p ≡ false) → (not (stands rs p) && eqb (length rs) g.route_limit) ≡ false
        routes_right (inl s) = grind arith
        routes_right (inr s) = let r = (ok.room s).routes in grind (arith, nat_tests)

        leaves_right : (stands rs p ≡ true) ⊎ (stands rs p ≡ false) → (not (stands rs p) && ltb g.leaf_limit (length (matched after))) ≡ false
        leaves_right (inl s) = grind arith
        leaves_right (inr s) = let r = le-ltb _ _ (ok.room s).leaves in grind arith

    pub announce_passed : CameThrough (announce_checks g rs a n h) → PassedAnnounce g rs a n h
    announce_passed e =
        let (c1, c2, c3, c4, c5) = earlier_five (ltb g.width n) (any_one (drop n a)) (eqb h 0 || ltb greatest_hop h) (not (stands rs p) && eqb (length rs) g.route_limit)
        (not (stands rs p) && ltb g.leaf_limit (length (matched after))) (not (stands rs p) && ltb vertex_slots (together rs after)) e in
        let hop = or_parts (eqb h 0) (ltb greatest_hop h) c3 in
        record {
          prefix = record { short = ltb-false _ _ c1; clear = c2 };
          hop_least = (let z = hop.0 in grind (arith, nat_tests));
          hop_most = ltb-false _ _ hop.1;
          room = λ s. record {
            routes = (let z = c4 in let t : eqb (length rs) g.route_limit ≡ false = grind arith in grind (arith, nat_tests));
            leaves = (let z = c5 in let t : ltb g.leaf_limit (length (matched after)) ≡ false = grind arith in ltb-false _ _ t);
          };
        }

    pub announce_granted : announce_checks g rs a n h ≡ None → PassedAnnounce g rs a n h × ((not (stands rs p) && ltb vertex_slots (together rs after)) ≡ false)
    announce_granted e = let ok = announce_passed (inl e) in (ok, last_none _ (sym (announce_last ok) ∙ e))

  pub withdraw_last : PassedWithdraw g rs a n → withdraw_checks g rs a n ≡ last (ltb vertex_slots (together rs (struck rs p)))
  withdraw_last ok = three (ltb g.width n) (any_one (drop n a)) (not (stands rs p)) _ (le-ltb _ _ ok.prefix.short) ok.prefix.clear (let k = ok.known in grind arith)

  pub withdraw_passed : CameThrough (withdraw_checks g rs a n) → PassedWithdraw g rs a n
  withdraw_passed e =
      let (c1, c2, c3) = earlier_three (ltb g.width n) (any_one (drop n a)) (not (stands rs p)) (ltb vertex_slots (together rs (struck rs p))) e in
      record { prefix = record { short = ltb-false _ _ c1; clear = c2 }; known = (let k = c3 in grind arith) }

  pub withdraw_granted : withdraw_checks g rs a n ≡ None → PassedWithdraw g rs a n × (ltb vertex_slots (together rs (struck rs p)) ≡ false)
  withdraw_granted e = let ok = withdraw_passed (inl e) in (ok, last_none _ (sym (withdraw_last ok) ∙ e))
