-- A sound list of routes stays sound, whatever the call. Assumes nothing.
use Rattle.std.proofs.Common.{◌≡◌, ℕ, suc, ◌<◌, ◌≤◌, Bool, true, false, not, ◌&&◌, ltb, ◌⊎◌, ◌↔◌, List, [], ◌∷◌, length, take, Some, None, Option, sym, refl, ap, ◌∙◌, ap₂, inl, inr, arith, length-take}
use mathlib.Core.Logic.{∥∥₁_elim}
use mathlib.Core.HLevel.{×_prop}
use mathlib.Core.List.Memᴰ
use mathlib.Core.List.{Mem, Memᴰ, not-mem-nil, forall_mem-cons}
use native.Mathlib.Nat.{ℕ_set}
use native.Mathlib.Bridge.{le_prop}
use Rattle.std.proofs.lemmas.Bool.{cases_Bool, both_ways, ltb-false, ltb-true, le-ltb, lt-ltb}
use Rattle.refusal.specs.declared.Refusal.{Refusal}
use Rattle.refusal.specs.declared.Refusal.TheVariants.{VerticesFull}
use Rattle.bits.specs.Rows.{Bits, same, begins}
use Rattle.tree.specs.Tree.{Route, Routes, longest, hop_of}
use Rattle.tree.specs.Ledger.{Given, Call, announce, withdraw, lookup, count, changed, refused, vertex_slots, stands, struck, entered, new_shapes, together, announce_checks, withdraw_checks, decided, turn, after_calls, looked}
use Rattle.tree.specs.Law.{asked, Passed}
use Rattle.tree.specs.LeafLaws.{Best}
use Rattle.tree.specs.LedgerLaws.{Once, Sound}
use Rattle.bits.proofs.Tests.{same_is, only_is}
use Rattle.bits.proofs.Members.{same_self}
use Rattle.bits.proofs.Begins.{begins_take}
use Rattle.tree.proofs.Prefixes.{stands_struck, member_stands}
use Rattle.tree.proofs.Covers.{struck_drop, struck_keep}
use Rattle.tree.proofs.Paths.{together_is, after_within, rehopping}
use Rattle.tree.proofs.Counts.{rehops, never_more}
use Rattle.tree.proofs.Checks.{last, CameThrough, announce_passed, withdraw_passed, announce_last, announce_granted, withdraw_last, withdraw_granted}

pub once_struck : (rs : Routes) (p : Bits) → Once rs → Once (struck rs p)
once_struck [] p once = tt
once_struck (r ∷ rs) p once = go (cases_Bool (same r.at p)) (once_struck rs p once.1)
  where
    go : (same r.at p ≡ true) ⊎ (same r.at p ≡ false) → Once (struck rs p) → Once (struck (r ∷ rs) p)
    go (inl s) rest = rw (struck_drop r rs p s) rest
    go (inr s) rest = rw (struck_keep r rs p s) (let k = stands_struck rs p r.at in let o = once.0 in grind arith, rest)

struck_gone : (rs : Routes) (p : Bits) → stands (struck rs p) p ≡ false
struck_gone rs p = let k = stands_struck rs p p in let s = same_self p in grind arith

once_entered : (rs : Routes) (p : Bits) (h : ℕ) → Once rs → Once (entered rs p h)
once_entered rs p h once = (struck_gone rs p, once_struck rs p once)

-- the number of routes
struck_new : (rs : Routes) (p : Bits) → stands rs p ≡ false → length (struck rs p) ≡ length rs
struck_new [] p s = refl
struck_new (r ∷ rs) p s = let ih = struck_new rs p in grind arith

pub one_more : (rs : Routes) (p : Bits) (h : ℕ) → stands rs p ≡ false → length (entered rs p h) ≡ suc (length rs)
one_more rs p h s = ap suc (struck_new rs p s)

pub one_less : (rs : Routes) (p : Bits) → Once rs → stands rs p ≡ true → suc (length (struck rs p)) ≡ length rs
one_less [] p once s = absurd (both_ways _ refl s)
one_less (r ∷ rs) p once s =
    let ih = one_less rs p once.1 in
    let rest : same r.at p ≡ true → length (struck rs p) ≡ length rs = λ e. struck_new rs p (rw (same_is r.at p e) at once.0) in
    grind arith

pub as_many : (rs : Routes) (p : Bits) (h : ℕ) → Once rs → stands rs p ≡ true → length (entered rs p h) ≡ length rs
as_many rs p h once s = one_less rs p once s

-- two beginnings of one row that are equally long are equal
begins_one : (p r q : Bits) → begins p q ≡ true → begins r q ≡ true → length p ≡ length r → p ≡ r
begins_one p r q h k e = begins_take p q h ∙ ap (λ n. take n q) e ∙ sym (begins_take r q k)

-- a prefix has one route
one_route : (rs : Routes) (r s : Route) → Once rs → Memᴰ r rs → Memᴰ s rs → r.at ≡ s.at → r ≡ s
one_route [] r s once m n e = absurd (Memᴰ.not-nil m)
one_route (x ∷ rs) r s once (Memᴰ.head d) (Memᴰ.head f) e = d ∙ sym f
one_route (x ∷ rs) r s once (Memᴰ.head d) (Memᴰ.tail n) e = absurd (both_ways _ once.0 (rw (← ap (λ y. y.at) d, e) (member_stands rs s n)))
one_route (x ∷ rs) r s once (Memᴰ.tail m) (Memᴰ.head f) e = absurd (both_ways _ once.0 (rw (← ap (λ y. y.at) f, ← e) (member_stands rs r m)))
one_route (x ∷ rs) r s once (Memᴰ.tail m) (Memᴰ.tail n) e = one_route rs r s once.1 m n e

pub one_best : (rs : Routes) (q : Bits) (r s : Route) → Once rs → Best rs q r → Best rs q s → r ≡ s
one_best rs q r s once b c =
    let same_at : r.at ≡ s.at = begins_one r.at s.at q b.front c.front (omega (arith, b.most s c.member c.front, c.most r b.member b.front)) in
    let same_hop : r.hop ≡ s.hop = ∥∥₁_elim b.member (ℕ_set _ _) (λ m. ∥∥₁_elim c.member (ℕ_set _ _) (λ n. ap (λ x. x.hop) (one_route rs r s once m n same_at))) in
    ap₂ (λ a h. record { at = a; hop = h }) same_at same_hop

-- what holds of each route
struck_each : {P : Route → Type 0} (rs : Routes) (p : Bits) → ((r : Route) → Mem r rs → P r) → (r : Route) → Mem r (struck rs p) → P r
struck_each rs p all r m = all r ((only_is _ rs r).0 m).0

entered_each : {P : Route → Type 0} → ((r : Route) → IsProp (P r)) → (rs : Routes) (p : Bits) (h : ℕ) → P (record { at = p; hop = h }) → ((r : Route) → Mem r rs → P r) → (r : Route) → Mem r (entered rs p h) → P r
entered_each one rs p h here all = (forall_mem-cons one).1 (here, struck_each rs p all)

pub starts_sound : (g : Given) → Sound g []
starts_sound g = record {
  once = tt;
  short = λ r m. absurd (not-mem-nil m);
  hops = λ r m. absurd (not-mem-nil m);
  routes_fit = omega arith;
  leaves_fit = omega arith;
  vertices_fit = omega arith;
}

module _ (g : Given) (rs : Routes) (sound : Sound g rs) where
  -- a standing route's new hop, by the shapes before and after
  again : (p : Bits) (h : ℕ) → stands rs p ≡ true → together rs (entered rs p h) ≤ vertex_slots
  again p h s = let t = together_is rs (entered rs p h) in let n = rehopping rs p h s in let v = sound.vertices_fit in omega arith

  room_for : (p : Bits) (h : ℕ) → (not (stands rs p) && ltb vertex_slots (together rs (entered rs p h))) ≡ false → together rs (entered rs p h) ≤ vertex_slots
  room_for p h full = elim (cases_Bool (stands rs p)) [
    | inl s ↦ again p h s
    | inr s ↦ (let k : ltb vertex_slots (together rs (entered rs p h)) ≡ false = grind arith in ltb-false _ _ k)
  ]

  enters_sound : (a : Bits) (n h : ℕ) → announce_checks g rs a n h ≡ None → Sound g (entered rs (take n a) h)
  enters_sound a n h e =
      let p : Bits = take n a in
      let (ok, full) = announce_granted g rs a n h e in
      record {
        once = once_entered rs p h sound.once;
        short = entered_each (λ r. le_prop) rs p h (let l = length-take n a in let k = ok.prefix.short in omega arith) sound.short;
        hops = entered_each (λ r. ×_prop le_prop le_prop) rs p h (ok.hop_least, ok.hop_most) sound.hops;
        routes_fit = elim (cases_Bool (stands rs p)) [
          | inl s ↦ omega (arith, as_many rs p h sound.once s, sound.routes_fit)
          | inr s ↦ (let r = (ok.room s).routes in let m = one_more rs p h s in let f = sound.routes_fit in grind arith)
        ];
        leaves_fit = elim (cases_Bool (stands rs p)) [
          | inl s ↦ omega (arith, rehops rs p h s, sound.leaves_fit)
          | inr s ↦ (ok.room s).leaves
        ];
        vertices_fit = omega (arith, room_for p h full, after_within rs (entered rs p h));
      }

  strikes_sound : (a : Bits) (n : ℕ) → withdraw_checks g rs a n ≡ None → Sound g (struck rs (take n a))
  strikes_sound a n e =
      let p : Bits = take n a in
      let (ok, full) = withdraw_granted g rs a n e in
      record {
        once = once_struck rs p sound.once;
        short = struck_each rs p sound.short;
        hops = struck_each rs p sound.hops;
        routes_fit = omega (arith, one_less rs p sound.once ok.known, sound.routes_fit);
        leaves_fit = omega (arith, never_more rs p, sound.leaves_fit);
        vertices_fit = omega (arith, ltb-false _ _ full, after_within rs (struck rs p));
      }

  decided_sound : (o : Option Refusal) (after : Routes) → (o ≡ None → Sound g after) → Sound g (decided o rs after).0
  decided_sound None after s = s refl
  decided_sound (Some r) after s = sound

  pub turn_sound : (c : Call) → Sound g (turn g rs c).0
  turn_sound (announce a n h) = decided_sound _ _ (enters_sound a n h)
  turn_sound (withdraw a n) = decided_sound _ _ (strikes_sound a n)
  turn_sound (lookup a) = sound
  turn_sound count = sound

  -- by the last check alone
  exactly : (o : Option Refusal) (after : Routes) (full : Bool) → o ≡ last full → (full ≡ ltb vertex_slots (together rs after)) → ((decided o rs after).1 ≡ refused VerticesFull) ↔ (vertex_slots < together rs after)
  exactly o after true e f = (λ _. ltb-true _ _ (sym f), λ _. rw e)
  exactly o after false e f = (λ k. absurd (both_ways (ltb vertex_slots (together rs after)) (sym f) (let z : changed (new_shapes rs after) ≡ refused VerticesFull = rw e at k in cc)), λ k. absurd (both_ways _ (sym f) (lt-ltb _ _ k)))

  fulls : (p : Bits) (h : ℕ) → (not (stands rs p) && ltb vertex_slots (together rs (entered rs p h))) ≡ ltb vertex_slots (together rs (entered rs p h))
  fulls p h = elim (cases_Bool (stands rs p)) [
    | inl s ↦ (let k = le-ltb _ _ (again p h s) in grind arith)
    | inr s ↦ grind arith
  ]

  pub full_exactly : (c : Call) → Passed g rs c → ((turn g rs c).1 ≡ refused VerticesFull) ↔ (vertex_slots < together rs (asked rs c))
  full_exactly (announce a n h) ok = exactly _ _ _ (announce_last g rs a n h ok) (fulls (take n a) h)
  full_exactly (withdraw a n) ok = exactly _ _ _ (withdraw_last g rs a n ok) refl
  full_exactly (lookup a) ok = absurd ok
  full_exactly count ok = absurd ok

  grants : (o : Option Refusal) (after : Routes) (full : Bool) → o ≡ last full → full ≡ false → decided o rs after ≡ (after, changed (new_shapes rs after))
  grants o after full e f = rw (e, f)

  pub granted : (c : Call) → Passed g rs c → together rs (asked rs c) ≤ vertex_slots → turn g rs c ≡ (asked rs c, changed (new_shapes rs (asked rs c)))
  granted (announce a n h) ok fits = grants _ _ _ (announce_last g rs a n h ok) (fulls (take n a) h ∙ le-ltb _ _ fits)
  granted (withdraw a n) ok fits = grants _ _ _ (withdraw_last g rs a n ok) (le-ltb _ _ fits)
  granted (lookup a) ok fits = absurd ok
  granted count ok fits = absurd ok

-- what was decided tells whether the earlier checks let it through
through_changed : (o : Option Refusal) (rs after : Routes) (n : ℕ) → (decided o rs after).1 ≡ changed n → CameThrough o
through_changed None rs after n e = inl refl
through_changed (Some r) rs after n e = inl cc

through_full : (o : Option Refusal) (rs after : Routes) → (decided o rs after).1 ≡ refused VerticesFull → CameThrough o
through_full None rs after e = inl refl
through_full (Some r) rs after e = inr (let k : r ≡ VerticesFull = cc in ap Some k)

pub granted_passed : (g : Given) (rs : Routes) (c : Call) (n : ℕ) → (turn g rs c).1 ≡ changed n → Passed g rs c
granted_passed g rs (announce a n h) k e = announce_passed g rs a n h (through_changed (announce_checks g rs a n h) rs _ k e)
granted_passed g rs (withdraw a n) k e = withdraw_passed g rs a n (through_changed (withdraw_checks g rs a n) rs _ k e)
granted_passed g rs (lookup a) k e = no_change (hop_of (longest rs a)) e
  where
    no_change : (o : Option ℕ) → looked o ≡ changed k → ⊥
    no_change None x = let z : ◌≡◌ {A = ℕ} 0 1 = cc in omega arith
    no_change (Some h) x = let z : ◌≡◌ {A = ℕ} 0 1 = cc in omega arith
granted_passed g rs count k e = let z : ◌≡◌ {A = ℕ} 0 1 = cc in omega arith

pub full_passed : (g : Given) (rs : Routes) (c : Call) → (turn g rs c).1 ≡ refused VerticesFull → Passed g rs c
full_passed g rs (announce a n h) e = announce_passed g rs a n h (through_full (announce_checks g rs a n h) rs _ e)
full_passed g rs (withdraw a n) e = withdraw_passed g rs a n (through_full (withdraw_checks g rs a n) rs _ e)
full_passed g rs (lookup a) e = no_refusal (hop_of (longest rs a)) e
  where
    no_refusal : (o : Option ℕ) → looked o ≡ refused VerticesFull → ⊥
    no_refusal None x = let z : ◌≡◌ {A = ℕ} 0 1 = cc in omega arith
    no_refusal (Some h) x = let z : ◌≡◌ {A = ℕ} 0 1 = cc in omega arith
full_passed g rs count e = let z : ◌≡◌ {A = ℕ} 0 1 = cc in omega arith

kept : (o : Option Refusal) (rs after : Routes) (r : Refusal) → (decided o rs after).1 ≡ refused r → (decided o rs after).0 ≡ rs
kept None rs after r e = cc
kept (Some x) rs after r e = refl

pub refusals_keep : (g : Given) (rs : Routes) (c : Call) (r : Refusal) → (turn g rs c).1 ≡ refused r → (turn g rs c).0 ≡ rs
refusals_keep g rs (announce a n h) r e = kept (announce_checks g rs a n h) rs _ r e
refusals_keep g rs (withdraw a n) r e = kept (withdraw_checks g rs a n) rs _ r e
refusals_keep g rs (lookup a) r e = refl
refusals_keep g rs count r e = refl

pub always_sound : (g : Given) (rs : Routes) (calls : List Call) → Sound g rs → Sound g (after_calls g rs calls)
always_sound g rs [] sound = sound
always_sound g rs (c ∷ cs) sound = always_sound g (turn g rs c).0 cs (turn_sound g rs sound c)
