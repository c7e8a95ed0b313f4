-- What the two stores hold, as functions of the routes. Assumes nothing.
use Rattle.std.proofs.Common.{◌≡◌, ℕ, true, false, cond, ◌⊎◌, ◌↔◌, [], ◌∷◌, map, is_some, Some, None, Option, sym, refl, ap, ◌∙◌, ap₂, inl, inr, arith}
use mathlib.Core.Logic.{∥∥₁_elim}
use mathlib.Core.HLevel.{⊥_prop}
use mathlib.Core.List.Memᴰ
use mathlib.Core.List.{Mem, Memᴰ, mem-cons_of_mem, Nodup, Nodup-nil, Nodup-cons}
use native.Mathlib.Nat.{ℕ_set}
use Rattle.std.proofs.lemmas.Bool.{cases_Bool, both_ways}
use Rattle.bits.specs.Lists.{any}
use Rattle.bits.specs.Rows.{Bits, same, begins}
use Rattle.tree.specs.Tree.{Route, Routes, pushed, leaves, matches, matched, longest, hop_of}
use Rattle.tree.specs.Graph.{Graph, Closed, Reads, OneForEach}
use Rattle.tree.specs.Ledger.{stands, struck, entered}
use Rattle.tree.specs.Law.{Map, State}
use Rattle.tree.specs.LeafLaws.{AtMost}
use Rattle.tree.specs.LedgerLaws.{Once}
use Rattle.tree.specs.StoreLaws.{hop_at, leaf_entry, RoutesTold, LeavesTold}
use Rattle.bits.proofs.Tests.{same_is, never}
use Rattle.bits.proofs.Members.{same_self, same_swap, has_row, same_equality}
use Rattle.bits.proofs.Sets.{any_only}
use Rattle.tree.proofs.Prefixes.{member_stands}
use Rattle.tree.proofs.Covers.{struck_drop, struck_keep}
use Rattle.tree.proofs.Matched.{matched_is, some_hop, match_by_leaf}
use Rattle.tree.proofs.Walks.{reads_end_at_leaves}
use Rattle.tree.proofs.Least.{least}

-- an optional number is one or none
which : (o : Option ℕ) → ((h : ℕ) × (o ≡ Some h)) ⊎ (o ≡ None)
which None = inr refl
which (Some h) = inl (h, refl)

-- maps that have the same entries are one
same_entries : (o m : Option ℕ) → ((h : ℕ) → (o ≡ Some h) ↔ (m ≡ Some h)) → o ≡ m
same_entries o m e = elim (which o) [
  | inl (h, k) ↦ k ∙ sym ((e h).0 k)
  | inr k ↦ elim (which m) [ inl (h, j) ↦ (e h).1 j ∙ sym j | inr j ↦ k ∙ sym j ]
]

-- a map tells the hop with which a route stands
hop_stands : (rs : Routes) (p : Bits) (h : ℕ) → hop_at rs p ≡ Some h → Mem (record { at = p; hop = h }) rs
hop_stands [] p h e = let z : ◌≡◌ {A = ℕ} 0 1 = cc in absurd (omega arith)
hop_stands (r ∷ rs) p h e = elim (cases_Bool (same r.at p)) [
  | inl s ↦ ∣ Memᴰ.head (let at_is = same_is r.at p s in let hop_is : r.hop ≡ h = grind arith in ap₂ (λ a b. record { at = a; hop = b }) (sym at_is) (sym hop_is)) ∣₁
  | inr s ↦ mem-cons_of_mem r (hop_stands rs p h (grind arith))
]

stands_hop : (rs : Routes) (r : Route) → Once rs → Memᴰ r rs → hop_at rs r.at ≡ Some r.hop
stands_hop [] r once m = absurd (Memᴰ.not-nil m)
stands_hop (s ∷ rs) r once (Memᴰ.head e) = let k : same s.at r.at ≡ true = rw e (same_self s.at) in let f : r.hop ≡ s.hop = ap (λ x. x.hop) e in grind arith
stands_hop (s ∷ rs) r once (Memᴰ.tail m) =
    let ih = stands_hop rs r once.1 m in
    let other : same s.at r.at ≡ false = never _ (λ k. both_ways _ (rw (same_is s.at r.at k) at once.0) (member_stands rs r m)) in
    grind arith

pub told_at : (rs : Routes) (p : Bits) (h : ℕ) → Once rs → (hop_at rs p ≡ Some h) ↔ Mem (record { at = p; hop = h }) rs
told_at rs p h once = (hop_stands rs p h, back (which (hop_at rs p)))
  where
    back : ((k : ℕ) × (hop_at rs p ≡ Some k)) ⊎ (hop_at rs p ≡ None) → Mem (record { at = p; hop = h }) rs → hop_at rs p ≡ Some h
    back (inl (k, e)) m = e ∙ ap Some (∥∥₁_elim m (ℕ_set _ _) (λ d. let f = stands_hop rs _ once d in cc))
    back (inr e) m = absurd (∥∥₁_elim m ⊥_prop (λ d. let f = stands_hop rs _ once d in let z : ◌≡◌ {A = ℕ} 0 1 = cc in omega arith))

-- maps by their entries
by_entries : (m n : Map) (P : Bits → ℕ → Type 0) → ((q : Bits) (h : ℕ) → (n q ≡ Some h) ↔ P q h) → ((q : Bits) (h : ℕ) → (m q ≡ Some h) ↔ P q h) ↔ ((q : Bits) → m q ≡ n q)
by_entries m n P is = (
  λ e q. same_entries (m q) (n q) (λ h. (λ k. (is q h).1 ((e q h).0 k), λ k. (e q h).1 ((is q h).0 k))),
  λ e q h. (λ k. (is q h).0 (sym (e q) ∙ k), λ k. e q ∙ (is q h).1 k),
)

pub routes_told : (rs : Routes) (m : Map) → Once rs → RoutesTold rs m ↔ ((p : Bits) → m p ≡ hop_at rs p)
routes_told rs m once = by_entries m (hop_at rs) _ (λ p h. told_at rs p h once)

entry_is : (rs : Routes) (q : Bits) (h : ℕ) → (leaf_entry rs q ≡ Some h) ↔ (Mem q (matched rs) × (hop_of (longest rs q) ≡ Some h))
entry_is rs q h = (forth (cases_Bool (any (same q) (leaves (pushed rs) []))), λ (m, e). (let l = (has_row q _).0 ((matched_is rs q).0 m).0 in rw l e))
  where
    forth : (any (same q) (leaves (pushed rs) []) ≡ true) ⊎ (any (same q) (leaves (pushed rs) []) ≡ false) → leaf_entry rs q ≡ Some h → Mem q (matched rs) × (hop_of (longest rs q) ≡ Some h)
    forth (inl l) e =
        let hop_is : hop_of (longest rs q) ≡ Some h = rw l at e in
        ((matched_is rs q).1 ((has_row q _).1 l, sym (some_hop rs q) ∙ ap is_some hop_is), hop_is)
    forth (inr l) e = let none : None ≡ Some h = rw l at e in let z : ◌≡◌ {A = ℕ} 0 1 = cc in absurd (omega arith)

pub leaves_told : (rs : Routes) (m : Map) → LeavesTold rs m ↔ ((q : Bits) → m q ≡ leaf_entry rs q)
leaves_told rs m = by_entries m (leaf_entry rs) _ (entry_is rs)

pub any_prefix : (rs : Routes) (p : Bits) → any (same p) (map (λ r. r.at) rs) ≡ stands rs p
any_prefix [] p = refl
any_prefix (r ∷ rs) p = let ih = any_prefix rs p in let s = same_swap p r.at in grind arith

pub routes_once : (rs : Routes) → Once rs → Nodup (map (λ r. r.at) rs)
routes_once [] once = Nodup-nil
routes_once (r ∷ rs) once = Nodup-cons.1 (λ m. both_ways _ once.0 (sym (any_prefix rs r.at) ∙ (has_row r.at _).0 m), routes_once rs once.1)

pub routes_held : (rs : Routes) (p : Bits) → is_some (hop_at rs p) ≡ stands rs p
routes_held [] p = refl
routes_held (r ∷ rs) p = let ih = routes_held rs p in elim (cases_Bool (same r.at p)) [ inl s ↦ grind arith | inr s ↦ grind arith ]

pub leaves_held : (rs : Routes) (q : Bits) → is_some (leaf_entry rs q) ≡ any (same q) (matched rs)
leaves_held rs q =
    let a = any_only same_equality (matches rs) q (leaves (pushed rs) []) in
    let s = some_hop rs q in
    elim (cases_Bool (any (same q) (leaves (pushed rs) []))) [ inl l ↦ grind arith | inr l ↦ grind arith ]

-- the entry at an address's leaf
pub found_at_leaf : (rs : Routes) (a q : Bits) → Mem q (leaves (pushed rs) []) → begins q a ≡ true → leaf_entry rs q ≡ hop_of (longest rs a)
found_at_leaf rs a q l f = let h = (has_row q _).0 l in rw h (ap hop_of (match_by_leaf rs a q l f))

pub struck_hop : (rs : Routes) (p : Bits) (q : Bits) → hop_at (struck rs p) q ≡ cond (same p q) None (hop_at rs q)
struck_hop [] p q = elim (cases_Bool (same p q)) [ inl s ↦ grind arith | inr s ↦ grind arith ]
struck_hop (r ∷ rs) p q =
    let ih = struck_hop rs p q in
    elim (cases_Bool (same r.at p)) [
      | inl s ↦ (let e : same r.at q ≡ same p q = rw (same_is r.at p s) in rw (struck_drop r rs p s) (grind arith))
      | inr s ↦ (let e : same p q ≡ true → same r.at q ≡ false = λ k. rw (← same_is p q k) s in rw (struck_keep r rs p s) (grind arith))
    ]

pub entered_hop : (rs : Routes) (p : Bits) (h : ℕ) (q : Bits) → hop_at (entered rs p h) q ≡ cond (same p q) (Some h) (hop_at rs q)
entered_hop rs p h q = let s = struck_hop rs p q in elim (cases_Bool (same p q)) [ inl k ↦ grind arith | inr k ↦ grind arith ]

pub state_holds : (W : ℕ) (rs : Routes) (graph : Graph) (routes leaves : Map) → AtMost W rs → Closed graph → Reads graph.edge graph.start (pushed rs) → OneForEach rs graph
    → RoutesTold rs routes → LeavesTold rs leaves → State W rs graph routes leaves
state_holds W rs graph routes leaves short closed reads one told told' = record {
  route_hops = told;
  leaf_hops = told';
  closed = closed;
  walks = reads_end_at_leaves W rs short graph reads;
  one_for_each = one;
  least = λ other c w. (let n = one.number in let l = least W rs other short c w in omega arith);
}
