-- Runs of equal marks. Assumes nothing.
use Rattle.std.proofs.Common.{◌≡◌, ℕ, zero, suc, ◌+◌, ◌-◌, ◌^◌, ◌<◌, ◌≤◌, Bool, true, false, eqb, List, [], ◌∷◌, reverse, length, get_or, take, drop, Some, sym, refl, ap, ◌∙◌, inl, inr, arith}
use Rattle.std.proofs.lemmas.List.{length-take-le, length-drop, length-reverse, get_or-take, get_or-drop, get_or-reverse}
use Rattle.std.proofs.lemmas.Nat.{pow_below}
use Rattle.std.proofs.lemmas.Bool.{cases_eq, eq-eqb, ne_eqb}
use Rattle.image.specs.Image.{front_run, run, log2}

pub front_run_is : (m : Bool) (bs : List Bool) (n : ℕ) → n ≤ length bs → ((k : ℕ) → k < n → get_or bs k false ≡ m) → (n < length bs → get_or bs n false ≡ m → ⊥) → front_run m bs ≡ n
unfolding front_run
front_run_is m [] n w inside past = omega arith
front_run_is m (b ∷ bs) zero w inside past = let p : b ≡ m → ⊥ = past (omega arith) in grind arith
front_run_is m (b ∷ bs) (suc n) w inside past =
    let ih = front_run_is m bs n (omega arith) (λ k h. inside (suc k) (omega arith)) (λ h. past (omega arith)) in
    let e : b ≡ m = inside 0 (omega arith) in
    grind arith

-- the marks from lo on, up to hi, are equal, and those beside them are others
pub record RunFrom (ms : List Bool) (lo hi : ℕ) : Type 0 where
  pub within : hi ≤ length ms
  pub inside : (f : ℕ) → lo ≤ f → suc f < hi → get_or ms f false ≡ get_or ms (suc f) false
  pub above : (f : ℕ) → suc f ≡ hi → hi < length ms → get_or ms f false ≡ get_or ms hi false → ⊥
  pub below : (f : ℕ) → suc f ≡ lo → get_or ms f false ≡ get_or ms lo false → ⊥

module _ {ms : List Bool} {lo hi : ℕ} (r : RunFrom ms lo hi) where
  along : (k : ℕ) → lo + k < hi → get_or ms (lo + k) false ≡ get_or ms lo false
  along zero h = let e : lo + 0 ≡ lo = omega arith in rw e refl
  along (suc k) h =
      let e : lo + suc k ≡ suc (lo + k) = omega arith in
      rw e (sym (r.inside (lo + k) (omega arith) (omega arith)) ∙ along k (omega arith))

  equal : (f : ℕ) → lo ≤ f → f < hi → get_or ms f false ≡ get_or ms lo false
  equal f l h = let e : lo + (f - lo) ≡ f = omega arith in rw e at (along (f - lo) (omega arith))

  up : (e : ℕ) → lo ≤ e → e < hi → front_run (get_or ms e false) (drop e ms) ≡ hi - e
  up e l h = let w = r.within in front_run_is _ (drop e ms) (hi - e) (simp length-drop (omega arith)) same_mark other_mark
    where
      same_mark : (k : ℕ) → k < hi - e → get_or (drop e ms) k false ≡ get_or ms e false
      same_mark k s = get_or-drop e ms k false ∙ equal (e + k) (omega arith) (omega arith) ∙ sym (equal e l h)

      other_mark : hi - e < length (drop e ms) → get_or (drop e ms) (hi - e) false ≡ get_or ms e false → ⊥
      other_mark s t =
          let there : e + (hi - e) ≡ hi = omega arith in
          let next : get_or ms hi false ≡ get_or ms e false = ap (λ k. get_or ms k false) (sym there) ∙ sym (get_or-drop e ms (hi - e) false) ∙ t in
          let last : suc (hi - 1) ≡ hi = omega arith in
          let more : hi < length ms = omega (arith, simp length-drop at s) in
          r.above (hi - 1) last more (equal (hi - 1) (omega arith) (omega arith) ∙ sym (equal e l h) ∙ sym next)

  down : (e : ℕ) → lo ≤ e → e < hi → front_run (get_or ms e false) (reverse (take e ms)) ≡ e - lo
  down e l h = let n = long in front_run_is _ (reverse (take e ms)) (e - lo) (simp length-reverse (omega arith)) same_mark other_mark
    where
      long : length (take e ms) ≡ e
      long = length-take-le e ms (omega (arith, r.within))

      turned : (k : ℕ) → k < e → get_or (reverse (take e ms)) k false ≡ get_or ms (e - 1 - k) false
      turned k s = get_or-reverse (take e ms) k false (omega (arith, long)) ∙ ap (λ j. get_or (take e ms) (j - 1 - k) false) long ∙ get_or-take e ms (e - 1 - k) false (omega arith)

      same_mark : (k : ℕ) → k < e - lo → get_or (reverse (take e ms)) k false ≡ get_or ms e false
      same_mark k s = turned k (omega arith) ∙ equal (e - 1 - k) (omega arith) (omega arith) ∙ sym (equal e l h)

      other_mark : e - lo < length (reverse (take e ms)) → get_or (reverse (take e ms)) (e - lo) false ≡ get_or ms e false → ⊥
      other_mark s t =
          let more : e - lo < e = omega (arith, long, simp length-reverse at s) in
          let there : e - 1 - (e - lo) ≡ lo - 1 = omega arith in
          let next : get_or ms (lo - 1) false ≡ get_or ms e false = ap (λ k. get_or ms k false) (sym there) ∙ sym (turned (e - lo) more) ∙ t in
          r.below (lo - 1) (omega arith) (next ∙ equal e l h)

  pub run_is : (e : ℕ) → lo ≤ e → e < hi → run ms e ≡ hi - lo
  run_is e l h = omega (arith, up e l h, down e l h)

pub log2_pow : (s l : ℕ) → l < s → log2 s (2 ^ l) ≡ Some l
unfolding log2
log2_pow zero l h = absurd (omega arith)
log2_pow (suc s) l h = elim (cases_eq l s) [ inl e ↦ here e | inr n ↦ later (log2_pow s l) (omega arith) ]
  where
    here : l ≡ s → log2 (suc s) (2 ^ l) ≡ Some l
    here e = let t : eqb (2 ^ l) (2 ^ s) ≡ true = eq-eqb _ _ (ap (λ k. 2 ^ k) e) in grind arith

    later : (l < s → log2 s (2 ^ l) ≡ Some l) → l < s → log2 (suc s) (2 ^ l) ≡ Some l
    later ih less = let f : eqb (2 ^ l) (2 ^ s) ≡ false = ne_eqb _ _ (λ e. omega (arith, pow_below l s less)) in grind arith
