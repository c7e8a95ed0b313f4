-- The first answer of calls at n - 1, n - 2 and so on. Assumes nothing.
use Rattle.std.proofs.Common.{◌≡◌, ℕ, ◌+◌, ◌-◌, ◌<◌, ◌≤◌, Bool, true, Some, None, Option, MatchOption, IfSome, IsSomeAnd, sym, ap, ◌∙◌, subst, arith}
use Rattle.std.specs.Option.{option_map}
use Rattle.std.specs.Fn.{Mut, Called}
use Rattle.std.specs.Iterator.Runs.{CallKeepsClosure}

same_item : (o : Option ℕ) (x : ℕ) → option_map (λ y. y) o ≡ Some x → o ≡ Some x
same_item None x h = h
same_item (Some y) x h = h

-- f was asked at len places, and at all of them where `whole` is true; at x it answers v x, and stays as it is
module _ {F : Type 0} (g : Mut F (ℕ × Unit {0}) (Option ℕ)) (f : F) (n len : ℕ) (at : ℕ → Option ℕ) (whole : Bool)
    (most : len ≤ n) (all : whole ≡ true → len ≡ n) (places : (k : ℕ) → k < len → option_map (λ y. y) (at k) ≡ Some (n - 1 - k)) where
  abbrev Gives : ℕ → Option ℕ → Type 0
  Gives x r = Called g f (x, tt) r f

  item : (x : ℕ) → n - 1 - x < len → x < n → at (n - 1 - x) ≡ Some x
  item x seen less = same_item _ x (places (n - 1 - x) seen ∙ ap Some (omega arith))

  pub first_down : (r : Option ℕ)
      → MatchOption r ((whole ≡ true) × (CallKeepsClosure g f → (k : ℕ) → IfSome (at k) (λ x. Gives x None)))
      (λ y. (i : ℕ) × (i < len) × (len ≡ i + 1) × (CallKeepsClosure g f → IsSomeAnd (at i) (λ x. Gives x (Some y)) × ((k : ℕ) → k < i → IsSomeAnd (at k) (λ x. Gives x None))))
      → (v : ℕ → Option ℕ) → ((x : ℕ) (r : Option ℕ) (f' : F) → Called g f (x, tt) r f' → (r ≡ v x) × (f' ≡ f))
      → MatchOption r ((x : ℕ) → x < n → v x ≡ None) (λ h. (x : ℕ) × (x < n) × (v x ≡ Some h) × ((k : ℕ) → x < k → k < n → v k ≡ None))
  first_down None (end, given) v tells = λ x less.
      let seen : n - 1 - x < len = omega (arith, all end) in
      sym (tells x None f (subst (λ o. IfSome o (λ y. Gives y None)) (item x seen less) (given (λ (x, _) r f' k. (tells x r f' k).1) (n - 1 - x)))).0
  first_down (Some h) (i, less, last, given) v tells =
      let x = n - 1 - i in
      let answers = given (λ (x, _) r f' k. (tells x r f' k).1) in (
        x,
        omega arith,
        sym (tells x (Some h) f (subst (λ o. IsSomeAnd o (λ y. Gives y (Some h))) (same_item _ x (places i less)) answers.0)).0,
        λ k above below.
            let before : n - 1 - k < i = omega arith in
            sym (tells k None f (subst (λ o. IsSomeAnd o (λ y. Gives y None)) (item k (omega arith) below) (answers.1 (n - 1 - k) before))).0,
      )
