-- A leaf is given a hop, or its entry is taken out: painting of one row. Assumes nothing.
use Rattle.std.proofs.Common.{◌≡◌, ℕ, true, [], ◌∷◌, is_ok, Some, None, Ok, Err, Result, refl, arith}
use Rattle.std.proofs.lemmas.Bool.Decides.{nat_tests}
use Rattle.bits.specs.Rows.{Bits}
use Rattle.refusal.specs.declared.Refusal.{Refusal}
use Rattle.store.specs.Content.{Told, Content, Wrote, Puts, Removes}
use Rattle.paint.specs.Paint.{fair}
use Rattle.paint.specs.Whole.{Whole}

wrote_one : (q : Bits) (hop : Told) (a b : Content) → b.limit ≡ a.limit → Wrote q hop a b → Whole (q ∷ []) hop a b true
wrote_one q hop a b limits w =
    record {
      limits = limits;
      rows = λ _ x. (let row = w.rows x in grind arith);
      number = λ _. (let number = w.number in grind arith);
      room = λ _. refl;
      none = λ _. refl;
      elsewhere = λ x other. (let row = w.rows x in grind arith);
    }

put_paints : (q : Bits) (h : ℕ) (a b : Content) (r : Result (Unit {0}) Refusal) → fair (Some h) ≡ true → b.limit ≡ a.limit → Puts q h a b r → Whole (q ∷ []) (Some h) a b (is_ok r)
put_paints q h a b (Ok u) good limits (granted, w) = wrote_one q (Some h) a b limits w
put_paints q h a b (Err e) good limits (refused, stays) =
    record {
      limits = limits;
      rows = λ k. absurd (grind arith);
      number = λ k. absurd (grind arith);
      room = λ room. absurd (grind (arith, nat_tests));
      none = λ k. absurd (grind arith);
      elsewhere = λ x _. rw stays;
    }

remove_paints : (q : Bits) (a b : Content) (t : Told) → b.limit ≡ a.limit → Removes q a b t → Whole (q ∷ []) None a b true
remove_paints q a b t limits removes = wrote_one q None a b limits removes.taken

module _ (q : Bits) (hop : Told) (a b : Content) where
  pub put_marks : (h n : ℕ) (r : Result (Unit {0}) Refusal) → hop ≡ Some h → n ≡ h → b.limit ≡ a.limit → Puts q n a b r → fair hop ≡ true → Whole (q ∷ []) hop a b (is_ok r)
  put_marks h n r is num limits puts good = rw is (put_paints q h a b r (rw is at good) limits (rw num at puts))

  pub remove_marks : (t : Told) → hop ≡ None → b.limit ≡ a.limit → Removes q a b t → Whole (q ∷ []) hop a b true
  remove_marks t is limits removes = rw is (remove_paints q a b t limits removes)
