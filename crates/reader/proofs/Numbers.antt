-- Powers of 2, the number that bits write, and powers looked for. Assumes nothing.
use Rattle.std.proofs.Common.{◌≡◌, ℕ, zero, suc, ◌+◌, ◌-◌, ◌*◌, ◌%◌, ◌^◌, ◌<◌, ◌≤◌, Bool, true, false, cond, eqb, List, [], ◌∷◌, ◌++◌, length, get_or, take, drop, replicate, fold, find, Some, None, Option, option_map, MatchOption, IfSome, sym, refl, ap, ◌∙◌, subst, ⊎_elim, arith, pow_mono, drop-drop}
use mir.Val.{bool_byte}
use Rattle.std.specs.List.{range_with_len}
use Rattle.std.proofs.lemmas.Bool.{eqb-true, eqb-false, eq-eqb, ne_eqb, lt-ltb, le-ltb, cases_eq}
use Rattle.std.proofs.lemmas.Nat.{pow-add, one_shl}
use Rattle.std.proofs.lemmas.List.{length_push, get_or-drop}
use Rattle.bits.specs.Rows.{Bits, padded}
use Rattle.image.specs.Image.{number_from, log2, within, unfolded}
use Rattle.image.proofs.Runs.{log2_pow}

pub power_most : (s : ℕ) → s ≤ 6 → 2 ^ s ≤ 64
power_most s h = pow_mono h

-- one bit more behind
pub number_more : (n : ℕ) (q : Bits) (b : Bool) → number_from n (q ++ (b ∷ [])) ≡ 2 * number_from n q + cond b 1 0
unfolding number_from
number_more n [] b = refl
number_more n (c ∷ q) b = number_more (2 * n + cond c 1 0) q b

-- the bits of a row from place i on, with zeros past its end
bits_from : (q : Bits) (n : ℕ) → padded (suc n) (take (suc n) q) ≡ get_or q 0 false ∷ padded n (take n (drop 1 q))
bits_from [] zero = refl
bits_from [] (suc n) = let e : suc (suc n) - 0 ≡ suc (suc n - 0) = omega arith in ap (λ k. replicate k false) e
bits_from (b ∷ q) n = ap (λ k. b ∷ (take n q ++ replicate k false)) (omega arith)

next_bits : (row : Bits) (i n : ℕ) → padded (suc n) (take (suc n) (drop i row)) ≡ get_or row i false ∷ padded n (take n (drop (i + 1) row))
next_bits row i n = bits_from (drop i row) n ∙ ap (λ b. b ∷ padded n (take n (drop 1 (drop i row)))) (get_or-drop i row 0 false ∙ ap (λ j. get_or row j false) (omega arith)) ∙ ap (λ q. get_or row i false ∷ padded n (take n q)) (drop-drop 1 i row)

-- the number that they write, as it grows bit by bit
abbrev pub longer : Bits → ℕ → ℕ → ℕ
longer row e i = 2 * e + bool_byte (get_or row i false)

pub bits_number : (row : Bits) (i n e : ℕ) → fold (longer row) e (range_with_len i n) ≡ number_from e (padded n (take n (drop i row)))
unfolding number_from
bits_number row i zero e = refl
bits_number row i (suc n) e = bits_number row (i + 1) n (longer row e i) ∙ ap (λ k. number_from (2 * e + k) (padded n (take n (drop (i + 1) row)))) (byte (get_or row i false)) ∙ ap (number_from e) (sym (next_bits row i n))
  where
    byte : (b : Bool) → bool_byte b ≡ cond b 1 0
    byte true = refl
    byte false = refl

-- it fits, after as many bits as xs has places
pub longer_below : (xs : List ℕ) (x e n : ℕ) → n < 2 → e < 2 ^ length xs → 2 * e + n < 2 ^ length (xs ++ (x ∷ []))
longer_below xs x e n bit h = omega (arith, length_push xs x, pow-add 2 (length xs) 1, ap (λ k. 2 ^ k) (length_push xs x))

pub longer_fits : (xs : List ℕ) (s e : ℕ) → length xs < s → s ≤ 6 → e < 2 ^ length xs → e < 64
longer_fits xs s e less most h = omega (arith, pow_mono {i = length xs} {j = 6} (omega arith))

-- the power that was looked for from 0 up; the code's power is a shifted 1
abbrev pub Power : ℕ → ℕ → ℕ → Option ℕ → Type 0
Power t a b o = MatchOption o ((l : ℕ) → a ≤ l → l < b → t ≡ 2 ^ l → ⊥) (λ l. (l < b) × (t ≡ 2 ^ l))

abbrev pub is_power : ℕ → ℕ → Bool
is_power t l = eqb t ((1 * 2 ^ l) % 2 ^ 64)

power_in : (t a n b : ℕ) → a + n ≡ b → b ≤ 64 → Power t a b (find (is_power t) (range_with_len a n))
power_in t a zero b whole small = λ l least less e. omega arith
power_in t a (suc n) b whole small = go (is_power t a) refl (find (is_power t) (range_with_len (a + 1) n)) (power_in t (a + 1) n b (omega arith) small)
  where
    here : (1 * 2 ^ a) % 2 ^ 64 ≡ 2 ^ a
    here = one_shl a 64 (omega arith)

    go : (test : Bool) → is_power t a ≡ test → (o : Option ℕ) → Power t (a + 1) b o → Power t a b (cond test (Some a) o)
    go true hit o h = (omega arith, eqb-true t _ hit ∙ here)
    go false miss (Some l) h = h
    go false miss None h = λ l least less e. ⊎_elim (λ (s : l ≡ a). eqb-false t _ miss (e ∙ ap (λ k. 2 ^ k) s ∙ sym here)) (λ (ne : l ≡ a → ⊥). h l (omega arith) less e) (cases_eq l a)

no_power : (s t : ℕ) → ((l : ℕ) → l < s → t ≡ 2 ^ l → ⊥) → log2 s t ≡ None
unfolding log2
no_power zero t none = refl
no_power (suc s) t none = rw (log2, ne_eqb t (2 ^ s) (none s (omega arith))) (no_power s t (λ l less. none l (omega arith)))

pub power_found : (s t : ℕ) → s ≤ 6 → (o : Option ℕ) → option_map (λ l. l) o ≡ find (is_power t) (range_with_len 0 s) → (o ≡ log2 s t) × IfSome o (λ l. l < s)
power_found s t most o is = go o (same o (subst (Power t 0 s) (sym is) (power_in t 0 s s (omega arith) (omega arith))))
  where
    same : (o : Option ℕ) → Power t 0 s (option_map (λ l. l) o) → Power t 0 s o
    same None h = h
    same (Some l) h = h

    go : (o : Option ℕ) → Power t 0 s o → (o ≡ log2 s t) × IfSome o (λ l. l < s)
    go (Some l) h = (sym (ap (log2 s) h.1 ∙ log2_pow s l h.0), h.0)
    go None h = (sym (no_power s t (λ l less. h l (omega arith) less)), tt)

-- the power that a number is, is below the bound
pub log2_small : (s t l : ℕ) → Some l ≡ log2 s t → l < s
unfolding log2
log2_small zero t l e = let z : ◌≡◌ {A = ℕ} 0 1 = cc in omega arith
log2_small (suc s) t l e = ⊎_elim
    (λ (h : t ≡ 2 ^ s). let f : Some l ≡ Some s = e ∙ rw (log2, eq-eqb t (2 ^ s) h) refl in let same : l ≡ s = cc in omega arith)
    (λ (h : t ≡ 2 ^ s → ⊥). let less = log2_small s t l (e ∙ rw (log2, ne_eqb t (2 ^ s) h) refl) in omega arith)
    (cases_eq t (2 ^ s))

-- the bits of a leaf, from the power that was found
pub leaf_within : (W d l : ℕ) (o : Option ℕ) → Some l ≡ o → d - l ≤ W → Some (d - l) ≡ unfolded W d o
leaf_within W d l o is fits = let e : within W (d - l) ≡ Some (d - l) = rw (within, le-ltb W (d - l) fits) refl in sym e ∙ ap (unfolded W d) is

pub leaf_past : (W d l : ℕ) (o : Option ℕ) → Some l ≡ o → W < d - l → None ≡ unfolded W d o
leaf_past W d l o is past = let e : within W (d - l) ≡ None = rw (within, lt-ltb W (d - l) past) refl in sym e ∙ ap (unfolded W d) is
