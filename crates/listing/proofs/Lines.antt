-- What a line of a listing stands for, found step by step. Assumes nothing.
use Rattle.std.proofs.Common.{◌≡◌, ℕ, ◌+◌, ◌*◌, ◌≤◌, true, false, cond, leb, List, ◌∷◌, length, take, drop, is_some, Some, None, Ok, Err, Option, Result, sym, refl, ap, ◌∙◌, subst, arith}
use Rattle.std.proofs.lemmas.Bool.{le-leb}
use Rattle.bits.specs.Rows.{Bits, halves}
use Rattle.bits.specs.declared.halves.Halves.{Halves}
use Rattle.bits.proofs.Fronts.{padded_front}
use Rattle.refusal.specs.declared.Refusal.{Refusal}
use Rattle.refusal.specs.declared.Refusal.TheVariants.{Line}
use Rattle.net.specs.declared.prefix.Prefix.{Prefix}
use Rattle.net.specs.Prefix.{refusal_of, Makes}
use Rattle.text.specs.Fields.{first_of, parted, decimal, hex_row, Holds}
use Rattle.text.proofs.Marks.{parted_at, parted_none, some_part}
use Rattle.text.proofs.Digits.{hex_length}
use Rattle.listing.specs.Listing.{refused, prefix, address_row, checked, read_two, read_fields, read_prefix, Reads}

-- one field
pub no_comma : (bs : List ℕ) → None ≡ first_of 44 bs → read_prefix bs ≡ refused Line
no_comma bs e = ap read_fields (parted_none 44 bs (sym e))

-- three fields or more
pub more_commas : (bs f rest : List ℕ) → parted 44 bs ≡ f ∷ parted 44 rest → is_some (first_of 44 rest) ≡ true → read_prefix bs ≡ refused Line
more_commas bs f rest e g = ap read_fields e ∙ go (first_of 44 rest) refl g
  where
    third : (g : List ℕ) (fs : List (List ℕ)) → ((h : List ℕ) × (hs : List (List ℕ)) × (fs ≡ h ∷ hs)) → read_fields (f ∷ (g ∷ fs)) ≡ refused Line
    third g fs (h, hs, z) = rw z refl

    go : (o : Option ℕ) → first_of 44 rest ≡ o → is_some o ≡ true → read_fields (f ∷ parted 44 rest) ≡ refused Line
    go None g h = grind arith
    go (Some k) g h = ap (λ fs. read_fields (f ∷ fs)) (parted_at 44 rest k g) ∙ third (take k rest) (parted 44 (drop (k + 1) rest)) (some_part 44 (drop (k + 1) rest))

-- two fields
pub two_fields : (bs f rest : List ℕ) → parted 44 bs ≡ f ∷ parted 44 rest → is_some (first_of 44 rest) ≡ false
    → read_prefix bs ≡ read_two (address_row f) (decimal rest) (length f + 2)
two_fields bs f rest e g = ap read_fields (e ∙ ap (λ fs. f ∷ fs) (parted_none 44 rest (go (first_of 44 rest) g)))
  where
    go : (o : Option ℕ) → is_some o ≡ false → o ≡ None
    go None h = refl
    go (Some k) h = grind arith

-- what an address of w bits answers, of which the halves hold the bits of the field
pub read_known : (bs : List ℕ) (w column n : ℕ) (o : Option ℕ) (r : Result Prefix Refusal) (x : Halves) → 4 * length bs ≡ w → w ≤ 128 → Some n ≡ o
    → Holds (cond (leb (length bs) 32) (hex_row bs) None) (Some x) → Makes w (take w (halves x.first x.second)) n r → Reads (read_two (hex_row bs) o column) r
read_known bs w column n o r x e s f h m =
    let within : Holds (hex_row bs) (Some x) = subst (λ k. Holds k (Some x)) (ap (λ t. cond t (hex_row bs) None) (le-leb (length bs) 32 (omega arith))) h in
    subst (λ k. Reads (read_two (hex_row bs) k column) r) f (go (hex_row bs) (λ q. hex_length bs q) within)
  where
    told : (q : Bits) (r : Result Prefix Refusal) → Makes w q n r → length q ≡ w → Reads (checked (refusal_of (length q) q n) q n) r
    told q (Ok p) g k = ap (λ v. checked (refusal_of v q n) q n) k ∙ ap (λ c. checked c q n) g.0 ∙ ap prefix (sym g.1)
    told q (Err c) g k = ap (λ v. checked (refusal_of v q n) q n) k ∙ ap (λ c. checked c q n) g

    go : (k : Option Bits) → ((q : Bits) → k ≡ Some q → length q ≡ 4 * length bs) → Holds k (Some x) → Reads (read_two k (Some n) column) r
    go None long g = absurd g
    go (Some q) long g =
        let wide : length q ≡ w = long q refl ∙ e in
        told q r (subst (λ a. Makes w a n r) (ap (take w) g ∙ padded_front 128 w q wide) m) wide
