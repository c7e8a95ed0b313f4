-- What a buffer holds, and the zeros behind it, after a byte or a text more. Assumes nothing.
use Rattle.std.proofs.Common.{◌≡◌, ℕ, zero, suc, ◌+◌, ◌-◌, ◌/◌, ◌%◌, ◌^◌, ◌<◌, ◌≤◌, List, [], ◌∷◌, ◌++◌, length, take, drop, set, replicate, decimal, sym, refl, ap, ◌∙◌, append_assoc, arith, length-append}
use Rattle.std.proofs.lemmas.Fmt.{decimal_digit, decimal_step, length-decimal-le}
use borrow.Rule.Slice.PartMut.{put_mid}
use Rattle.std.proofs.lemmas.List.{length-set, length-drop, drop-drop, drop-replicate, drop-set-lt, take_all, take_at, take_more_set, length-take-le}
use Rattle.std.proofs.lemmas.Slice.{drop-put_mid}
use Rattle.line.specs.declared.buffer.Buffer.TheInside.{Inside}
use Rattle.line.specs.Held.{Blank}

-- the zeros behind the first n bytes more
zeros_behind : (b : Inside) (n : ℕ) → Blank b → drop (b.len + n) b.bytes ≡ replicate (81 - (b.len + n)) 0
zeros_behind b n h =
    let e : (81 - b.len) - n ≡ 81 - (b.len + n) = omega arith in
    sym (drop-drop n b.len b.bytes) ∙ ap (drop n) h.zeros ∙ drop-replicate n (81 - b.len) 0 ∙ ap (λ k. replicate k 0) e

-- a byte more
pub byte_blank : (b : Inside) (x : ℕ) → Blank b → b.len < 81 → Blank (record { bytes = set b.bytes b.len x; len = b.len + 1 })
byte_blank b x h room = record {
  long = length-set b.bytes b.len x ∙ h.long;
  short = omega arith;
  zeros = drop-set-lt (b.len + 1) b.bytes b.len x (omega arith) ∙ zeros_behind b 1 h;
}

pub byte_held : (b : Inside) (x : ℕ) → Blank b → b.len < 81 → take (b.len + 1) (set b.bytes b.len x) ≡ take 81 (take b.len b.bytes ++ (x ∷ []))
byte_held b x h room =
    let fits : length (take b.len b.bytes) ≡ b.len = length-take-le b.len b.bytes (omega (arith, h.long)) in
    let both = length-append (take b.len b.bytes) (x ∷ []) in
    take_more_set b.bytes b.len x (omega (arith, h.long)) ∙ sym (take_all 81 (take b.len b.bytes ++ (x ∷ [])) (omega arith))

-- and where there is no room
pub full_held : (b : Inside) (x : ℕ) → Blank b → 81 ≤ b.len → take b.len b.bytes ≡ take 81 (take b.len b.bytes ++ (x ∷ []))
full_held b x h full =
    let fits : length (take b.len b.bytes) ≡ b.len = length-take-le b.len b.bytes (omega (arith, h.long, h.short)) in
    sym (take_at (take b.len b.bytes) (x ∷ []) 81 (omega (arith, h.short)))

-- a text more, of n bytes, where m is the same number
pub text_blank : (b : Inside) (xs : List ℕ) (n m : ℕ) → Blank b → length xs ≡ n → n ≡ m → b.len + m ≤ 81 → Blank (record { bytes = put_mid b.len n b.bytes xs; len = b.len + m })
text_blank b xs n m h e same room =
    let back = drop n (drop b.len b.bytes) in
    let fits : length (take b.len b.bytes) ≡ b.len = length-take-le b.len b.bytes (omega (arith, h.long)) in
    let rest : length (drop n (drop b.len b.bytes)) ≡ 81 - b.len - n = length-drop n (drop b.len b.bytes) ∙ ap (λ k. k - n) (length-drop b.len b.bytes ∙ ap (λ k. k - b.len) h.long) in
    record {
      long = length-append (take b.len b.bytes) (xs ++ back) ∙ omega (arith, length-append xs back);
      short = room;
      zeros = drop-put_mid b.len n b.bytes xs (b.len + m) (omega arith) (omega (arith, h.long)) e ∙ zeros_behind b m h;
    }

-- a number more, digit by digit
take_cut : (k : ℕ) (xs ys : List ℕ) → take k (take k xs ++ ys) ≡ take k (xs ++ ys)
take_cut zero xs ys = refl
take_cut (suc k) [] ys = refl
take_cut (suc k) (x ∷ xs) ys = ap (λ zs. x ∷ zs) (take_cut k xs ys)

pub digit_held : (xs : List ℕ) (n : ℕ) → n < 10 → take 81 (xs ++ ((48 + n % 10) ∷ [])) ≡ take 81 (xs ++ decimal n)
digit_held xs n h =
    let e : n % 10 ≡ n = omega arith in
    ap (λ ds. take 81 (xs ++ ds)) (ap (λ k. (48 + k) ∷ []) e ∙ sym (decimal_digit n h))

pub number_held : (xs : List ℕ) (n : ℕ) → 10 ≤ n → n < 2 ^ 64 → take 81 (take 81 (xs ++ decimal (n / 10)) ++ ((48 + n % 10) ∷ [])) ≡ take 81 (xs ++ decimal n)
number_held xs n h k =
    take_cut 81 (xs ++ decimal (n / 10)) ((48 + n % 10) ∷ [])
    ∙ ap (take 81) (append_assoc xs (decimal (n / 10)) ((48 + n % 10) ∷ []))
    ∙ ap (λ ds. take 81 (xs ++ ds)) (sym (decimal_step n h k))

-- a number of 64 bits has at most 20 digits
pub digits_few : (n : ℕ) → n < 2 ^ 64 → length (decimal n) ≤ 20
digits_few n h = length-decimal-le 20 n (omega arith) (omega arith) h
