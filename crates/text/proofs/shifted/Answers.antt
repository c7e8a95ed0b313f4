use Rattle.std.proofs.Common.{◌≡◌, ℕ, ◌+◌, ◌-◌, ◌*◌, ◌%◌, ◌^◌, ◌<◌, ◌≤◌, false, ◌++◌, length, replicate, ap, ◌∙◌, mod-eq_of_lt, arith}
use Rattle.std.proofs.lemmas.Nat.{shl_below}
use Rattle.bits.specs.Rows.{padded, word}
use Rattle.bits.proofs.Words.{length_word, word_shl, word_zeros}
use Rattle.text.proofs.shifted.Goals as goal

top : (x w : ℕ) → w ≤ 64 → x < 2 ^ w → word 64 ((x * 2 ^ (64 - w)) % 2 ^ 64) ≡ padded 64 (word w x)
top x w h s =
    let whole : w + (64 - w) ≡ 64 = omega arith in
    let fits : x * 2 ^ (64 - w) < 2 ^ 64 = rw whole at (shl_below x w (64 - w) s) in
    let zeros : 64 - w ≡ 64 - length (word w x) = ap (λ k. 64 - k) (let e = length_word w x in let f : w ≡ length (word w x) = omega arith in f) in
    ap (word 64) (mod-eq_of_lt fits) ∙ ap (λ k. word k (x * 2 ^ (64 - w))) (let back : 64 ≡ w + (64 - w) = omega arith in back)
    ∙ word_shl w (64 - w) x ∙ ap (λ k. word w x ++ replicate k false) zeros

pub returns-then-digits-eq0 : goal.returns-then-digits-eq0
unfolding word
returns-then-digits-eq0 c = rw c.if-digits-eq0.true (word_zeros 64 0)

pub returns-else-digits-eq0 : goal.returns-else-digits-eq0
returns-else-digits-eq0 c = top c.args.x (4 * c.args.digits) (let h = c.requires.few in omega arith) c.requires.small
