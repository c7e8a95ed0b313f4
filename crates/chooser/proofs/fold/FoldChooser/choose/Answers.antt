use Rattle.std.proofs.Common.{◌≡◌, ◌+◌, ◌*◌, ◌/◌, ◌%◌, ◌^◌, ◌<◌, ap, ◌∙◌, arith}
use lib.Bits.{bit_xor, xor_lt}
use Rattle.chooser.specs.Fold.{rotated, multiplier, fold_bucket}
use Rattle.chooser.proofs.Rotations.{rotated_is, product_is}
use Rattle.net.proofs.Prefixes.{halves_are, length_row}
use Rattle.chooser.proofs.fold.FoldChooser.choose.Goals as goal

pub returns : goal.returns
unfolding fold_bucket
returns c =
    let p = c.args.prefix.now in
    let a = c.halves-first.result.first in
    let b = c.halves-first.result.second in
    let are = halves_are p a b (omega arith, omega arith) c.halves-first.ensures in
    let small : bit_xor a b < 2 ^ 64 = xor_lt 64 a b (omega arith) (omega arith) in
    let turned : c.rotate_left-turned.result ≡ rotated (16 * (c.args.attempt % 4)) (bit_xor p.halves.first p.halves.second) =
    c.rotate_left-turned.ensures ∙ rotated_is (16 * (c.args.attempt % 4)) (bit_xor a b) (omega arith) small
    ∙ ap (λ x. rotated (16 * (c.args.attempt % 4)) (bit_xor x b)) are.0
    ∙ ap (λ y. rotated (16 * (c.args.attempt % 4)) (bit_xor p.halves.first y)) are.1 in
    let long : c.from.result ≡ p.len = c.from.ensures ∙ c.len.ensures ∙ length_row p in
    ap (λ n. n / 2 ^ 56) (product_is (c.rotate_left-turned.result + c.from.result))
    ∙ ap (λ n. ((n + c.from.result) * multiplier) % 2 ^ 64 / 2 ^ 56) turned
    ∙ ap (λ n. ((rotated (16 * (c.args.attempt % 4)) (bit_xor p.halves.first p.halves.second) + n) * multiplier) % 2 ^ 64 / 2 ^ 56) long
