use Rattle.std.proofs.Common.{◌+◌, ◌*◌, get_or, sym, subst, arith}
use Rattle.text.proofs.Digits.{HexWritten, hex_none, hex_more, hex_bad, hex_all, hex_room, hex_digit_small}
use Rattle.text.proofs.hex_word.Goals as goal

pub loop-b-init : goal.loop-b-init
loop-b-init c = hex_none c.args.digits.now

pub returns-in_err-hex_value : goal.returns-in_err-hex_value
returns-in_err-hex_value c =
    rw c.from_residual.ensures (hex_bad c.args.digits.now c.loop-b.b-index c.loop-b.n c.loop-b-test.true (sym c.in_err-hex_value.ensures) c.loop-b.invariant)

pub overflow_mul-n : goal.overflow_mul-n
overflow_mul-n c = let r = hex_room c.args.digits.now c.loop-b.b-index c.loop-b.n (let t = c.loop-b-test.true in let s = c.requires in omega arith) c.loop-b.invariant in omega arith

pub overflow_add-n : goal.overflow_add-n
overflow_add-n c =
    let r = hex_room c.args.digits.now c.loop-b.b-index c.loop-b.n (let t = c.loop-b-test.true in let s = c.requires in omega arith) c.loop-b.invariant in
    let d = hex_digit_small (get_or c.args.digits.now c.loop-b.b-index 0) c.in_ok-hex_value.field-0 (sym c.in_ok-hex_value.ensures) in
    let e = c.from.ensures in
    omega arith

pub loop-b-preserved : goal.loop-b-preserved
loop-b-preserved c =
    subst (λ d. HexWritten c.args.digits.now (c.loop-b.b-index + 1) (c.loop-b.n * 16 + d)) (sym c.from.ensures)
    (hex_more c.args.digits.now c.loop-b.b-index c.loop-b.n c.in_ok-hex_value.field-0 c.loop-b-test.true (sym c.in_ok-hex_value.ensures) c.loop-b.invariant)

pub returns : goal.returns
returns c = hex_all c.args.digits.now c.loop-b.b-index c.loop-b.n (let t = c.loop-b-test.false in let k = c.loop-b.auto.b-index-end in omega arith) c.loop-b.invariant
