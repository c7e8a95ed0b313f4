use Rattle.std.proofs.Common.{◌≡◌, ℕ, ◌≤◌, min, take, ap, ◌∙◌, arith}
use Rattle.bits.specs.Rows.{halves}
use Rattle.bits.proofs.Extended.{length_front}
use Rattle.bits.proofs.Pairs.{length_halves, take_min}
use Rattle.net.proofs.Prefixes.{clear_padded, row_is}
use Rattle.net.proofs.prefix.Prefix.front_of.Goals as goal

short : (d m : ℕ) → m ≡ min d 128 → m ≤ 128
short d m e = omega arith

pub invariant_of-result : goal.invariant_of-result
invariant_of-result c = record {
  short = short c.args.d c.min-d.result c.min-d.ensures;
  fits = (omega arith, omega arith);
  clear = clear_padded _ _ c.min-d.result _ (length_front _ _ c.min-d.result (short c.args.d _ c.min-d.ensures)) c.front.ensures;
}

pub returns : goal.returns
returns c =
    row_is _ (take c.min-d.result (halves c.args.halves.first c.args.halves.second)) (length_front _ _ c.min-d.result (short c.args.d _ c.min-d.ensures)) c.front.ensures
    ∙ ap (λ k. take k (halves c.args.halves.first c.args.halves.second)) c.min-d.ensures
    ∙ take_min c.args.d 128 (halves c.args.halves.first c.args.halves.second) (omega (arith, length_halves c.args.halves.first c.args.halves.second))
