use Rattle.std.proofs.Common.{◌≡◌, ◌+◌, ◌-◌, length, ap, sym, ◌∙◌, arith}
use Rattle.std.proofs.lemmas.List.{length-take-le}
use Rattle.line.proofs.Held.{text_blank}
use Rattle.line.proofs.buffer.Buffer.text.Goals as goal

pub invariant_of-self : goal.invariant_of-self
invariant_of-self c =
    let held : length c.args.self.now ≡ c.self.inside.len = ap length (sym c.self.view_is) ∙ length-take-le c.self.inside.len c.self.inside.bytes (omega (arith, c.self.invariant.long, c.self.invariant.short)) in
    let n : (c.self.inside.len + length c.args.text.now) - c.self.inside.len ≡ length c.args.text.now = omega arith in
    text_blank c.self.inside c.copy_from_slice.new.self ((c.self.inside.len + length c.args.text.now) - c.self.inside.len) (length c.args.text.now) c.self.invariant
    (ap length c.copy_from_slice.ensures.after ∙ sym n) n (omega (arith, c.requires, held))
