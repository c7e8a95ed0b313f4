use Rattle.std.proofs.Common.{◌≡◌, ℕ, min, take, sym, ap, ◌∙◌}
use Rattle.bits.specs.Rows.{halves}
use Rattle.net.specs.Prefix.{row_of}
use Rattle.net.specs.declared.prefix.Prefix.{Prefix}
use Rattle.bits.proofs.Pairs.{take_both}
use Rattle.net.proofs.prefix.Prefix.front.Goals as goal

cut : (p : Prefix) (d m : ℕ) → m ≡ min d p.len → take m (halves p.halves.first p.halves.second) ≡ take d (row_of p)
unfolding row_of
cut p d m e = ap (λ k. take k (halves p.halves.first p.halves.second)) e ∙ sym (take_both d p.len (halves p.halves.first p.halves.second))

pub returns : goal.returns
returns c = c.front_of.ensures ∙ cut c.args.self.now c.args.d c.min.result c.min.ensures
