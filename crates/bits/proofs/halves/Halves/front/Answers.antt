use Rattle.std.proofs.Common.{take, ap, ◌∙◌}
use Rattle.bits.specs.Rows.{padded, word}
use Rattle.bits.proofs.Pairs.{halves_kept}
use Rattle.bits.proofs.halves.Halves.front.Goals as goal

pub returns : goal.returns
returns c =
    halves_kept c.args.self.first c.args.self.second c.kept.result c.kept-2.result c.args.d c.kept.ensures
    (c.kept-2.ensures ∙ ap (λ n. padded 64 (take n (word 64 c.args.self.second))) c.saturating_sub.ensures)
