use Rattle.std.proofs.Common.{◌+◌, ◌∷◌, take, sym, ap, ◌∙◌}
use Rattle.std.proofs.lemmas.List.{take_rest}
use Rattle.text.specs.Fields.{parted}
use Rattle.text.proofs.Marks.{parted_at, parted_none}
use Rattle.text.proofs.split_once.Goals as goal

pub returns-in_err-end : goal.returns-in_err-end
returns-in_err-end c = rw c.from_residual.ensures (parted_none c.args.mark c.args.bytes.now (sym c.in_err-end.ensures.place))

pub returns : goal.returns
returns c =
    let bs = c.args.bytes.now in
    let end = c.in_ok-end.end in
    parted_at c.args.mark bs end (sym c.in_ok-end.ensures.place) ∙ ap (λ r. take end bs ∷ parted c.args.mark r) (sym (take_rest bs (end + 1)))
