use Rattle.std.proofs.Common.{is_some, sym, ap, ◌∙◌, subst}
use Rattle.listing.specs.Listing.{Reads}
use Rattle.listing.proofs.Lines.{more_commas, two_fields}
use Rattle.listing.proofs.prefix.Goals as goal

pub returns-then-is_some : goal.returns-then-is_some
returns-then-is_some c =
    more_commas c.args.line.now _ _ (rw c.in_ok-address.ensures.ok_part at c.split_once.ensures) (ap is_some (sym c.first.ensures.place) ∙ sym c.if-is_some.ensures)

pub returns : goal.returns
returns c =
    let parts = two_fields c.args.line.now _ _ (rw c.in_ok-address.ensures.ok_part at c.split_once.ensures) (ap is_some (sym c.first.ensures.place) ∙ sym c.if-is_some.ensures) in
    subst (λ x. Reads x c.two_fields.result) (sym parts) c.two_fields.ensures
