use Rattle.std.proofs.Common.{sym, refl, ◌∙◌, arith}
use Rattle.std.proofs.lemmas.Bool.{le-ltb}
use Rattle.net.proofs.Prefixes.{none_lost, some_lost}
use Rattle.net.proofs.prefix.Prefix.new.Goals as goal

pub returns-then-ne : goal.returns-then-ne
returns-then-ne c =
    let lost =
    some_lost c.front_of-made.result c.args.halves.first c.args.halves.second c.args.len (omega arith, omega arith) c.front_of-made.ensures c.if-len-gt-LONGEST.false
    (sym c.ne.ensures ∙ c.if-ne.true) in
    rw (le-ltb 128 c.args.len c.if-len-gt-LONGEST.false, lost) refl

pub returns : goal.returns
returns c =
    let kept =
    none_lost c.front_of-made.result c.args.halves.first c.args.halves.second c.args.len (omega arith, omega arith) c.front_of-made.ensures c.if-len-gt-LONGEST.false
    (sym c.ne.ensures ∙ c.if-ne.false) in
    (rw (le-ltb 128 c.args.len c.if-len-gt-LONGEST.false, kept) refl, c.front_of-made.ensures)
