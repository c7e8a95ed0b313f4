use Rattle.std.proofs.Common.{◌≡◌, ◌<◌, ◌≤◌, false, ◌&&◌, length, take, sym, ap, ◌∙◌, arith}
use Rattle.std.proofs.lemmas.Bool.{le-leb, lt-leb}
use Rattle.bits.specs.Rows.{Bits, begins, same}
use Rattle.bits.proofs.Fronts.{begins_is}
use Rattle.net.specs.Prefix.{row_of}
use Rattle.net.proofs.Prefixes.{length_row}
use Rattle.net.proofs.prefix.Prefix.begins.Goals as goal

shorter : (p q : Bits) → length q < length p → false ≡ begins p q
shorter p q h = sym (begins_is p q ∙ ap (λ b. b && same p (take (length p) q)) (lt-leb (length p) (length q) h))

fronts : (p q : Bits) → length p ≤ length q → same p (take (length p) q) ≡ begins p q
fronts p q h = sym (begins_is p q ∙ ap (λ b. b && same p (take (length p) q)) (le-leb (length p) (length q) h))

pub returns-then-other-self : goal.returns-then-other-self
returns-then-other-self c =
    let h = c.if-other-self.true in
    shorter (row_of c.args.self.now) (row_of c.args.other.now) (omega (arith, length_row c.args.self.now, length_row c.args.other.now))

pub returns : goal.returns
returns c =
    let p = c.args.self.now in
    let q = c.args.other.now in
    let h = c.if-other-self.false in
    let cut : row_of c.front-front.result ≡ take (length (row_of p)) (row_of q) = c.front-front.ensures ∙ ap (λ k. take k (row_of q)) (sym (length_row p)) in
    c.eq.ensures ∙ ap (λ r. same (row_of p) r) cut ∙ fronts (row_of p) (row_of q) (omega (arith, length_row p, length_row q))
