use Rattle.std.proofs.Common.{◌≡◌, ◌%◌, [], ◌∷◌, sym, ap, ◌∙◌, arith}
use Rattle.chooser.specs.Fnv.{basis, bytes_of, fnv_bucket}
use Rattle.chooser.proofs.Hashes.{bytes_are, hashed_parts}
use Rattle.net.proofs.Prefixes.{halves_are, length_row}
use Rattle.chooser.proofs.fnv.FnvChooser.choose.Goals as goal

pub returns : goal.returns
unfolding fnv_bucket
returns c =
    let p = c.args.prefix.now in
    let h = c.halves-first.result in
    let are = halves_are p h.first h.second (omega arith, omega arith) c.halves-first.ensures in
    let firsts : c.to_be_bytes.result ≡ bytes_of 8 p.halves.first = c.to_be_bytes.ensures ∙ bytes_are h.first ∙ ap (bytes_of 8) are.0 in
    let seconds : c.to_be_bytes-2.result ≡ bytes_of 8 p.halves.second = c.to_be_bytes-2.ensures ∙ bytes_are h.second ∙ ap (bytes_of 8) are.1 in
    let long : c.len.result ≡ p.len = c.len.ensures ∙ length_row p in
    rw (c.hashed-hash-4.ensures, c.hashed-hash-3.ensures, c.hashed-hash-2.ensures, c.hashed-hash.ensures, firsts, seconds, long)
    (ap (λ n. n % 256) (sym (hashed_parts basis ((c.args.attempt % 4) ∷ []) (bytes_of 8 p.halves.first) (bytes_of 8 p.halves.second) (p.len ∷ []))))
