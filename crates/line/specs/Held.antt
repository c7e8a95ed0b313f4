-- What a buffer's fields keep: the bytes held lie in front, and zeros behind them. Assumes nothing.
--   Blank b         so the fields b are those of a buffer
--   fields_of xs    the fields of the buffer that holds xs
use Rattle.std.proofs.Common.{◌≡◌, ℕ, ◌-◌, ◌≤◌, List, ◌++◌, length, take, drop, replicate, sym, ap, ◌∙◌, arith}
use Rattle.std.proofs.lemmas.List.{take-append-drop, length-take-le}
use Rattle.line.specs.declared.buffer.Buffer.TheInside.{Inside}

pub record Blank (b : Inside) : Type 0 where
  pub long : length b.bytes ≡ 81
  pub short : b.len ≤ 81
  pub zeros : drop b.len b.bytes ≡ replicate (81 - b.len) 0

abbrev pub fields_of : List ℕ → Inside
fields_of xs = record { bytes = xs ++ replicate (81 - length xs) 0; len = length xs }

-- so what is held gives the fields back
pub given_back : (b : Inside) → Blank b → fields_of (take b.len b.bytes) ≡ b
given_back b h =
    let held : length (take b.len b.bytes) ≡ b.len = length-take-le b.len b.bytes (omega (arith, h.long, h.short)) in
    let whole : take b.len b.bytes ++ replicate (81 - length (take b.len b.bytes)) 0 ≡ b.bytes =
    ap (λ n. take b.len b.bytes ++ replicate (81 - n) 0) held ∙ ap (λ xs. take b.len b.bytes ++ xs) (sym h.zeros) ∙ take-append-drop b.len b.bytes in
    λ i. record { bytes = whole i; len = held i }
