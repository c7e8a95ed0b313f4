-- A piece that is fed byte by byte, and the row that fills with replies. Assumes nothing.
use Rattle.std.proofs.Common.{◌≡◌, ℕ, ◌+◌, ◌-◌, ◌<◌, ◌≤◌, List, [], ◌∷◌, ◌++◌, length, get_or, take, drop, sym, ap, ◌∙◌, subst, append_assoc, arith, length-drop, drop-drop}
use lib.Seq.{take-append-add, drop-append-add}
use borrow.Rule.Slice.PartMut.{put_mid}
use Rattle.std.proofs.lemmas.List.{append-nil, drop_all, length-take-le, take_more, take_rest}
use Rattle.tree.specs.Ledger.{Given}
use Rattle.session.specs.Session.{Heard, Hearing}
use Rattle.session.proofs.Sessions.{heard_byte}

-- i bytes of the piece are taken, and n bytes of the row written: row before, now after; s before, t after
pub record FedSoFar (piece : List ℕ) (i n : ℕ) (row after : List ℕ) (s t : Hearing) : Type 0 where
  pub within : n ≤ length row
  pub start : i ≡ 0 → n ≡ 0
  pub rest : drop n after ≡ drop n row
  pub heard : (g : Given) (input output : List ℕ) → Heard g input output s
      → Heard g (input ++ take i piece) (output ++ take n after) t

-- a write to a row from place n on
module _ (n r : ℕ) (row part : List ℕ) (h : n ≤ length row) where
  long : length (take n row) ≡ n
  long = length-take-le n row h

  put_rest : put_mid n (length row - n) row part ≡ take n row ++ part
  put_rest =
      let all : length (drop n row) ≤ length row - n = omega (arith, length-drop n row) in
      ap (λ z. take n row ++ (part ++ z)) (drop_all (length row - n) (drop n row) all) ∙ ap (λ z. take n row ++ z) (append-nil part)

  put_front : take (n + r) (put_mid n (length row - n) row part) ≡ take n row ++ take r part
  put_front = ap (take (n + r)) put_rest ∙ ap (λ k. take (k + r) (take n row ++ part)) (sym long) ∙ take-append-add (take n row) part r

  put_behind : drop (n + r) (put_mid n (length row - n) row part) ≡ drop r part
  put_behind = ap (drop (n + r)) put_rest ∙ ap (λ k. drop (k + r) (take n row ++ part)) (sym long) ∙ drop-append-add (take n row) part r

module _ (piece : List ℕ) (i n n' : ℕ) (row after after' : List ℕ) (s u t : Hearing) (h : i < length piece) where
  -- the input with one byte more of the piece
  one_more : (input : List ℕ) → (input ++ take i piece) ++ (get_or piece i 0 ∷ []) ≡ input ++ take (i + 1) piece
  one_more input = append_assoc input (take i piece) (get_or piece i 0 ∷ []) ∙ ap (λ z. input ++ z) (sym (take_more piece i 0 h))

  pub fed_byte : (get_or piece i 0 ≡ 10 → ⊥) → n' ≡ n → after' ≡ after → t.engine ≡ u.engine → t.line ≡ take 81 (u.line ++ (get_or piece i 0 ∷ []))
      → FedSoFar piece i n row after s u → FedSoFar piece (i + 1) n' row after' s t
  fed_byte other en ea engine line f = record {
    start = λ e. absurd (omega arith);
    within = subst (λ (k : ℕ). k ≤ length row) (sym en) f.within;
    rest = ap (λ k. drop k after') en ∙ ap (drop n) ea ∙ f.rest ∙ ap (λ k. drop k row) (sym en);
    heard = λ g input output k.
        subst (λ (z : List ℕ). Heard g z (output ++ take n' after') t) (one_more input)
        (subst (λ (o : List ℕ). Heard g ((input ++ take i piece) ++ (get_or piece i 0 ∷ [])) (output ++ o) t) (ap (take n) (sym ea) ∙ ap (λ m. take m after') (sym en))
        (heard_byte g (input ++ take i piece) (output ++ take n after) u t (get_or piece i 0) other engine line (f.heard g input output k)));
  }

  pub fed_line : (r : ℕ) (part : List ℕ) → get_or piece i 0 ≡ 10 → 40 ≤ length after - n → length after ≡ length row → n' ≡ n + r → after' ≡ put_mid n (length after - n) after part
      → r ≤ length (take (length after - n) (drop n after)) → drop r part ≡ drop r (take (length after - n) (drop n after))
      → ((g : Given) (input output : List ℕ) → 40 ≤ length (take (length after - n) (drop n after)) → Heard g input output u
      → Heard g (input ++ (10 ∷ [])) (output ++ take r part) t)
      → FedSoFar piece i n row after s u → FedSoFar piece (i + 1) n' row after' s t
  fed_line r part feed room same en ea within rest heard f =
      let left : length (take (length after - n) (drop n after)) ≡ length after - n = ap length (take_rest after n) ∙ length-drop n after in
      let inside : n ≤ length after = omega (arith, f.within) in
      let front : take n after ++ take r part ≡ take n' after' = sym (put_front n r after part inside) ∙ ap (take (n + r)) (sym ea) ∙ ap (λ k. take k after') (sym en) in
      record {
        start = λ e. absurd (omega arith);
        within = omega (arith, f.within);
        rest = ap (λ k. drop k after') en ∙ ap (drop (n + r)) ea ∙ put_behind n r after part inside ∙ rest ∙ ap (drop r) (take_rest after n) ∙ ap (drop r) f.rest ∙ drop-drop r n row ∙ ap (λ k. drop k row) (sym en);
        heard = λ g input output k.
            subst (λ (z : List ℕ). Heard g z (output ++ take n' after') t) (ap (λ b. (input ++ take i piece) ++ (b ∷ [])) (sym feed) ∙ one_more input)
            (subst (λ (o : List ℕ). Heard g ((input ++ take i piece) ++ (10 ∷ [])) o t) (append_assoc output (take n after) (take r part) ∙ ap (λ o. output ++ o) front)
            (heard g (input ++ take i piece) (output ++ take n after) (omega arith) (f.heard g input output k)));
      }
