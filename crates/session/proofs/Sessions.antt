-- What a session has heard, one byte after the other, to the end. Assumes nothing.
use Rattle.std.proofs.Common.{◌≡◌, ℕ, zero, suc, ◌≤◌, Result, Ok, Err, List, [], ◌∷◌, ◌++◌, length, take, drop, sym, refl, ap, ◌∙◌, subst, arith}
use Rattle.std.proofs.lemmas.List.{append-nil, take_at}
use Rattle.std.specs.Result.{result_unwrap_or}
use Rattle.refusal.specs.declared.Refusal.{Refusal}
use Rattle.tree.specs.Ledger as l
use Rattle.engine.specs.Serves.{Ran}
use Rattle.engine.specs.State.{State}
use Rattle.text.specs.Fields.{parted}
use Rattle.text.specs.Lines.{lines}
use Rattle.line.specs.Line.{read_line}
use Rattle.line.specs.Reply.{written}
use Rattle.line.specs.Told.{line_calls, reading_turn, replies, reply_to, Replied, RowKept, Told}
use Rattle.line.proofs.Telling.{one_line_more, replies_join, front_read}
use Rattle.session.specs.Session.{ended, unended, Heard, Hearing, Over}
use Rattle.session.proofs.Streams.{ended_other, unended_other, ended_feed, unended_feed, lines_ended, lines_unended}

-- what is kept of a front is kept of the whole
take_front : (n : ℕ) (u v : List ℕ) → take n (take n u ++ v) ≡ take n (u ++ v)
take_front zero u v = refl
take_front (suc n) [] v = refl
take_front (suc n) (x ∷ u) v = ap (λ z. x ∷ z) (take_front n u v)

none_kept : (u : List ℕ) → take 81 u ≡ [] → u ≡ []
none_kept [] e = refl
none_kept (x ∷ u) e = absurd (let z : ◌≡◌ {A = ℕ} 0 1 = cc in omega arith)

-- of what an answer's row says, the number of bytes, and none where the row is refused
pub row_told : (r : Result ℕ Refusal) (n : ℕ) (before after : List ℕ) → n ≡ result_unwrap_or r 0 → RowKept before after r → (n ≤ length before) × (drop n after ≡ drop n before)
row_told (Ok k) n before after e row = subst (λ (m : ℕ). (m ≤ length before) × (drop m after ≡ drop m before)) (sym e) (row.1, row.2)
row_told (Err why) n before after e row = subst (λ (m : ℕ). (m ≤ length before) × (drop m after ≡ drop m before)) (sym e) (omega arith, row.2)

pub reply_told : (r : Result ℕ Refusal) (n : ℕ) (bs before after : List ℕ) → n ≡ result_unwrap_or r 0 → Replied bs before after r → (n ≡ length bs) × (after ≡ bs ++ drop n before)
reply_told (Ok k) n bs before after e reply = subst (λ (m : ℕ). (m ≡ length bs) × (after ≡ bs ++ drop m before)) (sym e) reply
reply_told (Err why) n bs before after e reply = absurd reply

module _ (g : l.Given) where
  pub heard_starts : (s : Hearing) → Ran g [] [] s.engine → s.line ≡ [] → Heard g [] [] s
  unfolding parted
  heard_starts s r e = record { given = refl; told = r; kept = e }

  -- a byte that is no line feed
  pub heard_byte : (input output : List ℕ) (s t : Hearing) (b : ℕ) → (b ≡ 10 → ⊥) → t.engine ≡ s.engine → t.line ≡ take 81 (s.line ++ (b ∷ []))
      → Heard g input output s → Heard g (input ++ (b ∷ [])) output t
  heard_byte input output s t b n same more h = record {
    given = h.given ∙ ap (replies g []) (sym (ended_other input b n));
    told = subst (λ (ls : List (List ℕ)). Told g ls t.engine) (sym (ended_other input b n))
        (subst (λ (e : State). Told g (ended input) e) (sym same) h.told);
    kept = more ∙ ap (λ u. take 81 (u ++ (b ∷ []))) h.kept ∙ take_front 81 (unended input) (b ∷ []) ∙ ap (take 81) (sym (unended_other input b n));
  }

  -- a line feed: of the line that it ends, what was kept reads as the whole
  pub heard_line : (input output : List ℕ) (s t : Hearing) (line before after : List ℕ) (n : ℕ) → line ≡ s.line
      → Told g (ended input ++ (line ∷ [])) t.engine → n ≡ length (reply_to g (ended input) line) → after ≡ reply_to g (ended input) line ++ drop n before
      → t.line ≡ [] → Heard g input output s → Heard g (input ++ (10 ∷ [])) (output ++ take n after) t
  heard_line input output s t line before after n is told long wrote none h =
      let reads : read_line g.width line ≡ read_line g.width (unended input) = ap (read_line g.width) (is ∙ h.kept) ∙ front_read g.width (unended input) in
      let calls : line_calls g.width (ended input ++ (line ∷ [])) ≡ line_calls g.width (ended (input ++ (10 ∷ []))) =
      one_line_more g.width (ended input) line (read_line g.width (unended input)) reads ∙ sym (one_line_more g.width (ended input) (unended input) (read_line g.width (unended input)) refl)
      ∙ ap (line_calls g.width) (sym (ended_feed input)) in
      let reply : reply_to g (ended input) line ≡ reply_to g (ended input) (unended input) =
      ap (λ x. written (reading_turn g (l.after_calls g [] (line_calls g.width (ended input))) x).1) reads in
      let front : take n after ≡ reply_to g (ended input) (unended input) = ap (take n) wrote ∙ take_at (reply_to g (ended input) line) (drop n before) n (sym long) ∙ reply in
      record {
        given = ap (λ z. output ++ z) front ∙ ap (λ z. z ++ reply_to g (ended input) (unended input)) h.given ∙ sym (replies_join g [] (ended input) (unended input)) ∙ ap (replies g []) (sym (ended_feed input));
        told = subst (λ (cs : List l.Call). Ran g cs (l.answers g [] cs) t.engine) calls told;
        kept = none ∙ ap (take 81) (sym (unended_feed input));
      }

  -- the end, right behind a line feed or at the beginning
  pub over_ended : (input output : List ℕ) (s : Hearing) → s.line ≡ [] → Heard g input output s
      → Over g input (output ++ []) s
  over_ended input output s e h =
      let all : lines input ≡ ended input = lines_ended input (none_kept (unended input) (sym h.kept ∙ e)) in
      record {
        given = append-nil output ∙ h.given ∙ ap (replies g []) (sym all);
        told = subst (λ (ls : List (List ℕ)). Told g ls s.engine) (sym all) h.told;
        kept = e;
      }

  -- the end ends a line
  pub over_line : (input output : List ℕ) (s t : Hearing) (more : List ℕ) → (s.line ≡ [] → ⊥) → Heard g input output s
      → Heard g (input ++ (10 ∷ [])) (output ++ more) t → Over g input (output ++ more) t
  over_line input output s t more some h k =
      let all : lines input ≡ ended (input ++ (10 ∷ [])) = lines_unended input (λ e. some (h.kept ∙ ap (take 81) e)) ∙ sym (ended_feed input) in
      record {
        given = k.given ∙ ap (replies g []) (sym all);
        told = subst (λ (ls : List (List ℕ)). Told g ls t.engine) (sym all) k.told;
        kept = k.kept ∙ ap (take 81) (unended_feed input);
      }
