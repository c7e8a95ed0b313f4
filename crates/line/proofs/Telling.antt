-- An engine that is told one line more, and what is written to it. Assumes nothing.
use Rattle.std.proofs.Common.{◌≡◌, ℕ, ◌%◌, ◌<◌, ◌≤◌, min, Bool, true, false, cond, eqb, leb, List, [], ◌∷◌, ◌++◌, length, take, drop, Some, None, Option, sym, refl, ap, ◌∙◌, subst, append_assoc, arith}
use Rattle.std.proofs.lemmas.List.{append-nil, take_all, drop_at, length-take-le}
use Rattle.std.proofs.lemmas.Bool.{leb-true, leb-false, lt-ltb}
use Rattle.refusal.specs.declared.Refusal.{Refusal}
use Rattle.refusal.specs.declared.Refusal.TheVariants.{Line}
use Rattle.text.specs.Fields.{fields}
use Rattle.command.specs.Command.{command_of, commanded, placed}
use Rattle.tree.specs.Tree.{Routes}
use Rattle.tree.specs.Ledger as l
use Rattle.tree.specs.LedgerLaws.{Sound}
use Rattle.tree.proofs.Runs.{after_join, answers_join}
use Rattle.engine.specs.Serves.{Ran}
use Rattle.engine.specs.State.{State}
use Rattle.line.specs.Line.{Reading, call, bad, read_line, understood}
use Rattle.line.specs.Told.{calls_in, line_calls, reading_turn, line_turn, replies, Told}
use Rattle.line.specs.Reply.{written}
use Rattle.line.proofs.Replies.{Counted}

pub line_calls_join : (W : ℕ) (xs ys : List (List ℕ)) → line_calls W (xs ++ ys) ≡ line_calls W xs ++ line_calls W ys
line_calls_join W [] ys = refl
line_calls_join W (x ∷ xs) ys = ap (λ z. calls_in (read_line W x) ++ z) (line_calls_join W xs ys) ∙ sym (append_assoc (calls_in (read_line W x)) (line_calls W xs) (line_calls W ys))

-- the calls of one line more
pub one_line_more : (W : ℕ) (ls : List (List ℕ)) (bs : List ℕ) (x : Reading) → read_line W bs ≡ x → line_calls W (ls ++ (bs ∷ [])) ≡ line_calls W ls ++ calls_in x
one_line_more W ls bs x e = line_calls_join W ls (bs ∷ []) ∙ ap (λ z. line_calls W ls ++ z) (append-nil (calls_in (read_line W bs)) ∙ ap calls_in e)

last_same : {A : Type 0} (xs : List A) (a b : A) → xs ++ (a ∷ []) ≡ xs ++ (b ∷ []) → a ≡ b
last_same [] a b e = cc
last_same (x ∷ xs) a b e = let f : xs ++ (a ∷ []) ≡ xs ++ (b ∷ []) = cc in last_same xs a b f

module _ (g : l.Given) (ls : List (List ℕ)) (bs : List ℕ) where
  pub tells_call : (c : l.Call) (x : l.Answer) (f : State) → read_line g.width bs ≡ call c
      → Ran g (line_calls g.width ls ++ (c ∷ [])) (l.answers g [] (line_calls g.width ls) ++ (x ∷ [])) f
      → Told g (ls ++ (bs ∷ [])) f × ((line_turn g (l.after_calls g [] (line_calls g.width ls)) bs).1 ≡ x)
  tells_call c x f e r =
      let joined = answers_join g [] (line_calls g.width ls) (c ∷ []) in
      let same : (l.turn g (l.after_calls g [] (line_calls g.width ls)) c).1 ≡ x =
      last_same (l.answers g [] (line_calls g.width ls)) (l.turn g (l.after_calls g [] (line_calls g.width ls)) c).1 x (sym joined ∙ sym r.law.answered) in (
        subst (λ (cs : List l.Call). Ran g cs (l.answers g [] cs) f) (sym (one_line_more g.width ls bs (call c) e))
            (subst (λ (xs : List l.Answer). Ran g (line_calls g.width ls ++ (c ∷ [])) xs f) r.law.answered r),
        ap (λ y. (reading_turn g (l.after_calls g [] (line_calls g.width ls)) y).1) e ∙ same,
      )

  pub tells_bad : (why : Refusal) (f : State) → read_line g.width bs ≡ bad why → Told g ls f
      → Told g (ls ++ (bs ∷ [])) f × ((line_turn g (l.after_calls g [] (line_calls g.width ls)) bs).1 ≡ l.refused why)
  tells_bad why f e t = (
    subst (λ (cs : List l.Call). Ran g cs (l.answers g [] cs) f) (sym (one_line_more g.width ls bs (bad why) e ∙ append-nil (line_calls g.width ls))) t,
    ap (λ y. (reading_turn g (l.after_calls g [] (line_calls g.width ls)) y).1) e,
  )

-- the numbers that a count tells are those of stores and of the vertices' slots
module _ (g : l.Given) (rs : Routes) (sound : Sound g rs) (routes : g.route_limit ≤ 16777216) (leaves : g.leaf_limit ≤ 16777216) where
  decided_counted : (o : Option Refusal) (a b : Routes) → Counted (l.decided o a b).1
  decided_counted None a b = tt
  decided_counted (Some why) a b = tt

  looked_counted : (o : Option ℕ) → Counted (l.looked o)
  looked_counted None = tt
  looked_counted (Some h) = tt

  pub counted_reading : (x : Reading) → Counted (reading_turn g rs x).1
  counted_reading (call (l.announce a n h)) = decided_counted _ _ _
  counted_reading (call (l.withdraw a n)) = decided_counted _ _ _
  counted_reading (call (l.lookup a)) = looked_counted _
  counted_reading (call l.count) = record { few_routes = omega (arith, sound.routes_fit); few_leaves = omega (arith, sound.leaves_fit); few_vertices = sound.vertices_fit }
  counted_reading (bad why) = tt

pub counted_line : (g : l.Given) (ls : List (List ℕ)) (bs : List ℕ) (e : State)
    → Told g ls e → Counted (line_turn g (l.after_calls g [] (line_calls g.width ls)) bs).1
counted_line g ls bs e t =
    let stored = t.serves.stored in
    let routes : g.route_limit ≤ 16777216 = omega (arith, stored.routes_limit, stored.routes_sound.most) in
    let leaves : g.leaf_limit ≤ 16777216 = omega (arith, stored.leaves_limit, stored.leaves_sound.most) in
    counted_reading g (l.after_calls g [] (line_calls g.width ls)) t.serves.ledger routes leaves (read_line g.width bs)

-- a reply that fits is written whole
pub replied : (bs shown row after : List ℕ) (n : ℕ) → shown ≡ bs → length bs ≤ 40 → 40 ≤ length row → n ≡ min (length shown) (length row) → after ≡ take n shown ++ drop n row
    → (n ≡ length bs) × (after ≡ bs ++ drop n row)
replied bs shown row after n e short room m w =
    let long : length shown ≡ length bs = ap length e in
    let all : length shown ≤ n = omega arith in
    (omega arith, w ∙ ap (λ z. z ++ drop n row) (take_all n shown all ∙ e))

-- and else the row is as it was
pub row_kept : (shown row after : List ℕ) (n : ℕ) → 40 ≤ length row → n ≡ min (length shown) (length row) → after ≡ take n shown ++ drop n row → (40 ≤ length row) × (n ≤ length row) × (drop n after ≡ drop n row)
row_kept shown row after n room m w =
    let long : length (take n shown) ≡ n = length-take-le n shown (omega arith) in
    (room, omega arith, ap (drop n) w ∙ drop_at (take n shown) (drop n row) n long)

-- what is written to one line more
after_reading : (g : l.Given) (rs : Routes) (x : Reading) → l.after_calls g rs (calls_in x) ≡ (reading_turn g rs x).0
after_reading g rs (call c) = refl
after_reading g rs (bad why) = refl

pub replies_join : (g : l.Given) (rs : Routes) (ls : List (List ℕ)) (bs : List ℕ)
    → replies g rs (ls ++ (bs ∷ [])) ≡ replies g rs ls ++ written (line_turn g (l.after_calls g rs (line_calls g.width ls)) bs).1
replies_join g rs [] bs = append-nil (written (line_turn g rs bs).1)
replies_join g rs (x ∷ ls) bs =
    ap (λ z. written (line_turn g rs x).1 ++ z) (replies_join g (line_turn g rs x).0 ls bs)
    ∙ sym (append_assoc (written (line_turn g rs x).1) (replies g (line_turn g rs x).0 ls) (written (line_turn g (l.after_calls g (line_turn g rs x).0 (line_calls g.width ls)) bs).1))
    ∙ ap (λ qs. (written (line_turn g rs x).1 ++ replies g (line_turn g rs x).0 ls) ++ written (line_turn g qs bs).1)
    (ap (λ qs. l.after_calls g qs (line_calls g.width ls)) (sym (after_reading g rs (read_line g.width x))) ∙ sym (after_join g rs (calls_in (read_line g.width x)) (line_calls g.width ls)))

-- of a line that is too long to be a command, 81 bytes tell as much as all
pub front_read : (W : ℕ) (bs : List ℕ) → read_line W (take 81 bs) ≡ read_line W bs
front_read W bs = ap (λ o. cond (eqb (W % 4) 0) (understood W o) (bad Line)) (go (leb (length bs) 80) refl)
  where
    go : (t : Bool) → leb (length bs) 80 ≡ t → command_of (take 81 bs) ≡ command_of bs
    go true e = let short : length bs ≤ 80 = leb-true (length bs) 80 e in ap command_of (take_all 81 bs (omega arith))
    go false e =
        let long : 80 < length bs = leb-false (length bs) 80 e in
        let cut : length (take 81 bs) ≡ 81 = length-take-le 81 bs (omega arith) in
        ap (λ t. cond t None (commanded (placed 1 (fields (take 81 bs))))) (lt-ltb 80 (length (take 81 bs)) (omega arith)) ∙ sym (ap (λ t. cond t None (commanded (placed 1 (fields bs)))) (lt-ltb 80 (length bs) long))
