use Rattle.std.proofs.Common.{◌≡◌, ℕ, ◌+◌, ◌<◌, ◌≤◌, Bool, [], ◌∷◌, ◌++◌, length, take, ap, ◌∙◌, arith}
use Rattle.std.proofs.lemmas.List.{length_push}
use Rattle.bits.specs.Rows.{halves, padded}
use Rattle.net.specs.Prefix.{row_of}
use Rattle.net.specs.declared.prefix.Prefix.{Prefix}
use Rattle.net.proofs.Prefixes.{length_row, clear_padded, row_is}
use Rattle.net.proofs.prefix.Prefix.child.Goals as goal

longer : (p : Prefix) (one : Bool) → length (row_of p ++ (one ∷ [])) ≡ p.len + 1
longer p one = length_push (row_of p) one ∙ ap (λ n. n + 1) (length_row p)

filled : (p : Prefix) (one : Bool) (x y : ℕ) → halves x y ≡ padded 128 (take p.len (halves p.halves.first p.halves.second) ++ (one ∷ [])) → halves x y ≡ padded 128 (row_of p ++ (one ∷ []))
unfolding row_of
filled p one x y e = e

room : {n : ℕ} → n ≤ 128 → (n ≡ 128 → ⊥) → n < 128
room h k = omega arith

pub returns-then-self : goal.returns-then-self
returns-then-self c = length_row c.args.self.now ∙ c.if-self.true

pub invariant_of-result : goal.invariant_of-result
invariant_of-result c = record {
  short = let s = c.args.self.now.short in let n = c.if-self.false in omega arith;
  fits = (omega arith, omega arith);
  clear = clear_padded _ _ _ (row_of c.args.self.now ++ (c.args.one ∷ [])) (longer _ _) (filled _ _ _ _ (c.extended.ensures.room (room c.args.self.now.short c.if-self.false)));
}

pub returns : goal.returns
returns c = row_is _ (row_of c.args.self.now ++ (c.args.one ∷ [])) (longer _ _) (filled _ _ _ _ (c.extended.ensures.room (room c.args.self.now.short c.if-self.false)))
