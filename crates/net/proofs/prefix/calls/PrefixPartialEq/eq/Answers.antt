use Rattle.std.proofs.Common.{◌≡◌, ℕ, Bool, true, false, not, ◌&&◌, eqb, sym, refl, ◌∙◌, arith}
use Rattle.std.proofs.lemmas.Bool.{true≢false}
use Rattle.std.proofs.lemmas.Bool.Decides.{nat_tests}
use Rattle.net.proofs.Prefixes.{equal_by_row}
use Rattle.net.proofs.prefix.calls.PrefixPartialEq.eq.Goals as goal

differ : (a b : Bool) → true ≡ not a → false ≡ (a && b)
differ false b e = refl
differ true b e = absurd (true≢false e)

agree : (a b : Bool) → false ≡ not a → b ≡ (a && b)
agree true b e = refl
agree false b e = absurd (true≢false (sym e))

turned : (m n : ℕ) → eqb m n ≡ eqb n m
turned m n = grind (arith, nat_tests)

pub returns-then-ne : goal.returns-then-ne
returns-then-ne c = differ _ _ c.if-ne.ensures ∙ equal_by_row c.args.self.now c.args.other.now

pub returns : goal.returns
returns c = turned c.args.other.now.len c.args.self.now.len ∙ agree _ _ c.if-ne.ensures ∙ equal_by_row c.args.self.now c.args.other.now
