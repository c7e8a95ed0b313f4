use Rattle.std.proofs.Common.{[], ◌∷◌, ◌++◌, take, ap, sym, ◌∙◌}
use Rattle.line.proofs.Held.{byte_blank, byte_held, full_held}
use Rattle.line.proofs.buffer.Buffer.push.Goals as goal

pub invariant_of-self : goal.invariant_of-self
invariant_of-self c = byte_blank c.self.inside c.args.b c.self.invariant c.if-self-lt-MOST_HELD.true

pub returns-then-self-lt-MOST_HELD : goal.returns-then-self-lt-MOST_HELD
returns-then-self-lt-MOST_HELD c = byte_held c.self.inside c.args.b c.self.invariant c.if-self-lt-MOST_HELD.true ∙ ap (λ xs. take 81 (xs ++ (c.args.b ∷ []))) c.self.view_is

pub returns-else-self-lt-MOST_HELD : goal.returns-else-self-lt-MOST_HELD
returns-else-self-lt-MOST_HELD c = sym c.self.view_is ∙ full_held c.self.inside c.args.b c.self.invariant c.if-self-lt-MOST_HELD.false ∙ ap (λ xs. take 81 (xs ++ (c.args.b ∷ []))) c.self.view_is
