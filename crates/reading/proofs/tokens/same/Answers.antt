use Rattle.std.proofs.Common.{rules, ◌≡◌}
use Rattle.text.specs.declared.Token.TheVariants as is
use Rattle.text.specs.declared.Operator.TheVariants as by
use Rattle.reading.proofs.Taking.{same_took, same_refused}
use Rattle.reading.proofs.tokens.same.Goals as goal

pub returns-then-eq : goal.returns-then-eq
returns-then-eq c = same_took c.args.text.now c.args.pos c.token_at-found.result c.token_at-found.ensures.ahead c.token_at-found.ensures.forth c.requires (search rules)

pub returns-else-eq : goal.returns-else-eq
returns-else-eq c = let other : c.token_at-found.result.token ≡ is.Operator by.Same → ⊥ = λ e. search rules in same_refused c.args.text.now c.args.pos c.token_at-found.result c.token_at-found.ensures.ahead c.token_at-found.ensures.forth c.requires c.at.result other
