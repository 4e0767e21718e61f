use Rattle.std.proofs.Common.{rules, ◌≡◌}
use Rattle.text.specs.declared.Token.TheVariants as is
use Rattle.reading.proofs.Taking.{key_took, key_refused}
use Rattle.reading.proofs.tokens.key.Goals as goal

pub returns-then-eq : goal.returns-then-eq
returns-then-eq c = key_took c.args.text.now c.args.pos c.token_at-found.result c.token_at-found.ensures.ahead c.token_at-found.ensures.forth c.requires c.args.want (search rules)

pub returns-else-eq : goal.returns-else-eq
returns-else-eq c = let other : c.token_at-found.result.token ≡ is.Key c.args.want → ⊥ = λ e. search rules in key_refused c.args.text.now c.args.pos c.token_at-found.result c.token_at-found.ensures.ahead c.token_at-found.ensures.forth c.requires c.args.want c.at.result other
