use Rattle.reading.proofs.Taking.{variable_wanted}
use Rattle.reading.proofs.tokens.variable.Goals as goal

pub returns : goal.returns
returns c = rw c.wanted.ensures (variable_wanted c.args.text.now c.args.pos c.token_at-found.result c.token_at-found.ensures.ahead c.token_at-found.ensures.forth c.requires c.as_variable.result _ c.as_variable.ensures)
