use Rattle.reading.proofs.Taking.{number_wanted}
use Rattle.reading.proofs.tokens.number.Goals as goal

pub returns : goal.returns
returns c = rw c.wanted.ensures (number_wanted c.args.text.now c.args.pos c.token_at-found.result c.token_at-found.ensures.ahead c.token_at-found.ensures.forth c.requires c.as_number.result _ c.as_number.ensures)
