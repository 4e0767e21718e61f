use Rattle.std.proofs.Common.{rules, ◌≡◌, true, ◌↔◌}
use Rattle.text.specs.declared.Token.TheVariants as is
use Rattle.reading.proofs.Taking.{name_wanted}
use Rattle.reading.proofs.tokens.name.Goals as goal

pub returns : goal.returns
returns c =
    let named : (c.eq-is_name.result ≡ true) ↔ (c.token_at-found.result.token ≡ is.Name) = search rules in
    rw (c.wanted.ensures, c.then_some.ensures) (name_wanted c.args.text.now c.args.pos c.token_at-found.result c.token_at-found.ensures.ahead c.token_at-found.ensures.forth c.requires c.eq-is_name.result _ named)
