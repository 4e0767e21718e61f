use Rattle.std.proofs.Common.{rules, ◌≡◌, sym, Some, None, nat_lt, if◌then◌else◌}
use Rattle.std.specs.Option.{MatchOption}
use Rattle.text.proofs.Words.{variable_none, variable_is}
use Rattle.text.proofs.variable_of.Goals as goal

pub returns-then-not-begins_variable-clause-same : goal.returns-then-not-begins_variable-clause-same
returns-then-not-begins_variable-clause-same c = variable_none c.args.w.now (sym c.if-not-begins_variable.ensures)

pub returns-clause-same : goal.returns-clause-same
returns-clause-same c =
    let below : MatchOption c.number_of.result (c.filter.result ≡ None) (λ n. c.filter.result ≡ (if nat_lt n 64 then Some n else None)) = search rules in
    variable_is c.args.w.now _ _ (sym c.if-not-begins_variable.ensures) c.number_of.ensures below
