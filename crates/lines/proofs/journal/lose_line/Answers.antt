use Rattle.std.proofs.Common.{refl, ap}
use Rattle.lines.proofs.Parts.{set_part, keep_part}
use Rattle.lines.proofs.journal.lose_line.Goals as goal

pub returns-in-Some-clause-counts : goal.returns-in-Some-clause-counts
returns-in-Some-clause-counts c = set_part (λ x. x.count) c.args.lines.now.items c.args.line _ 0 refl

pub returns-in-Some-clause-pushed : goal.returns-in-Some-clause-pushed
returns-in-Some-clause-pushed c = keep_part (λ x. x.pushed) c.args.lines.now.items c.args.line _ c.in-Some.stores.now (ap (λ x. x.pushed) c.in-Some.ensures.value)
