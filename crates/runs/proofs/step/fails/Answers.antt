use Rattle.std.proofs.Common.{rules}
use Rattle.runs.specs.Steps.{fails_to}
use Rattle.runs.proofs.step.fails.Goals as goal

pub returns-in-Some : goal.returns-in-Some
unfolding fails_to
returns-in-Some c = search rules

pub returns-in-None : goal.returns-in-None
unfolding fails_to
returns-in-None c = search rules
