use Rattle.flows.proofs.tasks_bounded_stands.Goals as goal
use Rattle.flows.proofs.Kept.{tasks_bounded}

pub returns : goal.returns
returns c = tasks_bounded
