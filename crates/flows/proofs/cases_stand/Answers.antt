use Rattle.flows.proofs.cases_stand.Goals as goal
use Rattle.flows.proofs.Cases.{cases_stand}

pub returns : goal.returns
returns c = cases_stand
