use Rattle.text.proofs.same_plans_stands.Goals as goal
use Rattle.text.proofs.Agree.{same_plans}

pub returns : goal.returns
returns c = same_plans
