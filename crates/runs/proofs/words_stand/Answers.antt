use Rattle.runs.proofs.words_stand.Goals as goal
use Rattle.runs.proofs.Stands.{begins_alike}
use Rattle.runs.proofs.Whole.{stays_inside, runs_alike}

pub returns : goal.returns
returns c = record { begins = begins_alike; inside = stays_inside; runs = runs_alike }
