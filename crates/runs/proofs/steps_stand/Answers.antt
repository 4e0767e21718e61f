use Rattle.runs.proofs.steps_stand.Goals as goal
use Rattle.runs.proofs.Ties.{quiet_alike, hears_at_once, steps_alike}
use Rattle.runs.proofs.Loops.{moves_on}

pub returns : goal.returns
returns c = record { quiet = quiet_alike; at_once = hears_at_once; steps = steps_alike; whole = moves_on }
