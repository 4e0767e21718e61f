use Rattle.flows.proofs.seats_stand.Goals as goal
use Rattle.flows.proofs.Seats.{seats_stand}

pub returns : goal.returns
returns c = seats_stand
