use Rattle.flows.proofs.good_kept_stands.Goals as goal
use Rattle.flows.proofs.Kept.{good_kept}

pub returns : goal.returns
returns c = good_kept
