use Rattle.device.proofs.Safe.{safe_means}
use Rattle.device.proofs.safe_means.Goals as goal

pub returns : goal.returns
returns g c = safe_means g.P.Claim.ends g.P.Claim.ever
