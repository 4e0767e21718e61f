use Rattle.device.proofs.Costs.{costs_did}
use Rattle.device.proofs.costs_bound.Goals as goal

pub returns : goal.returns
returns g c w l s p f cost u v a d = costs_did cost d
