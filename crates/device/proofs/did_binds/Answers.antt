use Rattle.device.proofs.Did.{did_bind}
use Rattle.device.proofs.did_binds.Goals as goal

pub returns : goal.returns
returns g c w k s t u a b d e = did_bind k d e
