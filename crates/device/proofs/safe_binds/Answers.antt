use Rattle.device.proofs.Safe.{safe_bind}
use Rattle.device.proofs.safe_binds.Goals as goal

pub returns : goal.returns
returns g c N w k m h = safe_bind k h
