use Rattle.device.proofs.Did.{did_ties}
use Rattle.device.proofs.work_ties.Goals as goal

pub returns : goal.returns
returns g c w s t a m d h = did_ties g.met.D.Coherent.coheres d m h
