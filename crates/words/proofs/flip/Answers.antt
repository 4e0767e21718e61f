use Rattle.device.specs.Does.{d_end, d_store, d_push, d_fence}
use Rattle.words.proofs.flip.Goals as goal

-- no step is named here, so an operation that is left out or out of order is a fact that no search finds
pub returns-clause-did : goal.returns-clause-did
returns-clause-did g c = search (d_end, d_store, d_push, d_fence)
