use Rattle.engine.proofs.Wholes.{engine_whole}
use Rattle.engine.proofs.engine_whole.Goals as goal

pub returns : goal.returns
returns c = engine_whole
