use Rattle.std.proofs.Common.{rules}
use Rattle.runs.specs.Units.{way_in}
use Rattle.runs.proofs.unit.way_of.Goals as goal

pub returns : goal.returns
unfolding way_in
returns c = search rules
