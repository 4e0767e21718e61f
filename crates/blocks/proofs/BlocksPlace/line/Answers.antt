use Rattle.std.proofs.Common.{rules}
use Rattle.blocks.specs.Works.{line_in}
use Rattle.blocks.proofs.BlocksPlace.line.Goals as goal

pub returns : goal.returns
unfolding line_in
returns c = search rules
