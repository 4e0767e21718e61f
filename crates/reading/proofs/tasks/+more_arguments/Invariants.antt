use Rattle.std.proofs.Common.{◌-◌, length}
use Rattle.reading.proofs.tasks.+more_arguments.Given as goal

abbrev pub decreases-more_arguments : goal.decreases-more_arguments
decreases-more_arguments l = length l.text.now - l.at.pos
