use Rattle.std.proofs.Common.{◌+◌, ◌*◌}
use Rattle.printing.proofs.+first.Given as goal

abbrev pub decreases-first_unit : goal.decreases-first_unit
decreases-first_unit l = 2 * l.root + 1

abbrev pub decreases-first_before : goal.decreases-first_before
decreases-first_before l = 2 * l.root
