use Rattle.std.proofs.Common.{◌+◌, ◌*◌}
use Rattle.printing.proofs.+exprs.Given as goal

abbrev pub decreases-print_expr : goal.decreases-print_expr
decreases-print_expr l = 2 * l.root + 1

abbrev pub decreases-print_not : goal.decreases-print_not
decreases-print_not l = 2 * l.root

abbrev pub decreases-print_operation : goal.decreases-print_operation
decreases-print_operation l = 2 * l.root
