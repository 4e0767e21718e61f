use Rattle.std.proofs.Common.{◌+◌, ◌-◌, ◌*◌, length}
use Rattle.reading.proofs.stmts.+parts.Given as goal

abbrev pub decreases-part : goal.decreases-part
decreases-part l = 8 * (length l.text.now - l.at.pos) + 1

abbrev pub decreases-statement : goal.decreases-statement
decreases-statement l = 8 * (length l.text.now - l.found.next) + 6

abbrev pub decreases-fork : goal.decreases-fork
decreases-fork l = 8 * (length l.text.now - l.at.pos) + 5

abbrev pub decreases-turning : goal.decreases-turning
decreases-turning l = 8 * (length l.text.now - l.at.pos) + 5

abbrev pub decreases-guarded : goal.decreases-guarded
decreases-guarded l = 8 * (length l.text.now - l.at.pos) + 5

abbrev pub decreases-other : goal.decreases-other
decreases-other l = 8 * (length l.text.now - l.at.pos) + 4

abbrev pub decreases-opened : goal.decreases-opened
decreases-opened l = 8 * (length l.text.now - l.at.pos) + 3
