use Rattle.std.proofs.Common.{◌+◌, ◌-◌, ◌*◌, length}
use Rattle.reading.specs.Levels.{rank_of}
use Rattle.reading.proofs.exprs.+levels.Given as goal

abbrev pub decreases-chain : goal.decreases-chain
decreases-chain l = 8 * (length l.text.now - l.at.pos) + (rank_of l.level + 1)

abbrev pub decreases-more : goal.decreases-more
decreases-more l = 8 * (length l.text.now - l.at.pos)

abbrev pub decreases-unary : goal.decreases-unary
decreases-unary l = 8 * (length l.text.now - l.at.pos)

abbrev pub decreases-negation : goal.decreases-negation
decreases-negation l = 8 * (length l.text.now - l.at.pos) + 6

abbrev pub decreases-bracket : goal.decreases-bracket
decreases-bracket l = 8 * (length l.text.now - l.at.pos) + 6
