use Rattle.std.proofs.Common.{◌+◌, ◌-◌, ◌*◌, length}
use Rattle.plans.proofs.link.Draft.+parts.Given as goal

abbrev pub decreases-link_guard : goal.decreases-link_guard
decreases-link_guard g l = 3 * (length l.self.now.words.now - l.at)

abbrev pub decreases-link_if : goal.decreases-link_if
decreases-link_if g l = 3 * (length l.self.now.words.now - l.at)

abbrev pub decreases-link_part : goal.decreases-link_part
decreases-link_part g l = 3 * (length l.self.now.words.now - l.at) + 2

abbrev pub decreases-link_statement : goal.decreases-link_statement
decreases-link_statement g l = 3 * (length l.self.now.words.now - l.at) + 1

abbrev pub decreases-link_while : goal.decreases-link_while
decreases-link_while g l = 3 * (length l.self.now.words.now - l.at)
