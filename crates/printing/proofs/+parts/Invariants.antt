use Rattle.std.proofs.Common.{◌≡◌, ℕ, ◌+◌, ◌-◌, ◌*◌, ◌≤◌, min, true, List, length, vec_items}
use Rattle.plans.specs.Plan.{Block, block_ok}
use Rattle.printing.specs.Heads.{PartAt}
use Rattle.printing.proofs.Parts.{Goes}
use Rattle.printing.proofs.+parts.Given as goal

abbrev pub decreases-print_braced : goal.decreases-print_braced
decreases-print_braced l = 4 * (length l.words.now - l.at) + 3

abbrev pub decreases-print_part : goal.decreases-print_part
decreases-print_part l = 4 * (length l.words.now - l.at) + 2

abbrev pub decreases-print_statement : goal.decreases-print_statement
decreases-print_statement l = 4 * (length l.words.now - l.at) + 1

abbrev pub decreases-print_if : goal.decreases-print_if
decreases-print_if l = 4 * (length l.words.now - l.at)

abbrev pub decreases-print_while : goal.decreases-print_while
decreases-print_while l = 4 * (length l.words.now - l.at)

abbrev pub decreases-print_guard : goal.decreases-print_guard
decreases-print_guard l = 4 * (length l.words.now - l.at)

abbrev pub invariant-print_part-loop-depth : goal.invariant-print_part-loop-depth
invariant-print_part-loop-depth l =
    (l.at ≤ l.here) × ((d : ℕ) (b : Block) (rest : List ℕ) → l.depth.parts ≡ min d 32 → PartAt l.words l.at b rest → block_ok b ≡ true → Goes l.words l.here d b rest (vec_items l.initial.out) (vec_items l.out))

abbrev pub decreases-print_part-loop-depth : goal.decreases-print_part-loop-depth
decreases-print_part-loop-depth l = length l.words - l.here
