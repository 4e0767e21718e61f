use Rattle.std.proofs.Common.{◌≡◌, ◌-◌, ◌≤◌, [], length, drop}
use Rattle.plans.specs.Eval.{run_e, tops}
use Rattle.plans.proofs.eval.run.Given as goal

abbrev pub invariant-loop-left : goal.invariant-loop-left
invariant-loop-left l =
    (l.count ≤ length l.initial.stack)
    × (length l.left ≤ length l.code)
    × (run_e (length l.initial.stack) l.vars l.left (length l.code - length l.left) (tops l.stack l.count) ≡ run_e (length l.initial.stack) l.vars (drop l.at l.code) l.at [])

abbrev pub decreases-loop-left : goal.decreases-loop-left
decreases-loop-left l = length l.left
