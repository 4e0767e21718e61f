use Rattle.std.proofs.Common.{◌≡◌, ◌+◌, ◌++◌, take, drop}
use Rattle.plans.specs.Flat.{padded}
use Rattle.reading.proofs.tasks.write_name.Given as goal

abbrev pub invariant-loop-i : goal.invariant-loop-i
invariant-loop-i l = l.out ≡ take l.at l.initial.out ++ (take l.i (padded l.name) ++ drop (l.at + l.i) l.initial.out)
