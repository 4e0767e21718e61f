use Rattle.std.proofs.Common.{◌≡◌, [], length}
use Rattle.runs.specs.Steps.{Went, moves_w}
use Rattle.runs.proofs.flow.go_on.Given as goal

abbrev pub invariant-loop-moves : goal.invariant-loop-moves
invariant-loop-moves l =
    moves_w (length l.initial.stack) l.words l.time l.moves l.initial.here l.initial.vars ≡ Went l.here l.vars []
