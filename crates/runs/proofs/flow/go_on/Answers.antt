use Rattle.std.proofs.Common.{◌+◌, length, sym, refl, ◌∙◌, arith}
use Rattle.std.proofs.lemmas.Result.{err_from_is_err_and}
use Rattle.runs.specs.Steps.{moves_w}
use Rattle.runs.proofs.Loops.{turn_lost, turn_on, turn_wished, turn_none, run_calm}
use Rattle.runs.proofs.flow.go_on.Goals as goal

pub loop-moves-init : goal.loop-moves-init
unfolding moves_w
loop-moves-init c = refl

pub returns-then-not-is_busy : goal.returns-then-not-is_busy
returns-then-not-is_busy c = rw c.stopped.ensures (omega arith, c.loop-moves.invariant, run_calm (length c.args.stack.now) c.args.words.now c.args.time c.loop-moves.moves 1000 c.args.place c.loop-moves.here c.args.vars.now c.loop-moves.vars (omega arith) c.loop-moves.invariant (sym c.is_busy.ensures ∙ c.if-not-is_busy.true))

pub returns-in_err-moved : goal.returns-in_err-moved
returns-in_err-moved c = let q = err_from_is_err_and c.from_residual.result c.from_residual.ensures.1 in rw q.1 (turn_lost (length c.args.stack.now) (length c.loop-moves.stack) c.args.words.now c.args.time c.loop-moves.moves c.args.place c.loop-moves.here c.args.vars.now c.loop-moves.vars c.loop-moves.auto.stack (omega arith) c.loop-moves.invariant c.in_err-moved.ensures.flat)

pub returns-then-is_some : goal.returns-then-is_some
returns-then-is_some c = turn_wished (length c.args.stack.now) c.args.words.now c.args.time (c.loop-moves.moves + 1) c.args.place c.args.vars.now c.step.new.vars c.in_ok-moved.moved (omega arith) (turn_on (length c.args.stack.now) (length c.loop-moves.stack) c.args.words.now c.args.time c.loop-moves.moves c.args.place c.loop-moves.here c.args.vars.now c.loop-moves.vars c.step.new.vars c.in_ok-moved.moved c.loop-moves.auto.stack c.loop-moves.invariant c.in_ok-moved.ensures.flat) (sym c.is_some.ensures ∙ c.if-is_some.true)

pub loop-moves-preserved : goal.loop-moves-preserved
loop-moves-preserved c = turn_none (length c.args.stack.now) c.args.words.now c.args.time (c.loop-moves.moves + 1) c.args.place c.args.vars.now c.step.new.vars c.in_ok-moved.moved (turn_on (length c.args.stack.now) (length c.loop-moves.stack) c.args.words.now c.args.time c.loop-moves.moves c.args.place c.loop-moves.here c.args.vars.now c.loop-moves.vars c.step.new.vars c.in_ok-moved.moved c.loop-moves.auto.stack c.loop-moves.invariant c.in_ok-moved.ensures.flat) (sym c.is_some.ensures ∙ c.if-is_some.false)
