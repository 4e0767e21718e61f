use Rattle.std.proofs.Common.{length, sym, ◌∙◌, arith}
use Rattle.runs.proofs.Arms.{step_calm, step_spent, step_does, step_some, step_none}
use Rattle.runs.proofs.step.walk.Goals as goal

pub returns-then-not-is_busy : goal.returns-then-not-is_busy
returns-then-not-is_busy c = step_calm (length c.args.stack.now) c.args.words.now c.args.place c.args.vars.now c.args.time (sym c.is_busy.ensures ∙ c.if-not-is_busy.true)

pub returns-then-deep_at-gt64 : goal.returns-then-deep_at-gt64
returns-then-deep_at-gt64 c = step_spent (length c.args.stack.now) c.args.words.now c.args.place c.args.vars.now c.args.time c.deep_at.result c.ends.result (sym c.is_busy.ensures ∙ c.if-not-is_busy.false) c.deep_at.ensures c.then-deep_at-gt64.either c.ends.ensures

pub returns-in-Some : goal.returns-in-Some
returns-in-Some c = step_some (length c.args.stack.now) c.args.words.now c.args.place c.args.vars.now c.args.time c.in-Some.statement c.does.result c.does.new.vars (step_does (length c.args.stack.now) c.args.words.now c.args.place c.args.vars.now c.args.time c.deep_at.result (sym c.is_busy.ensures ∙ c.if-not-is_busy.false) c.deep_at.ensures (omega arith) (omega arith)) c.in-Some.ensures c.does.ensures

pub returns-in-None : goal.returns-in-None
returns-in-None c = step_none (length c.args.stack.now) c.args.words.now c.args.place c.args.vars.now c.args.time (step_does (length c.args.stack.now) c.args.words.now c.args.place c.args.vars.now c.args.time c.deep_at.result (sym c.is_busy.ensures ∙ c.if-not-is_busy.false) c.deep_at.ensures (omega arith) (omega arith)) c.in-None.ensures
