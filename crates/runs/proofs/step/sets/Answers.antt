use Rattle.std.proofs.Common.{length, arith}
use Rattle.std.proofs.lemmas.Result.{err_from_is_err_and}
use Rattle.runs.proofs.Arms.{set_past, set_bad, set_went}
use Rattle.runs.proofs.step.sets.Goals as goal

pub returns-then-var-ge64 : goal.returns-then-var-ge64
returns-then-var-ge64 c = set_past (length c.args.stack.now) c.args.words.now c.args.place c.args.vars.now 0 c.args.var c.args.next c.args.expr (omega arith)

pub returns-in_err-value : goal.returns-in_err-value
returns-in_err-value c = let q = err_from_is_err_and c.from_residual.result c.from_residual.ensures.1 in rw q.1 (set_bad (length c.args.stack.now) c.args.words.now c.args.place c.args.vars.now 0 c.args.var c.args.next c.args.expr (omega arith) c.in_err-value.ensures.flat)

pub returns : goal.returns
returns c = set_went (length c.args.stack.now) c.args.words.now c.args.place c.args.vars.now 0 c.args.var c.args.next c.args.expr _ _ c.goes.result (omega arith) c.in_ok-value.ensures.flat c.goes.ensures
