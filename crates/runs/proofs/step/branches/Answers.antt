use Rattle.std.proofs.Common.{length}
use Rattle.std.proofs.lemmas.Result.{err_from_is_err_and}
use Rattle.runs.proofs.Arms.{if_bad, if_no, if_yes}
use Rattle.runs.proofs.step.branches.Goals as goal

pub returns-in_err-value : goal.returns-in_err-value
returns-in_err-value c = let q = err_from_is_err_and c.from_residual.result c.from_residual.ensures.1 in rw q.1 (if_bad (length c.args.stack.now) c.args.words.now c.args.place c.args.vars.now 0 c.args.other c.args.expr c.in_err-value.ensures.flat)

pub returns-then-value-eq0 : goal.returns-then-value-eq0
returns-then-value-eq0 c = if_no (length c.args.stack.now) c.args.words.now c.args.place c.args.vars.now 0 c.args.other c.args.expr _ _ c.goes.result c.in_ok-value.ensures.flat c.if-value-eq0.true c.goes.ensures

pub returns : goal.returns
returns c = if_yes (length c.args.stack.now) c.args.words.now c.args.place c.args.vars.now 0 c.args.other c.args.expr _ _ c.goes-2.result c.in_ok-value.ensures.flat c.if-value-eq0.false c.goes-2.ensures
