use Rattle.std.proofs.Common.{length}
use Rattle.std.proofs.lemmas.Result.{err_from_is_err_and}
use Rattle.runs.proofs.Arms.{return_bad, return_went}
use Rattle.runs.proofs.step.gives.Goals as goal

pub returns-in_err-value : goal.returns-in_err-value
returns-in_err-value c = let q = err_from_is_err_and c.from_residual.result c.from_residual.ensures.1 in rw q.1 (return_bad (length c.args.stack.now) c.args.words.now c.args.place c.args.vars.now 0 c.args.expr c.in_err-value.ensures.flat)

pub returns : goal.returns
returns c = return_went (length c.args.stack.now) c.args.words.now c.args.place c.args.vars.now 0 c.args.expr _ _ c.ends.result c.in_ok-value.ensures.flat c.ends.ensures
