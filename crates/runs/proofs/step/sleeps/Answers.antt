use Rattle.std.proofs.Common.{length}
use Rattle.std.proofs.lemmas.Result.{err_from_is_err_and}
use Rattle.runs.proofs.Arms.{sleep_bad, sleep_went}
use Rattle.runs.proofs.step.sleeps.Goals as goal

pub returns-in_err-value : goal.returns-in_err-value
returns-in_err-value c = let q = err_from_is_err_and c.from_residual.result c.from_residual.ensures.1 in rw q.1 (sleep_bad (length c.args.stack.now) c.args.words.now c.args.going.place c.args.vars.now c.args.time c.args.next c.args.expr c.in_err-value.ensures.flat)

pub returns : goal.returns
returns c = sleep_went (length c.args.stack.now) c.args.words.now c.args.going.place c.args.vars.now c.args.time c.args.next c.args.expr _ _ c.until.result c.in_ok-value.ensures.flat c.until.ensures
