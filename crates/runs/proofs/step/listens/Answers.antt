use Rattle.std.proofs.Common.{length, arith}
use Rattle.std.proofs.lemmas.Result.{err_from_is_err_and}
use Rattle.runs.proofs.Arms.{hear_past_either, hear_bad, hear_went}
use Rattle.runs.proofs.step.listens.Goals as goal

pub returns-then-var-ge64 : goal.returns-then-var-ge64
returns-then-var-ge64 c = hear_past_either (length c.args.stack.now) c.args.words.now c.args.going.place c.args.vars.now c.args.time c.args.var c.args.came c.args.next c.args.name c.then-var-ge64.either

pub returns-in_err-value : goal.returns-in_err-value
returns-in_err-value c = let q = err_from_is_err_and c.from_residual.result c.from_residual.ensures.1 in rw q.1 (hear_bad (length c.args.stack.now) c.args.words.now c.args.going.place c.args.vars.now c.args.time c.args.var c.args.came c.args.next c.args.name (omega arith) (omega arith) c.in_err-value.ensures.flat)

pub returns : goal.returns
returns c = hear_went (length c.args.stack.now) c.args.words.now c.args.going.place c.args.vars.now c.args.time c.args.var c.args.came c.args.next c.args.name _ _ c.until.result (omega arith) (omega arith) c.in_ok-value.ensures.flat c.until.ensures
