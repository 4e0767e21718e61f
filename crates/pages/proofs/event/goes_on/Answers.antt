use Rattle.std.proofs.Common.{length, ◌∙◌}
use Rattle.std.proofs.lemmas.Result.{err_from_is_err_and}
use Rattle.pages.proofs.Wishes.{ran_is, ran_lost}
use Rattle.pages.proofs.event.goes_on.Goals as goal

pub returns-in_err-ran : goal.returns-in_err-ran
returns-in_err-ran c = let q = err_from_is_err_and c.from_residual.result c.from_residual.ensures.1 in q.1 ∙ ran_lost (length c.args.stack.now) c.args.plan.now c.args.time c.args.place c.args.vars c.in_err-ran.ensures.flat

pub returns : goal.returns
returns c = ran_is (length c.args.stack.now) c.args.plan.now c.args.time c.args.place c.args.vars c.run.new.vars c.in_ok-ran.ran.moved c.task_of-task.result c.in_ok-ran.ensures.flat.2 c.task_of-task.ensures
