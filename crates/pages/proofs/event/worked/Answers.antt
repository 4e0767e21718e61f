use Rattle.std.proofs.Common.{length, ◌∙◌}
use Rattle.std.proofs.lemmas.Result.{err_from_is_err_and}
use Rattle.pages.proofs.Turns.{worked_bad, worked_lost, worked_went}
use Rattle.pages.specs.Events.{worked_on}
use Rattle.pages.specs.Holds.{WorksAs}
use Rattle.pages.proofs.Given.{given_as}
use Rattle.pages.proofs.Means.{worked_held}
use Rattle.pages.proofs.event.worked.Goals as goal

pub returns-then-flow-ge64 : goal.returns-then-flow-ge64
returns-then-flow-ge64 c = let h = worked_bad (length c.args.stack.now) c.args.plan.now c.args.time c.args.value c.args.flow c.if-flow-ge64.true in record { flat = h; meant = given_as (WorksAs (length c.args.stack.now) c.args.plan.now c.args.time c.args.value c.args.flow) (worked_on (length c.args.stack.now) c.args.plan.now c.args.time c.args.value c.args.flow) _ (worked_held (length c.args.stack.now) c.args.plan.now c.args.time c.args.value c.args.flow) h }

pub returns-in_err-place : goal.returns-in_err-place
returns-in_err-place c = let q = err_from_is_err_and c.from_residual.result c.from_residual.ensures.1 in let h = q.1 ∙ worked_lost (length c.args.stack.now) c.args.plan.now c.args.time c.args.value c.args.flow c.if-flow-ge64.false c.in_err-place.ensures.flat in record { flat = h; meant = given_as (WorksAs (length c.args.stack.now) c.args.plan.now c.args.time c.args.value c.args.flow) (worked_on (length c.args.stack.now) c.args.plan.now c.args.time c.args.value c.args.flow) _ (worked_held (length c.args.stack.now) c.args.plan.now c.args.time c.args.value c.args.flow) h }

pub returns : goal.returns
returns c = let h = c.goes_on.ensures ∙ worked_went (length c.args.stack.now) c.args.plan.now c.args.time c.args.value c.args.flow c.in_ok-place.place c.task_done.new.vars c.if-flow-ge64.false c.in_ok-place.ensures.flat in record { flat = h; meant = given_as (WorksAs (length c.args.stack.now) c.args.plan.now c.args.time c.args.value c.args.flow) (worked_on (length c.args.stack.now) c.args.plan.now c.args.time c.args.value c.args.flow) _ (worked_held (length c.args.stack.now) c.args.plan.now c.args.time c.args.value c.args.flow) h }
