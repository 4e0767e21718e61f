use Rattle.std.proofs.Common.{length, sym, ◌∙◌}
use Rattle.std.proofs.lemmas.Result.{err_from_is_err_and}
use Rattle.pages.proofs.Turns.{wrong_none, wrong_unfair, wrong_again, wrong_last, failed_lost, failed_went}
use Rattle.pages.specs.Events.{wrong_on}
use Rattle.pages.specs.Holds.{WrongAs}
use Rattle.pages.proofs.Given.{given_as}
use Rattle.pages.proofs.Means.{wrong_held}
use Rattle.pages.proofs.event.went_wrong.Goals as goal

pub returns-in_default : goal.returns-in_default
returns-in_default c = let h = wrong_none (length c.args.stack.now) c.args.plan.now c.args.time c.args.flow c.in_default.is in record { flat = h; meant = given_as (WrongAs (length c.args.stack.now) c.args.plan.now c.args.time c.args.flow) (wrong_on (length c.args.stack.now) c.args.plan.now c.args.time c.args.flow) _ (wrong_held (length c.args.stack.now) c.args.plan.now c.args.time c.args.flow) h }

pub returns-then-not-is_fair : goal.returns-then-not-is_fair
returns-then-not-is_fair c = let h = wrong_unfair (length c.args.stack.now) c.args.plan.now c.args.time c.args.flow c.in-Some.task c.in-Some.is (sym c.is_fair.ensures ∙ c.if-not-is_fair.true) in record { flat = h; meant = given_as (WrongAs (length c.args.stack.now) c.args.plan.now c.args.time c.args.flow) (wrong_on (length c.args.stack.now) c.args.plan.now c.args.time c.args.flow) _ (wrong_held (length c.args.stack.now) c.args.plan.now c.args.time c.args.flow) h }

pub returns-then-task : goal.returns-then-task
returns-then-task c = let h = wrong_again (length c.args.stack.now) c.args.plan.now c.args.time c.args.flow c.in-Some.task c.again.result c.in-Some.is (sym c.is_fair.ensures ∙ c.if-not-is_fair.false) c.if-task.true c.again.ensures in record { flat = h; meant = given_as (WrongAs (length c.args.stack.now) c.args.plan.now c.args.time c.args.flow) (wrong_on (length c.args.stack.now) c.args.plan.now c.args.time c.args.flow) _ (wrong_held (length c.args.stack.now) c.args.plan.now c.args.time c.args.flow) h }

pub returns-in_err-place : goal.returns-in_err-place
returns-in_err-place c = let q = err_from_is_err_and c.from_residual.result c.from_residual.ensures.1 in let h = q.1 ∙ wrong_last (length c.args.stack.now) c.args.plan.now c.args.time c.args.flow c.in-Some.task _ c.in-Some.is (sym c.is_fair.ensures ∙ c.if-not-is_fair.false) c.if-task.false (failed_lost (length c.args.stack.now) c.args.plan.now c.args.time c.args.flow c.in_err-place.ensures.flat) in record { flat = h; meant = given_as (WrongAs (length c.args.stack.now) c.args.plan.now c.args.time c.args.flow) (wrong_on (length c.args.stack.now) c.args.plan.now c.args.time c.args.flow) _ (wrong_held (length c.args.stack.now) c.args.plan.now c.args.time c.args.flow) h }

pub returns : goal.returns
returns c = let h = wrong_last (length c.args.stack.now) c.args.plan.now c.args.time c.args.flow c.in-Some.task _ c.in-Some.is (sym c.is_fair.ensures ∙ c.if-not-is_fair.false) c.if-task.false (c.goes_on.ensures ∙ failed_went (length c.args.stack.now) c.args.plan.now c.args.time c.args.flow c.in_ok-place.place c.in_ok-place.ensures.flat) in record { flat = h; meant = given_as (WrongAs (length c.args.stack.now) c.args.plan.now c.args.time c.args.flow) (wrong_on (length c.args.stack.now) c.args.plan.now c.args.time c.args.flow) _ (wrong_held (length c.args.stack.now) c.args.plan.now c.args.time c.args.flow) h }
