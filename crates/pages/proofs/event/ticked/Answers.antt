use Rattle.std.proofs.Common.{ℕ, length, sym, ap, ◌∙◌}
use Rattle.std.proofs.lemmas.Result.{err_from_is_err_and}
use Rattle.pages.specs.Events.{wakes_on}
use Rattle.pages.proofs.Turns.{ticked_calm, ticked_lost, ticked_late}
use Rattle.pages.specs.Events.{ticked_on}
use Rattle.pages.specs.Holds.{TicksAs}
use Rattle.pages.proofs.Given.{given_as}
use Rattle.pages.proofs.Ticks.{ticked_held}
use Rattle.pages.proofs.event.ticked.Goals as goal

pub returns-then-not-is_late : goal.returns-then-not-is_late
returns-then-not-is_late c = let h = ticked_calm (length c.args.stack.now) c.args.plan.now c.args.time c.args.flow c.wakes.result (rw (sym c.ms.ensures.is) (sym c.is_late.ensures) ∙ c.if-not-is_late.true) c.wakes.ensures in record { flat = h; meant = given_as (TicksAs (length c.args.stack.now) c.args.plan.now c.args.time c.args.flow) (ticked_on (length c.args.stack.now) c.args.plan.now c.args.time c.args.flow) _ (ticked_held (length c.args.stack.now) c.args.plan.now c.args.time c.args.flow) h }

pub returns-in_err-flow : goal.returns-in_err-flow
returns-in_err-flow c = let q = err_from_is_err_and c.from_residual.result c.from_residual.ensures.1 in let h = q.1 ∙ ticked_lost (length c.args.stack.now) c.args.plan.now c.args.time c.args.flow _ (rw (sym c.ms.ensures.is) (sym c.is_late.ensures) ∙ c.if-not-is_late.false) c.in_err-flow.ensures.flat in record { flat = h; meant = given_as (TicksAs (length c.args.stack.now) c.args.plan.now c.args.time c.args.flow) (ticked_on (length c.args.stack.now) c.args.plan.now c.args.time c.args.flow) _ (ticked_held (length c.args.stack.now) c.args.plan.now c.args.time c.args.flow) h }

pub returns : goal.returns
returns c = let h = ticked_late (length c.args.stack.now) c.args.plan.now c.args.time c.args.flow c.in_ok-flow.flow c.wakes-2.result (rw (sym c.ms.ensures.is) (sym c.is_late.ensures) ∙ c.if-not-is_late.false) c.in_ok-flow.ensures.flat (c.wakes-2.ensures ∙ ap (λ (n : ℕ). wakes_on n c.args.plan.now c.args.time c.in_ok-flow.flow) c.went_wrong.auto.stack) in record { flat = h; meant = given_as (TicksAs (length c.args.stack.now) c.args.plan.now c.args.time c.args.flow) (ticked_on (length c.args.stack.now) c.args.plan.now c.args.time c.args.flow) _ (ticked_held (length c.args.stack.now) c.args.plan.now c.args.time c.args.flow) h }
