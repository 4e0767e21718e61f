use Rattle.std.proofs.Common.{ℕ, List, length, ap, ◌∙◌}
use Rattle.runs.specs.declared.step.Place.{Place}
use Rattle.runs.specs.Steps.{at_first}
use Rattle.pages.specs.Events.{ran_on, begun}
use Rattle.pages.specs.Holds.{BeginsAs}
use Rattle.pages.proofs.Given.{given_as}
use Rattle.pages.proofs.Held.{begun_held}
use Rattle.pages.proofs.event.begin.Goals as goal

pub returns : goal.returns
returns c = let h = c.goes_on.ensures ∙ ap (λ (p : Place). ran_on (length c.args.stack.now) c.args.plan.now c.args.time p c.first_vars.result) c.start.ensures ∙ ap (λ (vs : List ℕ). ran_on (length c.args.stack.now) c.args.plan.now c.args.time at_first vs) c.first_vars.ensures in record { flat = h; meant = given_as (BeginsAs (length c.args.stack.now) c.args.plan.now c.args.given.now c.args.time) (begun (length c.args.stack.now) c.args.plan.now c.args.given.now c.args.time) _ (begun_held (length c.args.stack.now) c.args.plan.now c.args.given.now c.args.time c.requires) h }
