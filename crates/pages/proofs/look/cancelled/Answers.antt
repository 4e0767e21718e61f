use Rattle.std.proofs.Common.{◌≡◌, None, rules}
use Rattle.runs.specs.declared.step.Phase.TheVariants.{Failed}
use Rattle.runs.specs.Steps.{ended_as}
use Rattle.pages.specs.Events.{cancelled_of}
use Rattle.pages.specs.Holds.{CancelledAs}
use Rattle.pages.proofs.Asked.{cancelled_held}
use Rattle.pages.proofs.Given.{given_as}
use Rattle.pages.proofs.look.cancelled.Goals as goal

pub returns-then-not-is_over : goal.returns-then-not-is_over
returns-then-not-is_over c = let h : record { place = ended_as Failed c.args.flow.place; vars = c.args.flow.vars; task = None } ≡ cancelled_of c.args.flow = search rules in record { flat = h; meant = given_as (CancelledAs c.args.flow) (cancelled_of c.args.flow) (record { place = ended_as Failed c.args.flow.place; vars = c.args.flow.vars; task = None }) (cancelled_held c.args.flow) h }

pub returns-else-not-is_over : goal.returns-else-not-is_over
returns-else-not-is_over c = let h : c.args.flow ≡ cancelled_of c.args.flow = search rules in record { flat = h; meant = given_as (CancelledAs c.args.flow) (cancelled_of c.args.flow) c.args.flow (cancelled_held c.args.flow) h }
