use Rattle.std.proofs.Common.{◌≡◌, rules}
use Rattle.pages.specs.Events.{step_in}
use Rattle.pages.specs.Holds.{StepAs}
use Rattle.pages.proofs.Asked.{step_held}
use Rattle.pages.proofs.Given.{given_as}
use Rattle.pages.proofs.look.step_of.Goals as goal

pub returns-in-Tasked : goal.returns-in-Tasked
returns-in-Tasked c = let h : c.in-Tasked.step ≡ step_in c.args.phase = search rules in record { flat = h; meant = given_as (StepAs c.args.phase) (step_in c.args.phase) c.in-Tasked.step (step_held c.args.phase) h }

pub returns-in_default : goal.returns-in_default
returns-in_default c = let h : 0 ≡ step_in c.args.phase = search rules in record { flat = h; meant = given_as (StepAs c.args.phase) (step_in c.args.phase) 0 (step_held c.args.phase) h }
