use Rattle.std.proofs.Common.{◌≡◌, rules}
use Rattle.pages.specs.Events.{step_in, tried_task, tried_no_task, tried_not_out, tried_out}
use Rattle.pages.specs.Holds.{TriedAs}
use Rattle.pages.proofs.Asked.{tried_held}
use Rattle.pages.proofs.Given.{given_as}
use Rattle.pages.proofs.look.tried.Goals as goal

pub returns-in_default : goal.returns-in_default
returns-in_default c = let h : tried_no_task ≡ tried_task c.args.step c.args.attempt (step_in c.args.flow.now.place.phase) c.args.flow.now.task = search rules in record { flat = h; meant = given_as (TriedAs c.args.step c.args.attempt c.args.flow.now) (tried_task c.args.step c.args.attempt (step_in c.args.flow.now.place.phase) c.args.flow.now.task) (tried_no_task) (tried_held c.args.step c.args.attempt c.args.flow.now) h }

pub returns-then-step-step_of : goal.returns-then-step-step_of
returns-then-step-step_of c = let h : tried_no_task ≡ tried_task c.args.step c.args.attempt (step_in c.args.flow.now.place.phase) c.args.flow.now.task = search rules in record { flat = h; meant = given_as (TriedAs c.args.step c.args.attempt c.args.flow.now) (tried_task c.args.step c.args.attempt (step_in c.args.flow.now.place.phase) c.args.flow.now.task) (tried_no_task) (tried_held c.args.step c.args.attempt c.args.flow.now) h }

pub returns-then-attempt-task : goal.returns-then-attempt-task
returns-then-attempt-task c = let h : tried_not_out ≡ tried_task c.args.step c.args.attempt (step_in c.args.flow.now.place.phase) c.args.flow.now.task = search rules in record { flat = h; meant = given_as (TriedAs c.args.step c.args.attempt c.args.flow.now) (tried_task c.args.step c.args.attempt (step_in c.args.flow.now.place.phase) c.args.flow.now.task) (tried_not_out) (tried_held c.args.step c.args.attempt c.args.flow.now) h }

pub returns-in-Due : goal.returns-in-Due
returns-in-Due c = let h : tried_not_out ≡ tried_task c.args.step c.args.attempt (step_in c.args.flow.now.place.phase) c.args.flow.now.task = search rules in record { flat = h; meant = given_as (TriedAs c.args.step c.args.attempt c.args.flow.now) (tried_task c.args.step c.args.attempt (step_in c.args.flow.now.place.phase) c.args.flow.now.task) (tried_not_out) (tried_held c.args.step c.args.attempt c.args.flow.now) h }

pub returns-in-Out : goal.returns-in-Out
returns-in-Out c = let h : tried_out ≡ tried_task c.args.step c.args.attempt (step_in c.args.flow.now.place.phase) c.args.flow.now.task = search rules in record { flat = h; meant = given_as (TriedAs c.args.step c.args.attempt c.args.flow.now) (tried_task c.args.step c.args.attempt (step_in c.args.flow.now.place.phase) c.args.flow.now.task) (tried_out) (tried_held c.args.step c.args.attempt c.args.flow.now) h }
