use Rattle.std.proofs.Common.{◌≡◌, rules}
use Rattle.pages.specs.Events.{due_task}
use Rattle.pages.specs.Holds.{DueAs}
use Rattle.pages.proofs.Given.{given_as}
use Rattle.pages.proofs.Asked.{due_held}
use Rattle.pages.proofs.look.due_at.Goals as goal

pub returns-in-Due : goal.returns-in-Due
returns-in-Due c = let h : c.in-Due.at ≡ due_task c.args.flow.now.task = search rules in record { flat = h; meant = given_as (DueAs c.args.flow.now) (due_task c.args.flow.now.task) c.in-Due.at (due_held c.args.flow.now) h }

pub returns-in-Out : goal.returns-in-Out
returns-in-Out c = let h : 0 ≡ due_task c.args.flow.now.task = search rules in record { flat = h; meant = given_as (DueAs c.args.flow.now) (due_task c.args.flow.now.task) (0) (due_held c.args.flow.now) h }
