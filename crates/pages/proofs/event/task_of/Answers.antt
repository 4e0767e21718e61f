use Rattle.std.proofs.Common.{rules}
use Rattle.pages.specs.Events.{task_from}
use Rattle.pages.proofs.event.task_of.Goals as goal

pub returns : goal.returns
unfolding task_from
returns c = search rules
