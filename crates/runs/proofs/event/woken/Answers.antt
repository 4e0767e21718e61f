use Rattle.runs.proofs.Tidings.{wakes_in}
use Rattle.runs.proofs.event.woken.Goals as goal

pub returns : goal.returns
returns c = record { flat = c.goes.ensures; meant = wakes_in c.args.place c.goes.result c.goes.ensures }
