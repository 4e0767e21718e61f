use Rattle.std.proofs.Common.{refl, arith}
use Rattle.runs.proofs.Tidings.{heard_in}
use Rattle.runs.proofs.event.heard.Goals as goal

pub returns : goal.returns
returns c = record { flat = (c.goes.ensures, refl); meant = heard_in c.args.place c.goes.result c.args.var c.args.flag c.args.value c.args.came c.args.vars.now (omega arith) c.requires.0 c.requires.1 c.goes.ensures }
