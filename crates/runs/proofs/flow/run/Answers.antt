use Rattle.std.proofs.Common.{length, arith}
use Rattle.runs.proofs.Loops.{comes_to}
use Rattle.runs.proofs.flow.run.Goals as goal

pub returns : goal.returns
returns c = record { flat = c.go_on.ensures; meant = λ x y empty k. comes_to (length c.args.stack.now) c.args.words.now c.args.time c.args.place c.args.vars.now c.go_on.new.vars c.go_on.result x y (omega arith) c.go_on.ensures empty k }
