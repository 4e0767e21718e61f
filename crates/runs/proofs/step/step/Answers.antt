use Rattle.std.proofs.Common.{length, arith}
use Rattle.runs.proofs.Loops.{moved_to}
use Rattle.runs.proofs.step.step.Goals as goal

pub returns : goal.returns
returns c = record { flat = c.walk.ensures; meant = λ x y q k. moved_to (length c.args.stack.now) c.args.words.now c.args.time c.args.place c.args.vars.now c.walk.new.vars c.walk.result x y (omega arith) c.walk.ensures q k }
