use Rattle.std.proofs.Common.{refl, arith}
use Rattle.service.proofs.Papers.{read_ok, read_err}
use Rattle.service.proofs.paper.read_plan.Goals as goal

pub returns-in-Ok : goal.returns-in-Ok
returns-in-Ok c = read_ok c.in-Ok.size c.args.text.now _ _ refl c.in-Ok.ensures

pub returns-in-Err : goal.returns-in-Err
returns-in-Err c = read_err c.in-Err.field-0 c.args.text.now _ _ _ refl (omega arith) c.in-Err.ensures
