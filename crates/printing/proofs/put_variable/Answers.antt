use Rattle.std.proofs.Common.{codes}
use Rattle.printing.proofs.Adds.{then_wrote}
use Rattle.printing.proofs.put_variable.Goals as goal

pub returns : goal.returns
returns c = then_wrote c.put_number.result _ _ _ (codes "v") _ c.in_ok-put.ensures c.put_number.ensures
