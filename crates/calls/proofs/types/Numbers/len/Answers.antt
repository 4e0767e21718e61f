use Rattle.std.proofs.Common.{sym}
use Rattle.calls.proofs.Many.{length_numbers}
use Rattle.calls.proofs.types.Numbers.len.Goals as goal

pub returns : goal.returns
returns g c = rw c.WIDTH.ensures (sym (length_numbers g.T.Wide.WIDTH g.T.Wide.at _ _))
