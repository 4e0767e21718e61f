use Rattle.std.proofs.Common.{arith}
use Rattle.calls.proofs.Cuts.{long_is}
use Rattle.calls.proofs.read.long.Goals as goal

pub returns : goal.returns
returns c = long_is c.args.bytes.now _ _ (omega arith) c.four_at.ensures c.split.ensures
