use Rattle.std.proofs.Common.{◌++◌, codes, decimal}
use Rattle.printing.proofs.Adds.{then_wrote}
use Rattle.printing.proofs.put_task.Goals as goal

pub returns : goal.returns
returns c =
    then_wrote c.put-2.result _ _ _ (codes "v" ++ decimal c.args.v) _ c.in_ok-put_variable.ensures
    (then_wrote c.put-2.result _ _ _ (codes " = do ") _ c.in_ok-put.ensures (then_wrote c.put-2.result _ _ _ (decimal c.args.kind) _ c.in_ok-put_number.ensures c.put-2.ensures))
