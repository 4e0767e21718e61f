use Rattle.std.proofs.Common.{codes, decimal}
use Rattle.printing.proofs.Adds.{then_wrote}
use Rattle.printing.proofs.put_terms.Goals as goal

pub returns : goal.returns
returns c =
    then_wrote c.put-3.result _ _ _ (codes ") tries ") _ c.in_ok-put.ensures (then_wrote c.put-3.result _ _ _ (decimal c.args.tries) _ c.in_ok-put_number.ensures
    (then_wrote c.put-3.result _ _ _ (codes " pause ") _ c.in_ok-put-2.ensures (then_wrote c.put-3.result _ _ _ (decimal c.args.pause) _ c.in_ok-put_number-2.ensures c.put-3.ensures)))
