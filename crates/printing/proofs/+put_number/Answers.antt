use Rattle.std.proofs.Common.{arith}
use Rattle.printing.proofs.Adds.{last_digit, only_digit}
use Rattle.printing.proofs.+put_number.Goals as goal

pub returns-then-n-lt10 : goal.returns-then-n-lt10
returns-then-n-lt10 t c = only_digit c.put.result _ _ c.args.n c.if-n-lt10.true c.put.ensures

pub returns : goal.returns
returns t c = last_digit c.put-2.result _ _ _ c.args.n c.if-n-lt10.false (omega arith) c.in_ok-put_number.ensures c.put-2.ensures
