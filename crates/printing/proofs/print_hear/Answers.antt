use Rattle.std.proofs.Common.{arith}
use Rattle.std.proofs.lemmas.Result.{IfOk-from_err, IfOk-weaker}
use Rattle.printing.proofs.Exits.{fine_wrote, spoke_exit}
use Rattle.printing.proofs.Heads.{hear_room, hear_small, hear_value, hear_said}
use Rattle.printing.proofs.print_hear.Goals as goal

pub returns-then-not-holds : goal.returns-then-not-holds
returns-then-not-holds c = record { forth = tt; text = λ d v w n e rest x ok. omega (arith, hear_room c.args.words.now c.args.at v w n e rest x ok, c.if-not-holds.ensures) }

pub returns-in_err-put_name : goal.returns-in_err-put_name
returns-in_err-put_name c =
    record {
      forth = IfOk-from_err c.from_residual-in_err-put_name.result _ c.from_residual-in_err-put_name.ensures.0;
      text = λ d v w n e rest x ok. spoke_exit c.from_residual-in_err-put_name.result c.in_err-put_name.field-0.0 _ _ _ _ _ c.from_residual-in_err-put_name.ensures.1
          (fine_wrote c.in_err-put_name.field-0.0 _ _ _ (c.in_err-put_name.ensures (hear_small c.args.words.now c.args.at v w n e rest x ok)));
    }

pub returns : goal.returns
returns c =
    record {
      forth = IfOk-weaker c.print_line.result _ _ (λ p h. omega arith) c.print_line.ensures.forth;
      text = λ d v w n e rest x ok. hear_said c.args.words.now c.args.at v w n e rest x ok d c.print_line.result _ _ _ _ _ _ _ c.in_ok-put_variable.ensures c.in_ok-put.ensures
          c.in_ok-put_variable-2.ensures c.in_ok-put-2.ensures (c.in_ok-put_name.ensures (hear_small c.args.words.now c.args.at v w n e rest x ok))
          (c.print_line.ensures.text e rest (hear_value c.args.words.now c.args.at v w n e rest x ok) x.stop);
    }
