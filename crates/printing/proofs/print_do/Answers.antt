use Rattle.std.proofs.Common.{◌+◌, arith}
use Rattle.std.proofs.lemmas.Result.{IfOk-from_err}
use Rattle.printing.proofs.Exits.{fine_wrote, spoke_exit}
use Rattle.printing.proofs.Heads.{do_room, do_args, do_end, do_count, do_past, do_said}
use Rattle.printing.proofs.print_do.Goals as goal

pub returns-then-not-holds : goal.returns-then-not-holds
returns-then-not-holds c = record { forth = tt; text = λ d v k es n p rest x. omega (arith, do_room c.args.words.now c.args.at v k es n p rest x, c.if-not-holds.ensures) }

pub returns-in_err-print_args : goal.returns-in_err-print_args
returns-in_err-print_args c =
    record {
      forth = IfOk-from_err c.from_residual-in_err-print_args.result _ c.from_residual-in_err-print_args.ensures.0;
      text = λ d v k es n p rest x. spoke_exit c.from_residual-in_err-print_args.result c.in_err-print_args.field-0.0 _ _ _ _ _ c.from_residual-in_err-print_args.ensures.1
          (fine_wrote c.in_err-print_args.field-0.0 _ _ _ (c.in_err-print_args.ensures es (c.args.at + 16) rest (omega arith) (do_args c.args.words.now c.args.at v k es n p rest x)
          (do_end c.args.words.now c.args.at v k es n p rest x c.past_units-end.result c.past_units-end.ensures) (do_count c.args.words.now c.args.at v k es n p rest x)));
    }

pub returns : goal.returns
returns c =
    record {
      forth = omega (arith, c.past_units-end.ensures);
      text = λ d v k es n p rest x. (
        do_past c.args.words.now c.args.at v k es n p rest x c.past_units-end.result c.past_units-end.ensures,
        do_said c.args.words.now c.args.at v k es n p rest x d _ _ _ _ c.in_ok-put_task.ensures
            (c.in_ok-print_args.ensures es (c.args.at + 16) rest (omega arith) (do_args c.args.words.now c.args.at v k es n p rest x)
            (do_end c.args.words.now c.args.at v k es n p rest x c.past_units-end.result c.past_units-end.ensures) (do_count c.args.words.now c.args.at v k es n p rest x))
            c.in_ok-put_terms.ensures,
      );
    }
