use Rattle.std.proofs.Common.{arith}
use Rattle.std.proofs.lemmas.Result.{IfOk-from_err}
use Rattle.printing.proofs.Units.{value_rooted, value_low, value_some, value_past}
use Rattle.printing.proofs.Exits.{fine_wrote, spoke_exit}
use Rattle.printing.proofs.print_value.Goals as goal

pub returns-then-end-lt4 : goal.returns-then-end-lt4
returns-then-end-lt4 c = record { forth = tt; text = λ e rest h s. value_some c.args.words.now rest c.args.at c.past_units-end.result e h s c.past_units-end.ensures c.if-end-lt4.true }

pub returns-in_err-print_expr : goal.returns-in_err-print_expr
returns-in_err-print_expr c =
    record {
      forth = IfOk-from_err c.from_residual.result _ c.from_residual.ensures.0;
      text = λ e rest h s. spoke_exit c.from_residual.result c.in_err-print_expr.field-0.0 _ _ _ _ _ c.from_residual.ensures.1
          (fine_wrote c.in_err-print_expr.field-0.0 _ _ _ (c.in_err-print_expr.ensures e (value_rooted c.args.words.now rest c.args.at c.past_units-end.result e h s c.past_units-end.ensures) (value_low c.args.words.now rest c.args.at c.past_units-end.result e h s c.past_units-end.ensures)));
    }

pub returns : goal.returns
returns c =
    record {
      forth = omega (arith, c.past_units-end.ensures);
      text = λ e rest h s. (
        value_past c.args.words.now rest c.args.at c.past_units-end.result e h s c.past_units-end.ensures,
        c.in_ok-print_expr.ensures e (value_rooted c.args.words.now rest c.args.at c.past_units-end.result e h s c.past_units-end.ensures) (value_low c.args.words.now rest c.args.at c.past_units-end.result e h s c.past_units-end.ensures),
      );
    }
