use Rattle.text.specs.Grammar.{compare}
use Rattle.text.specs.Printer.{expr_text}
use Rattle.printing.proofs.Adds.{seq}
use Rattle.printing.proofs.print_line.Goals as goal

pub returns : goal.returns
returns c =
    record {
      forth = c.in_ok-end.ensures.forth;
      text = λ e rest h s. (
        (c.in_ok-end.ensures.text e rest h s).0,
        seq _ _ _ c.args.bytes.now _ c.in_ok-put.ensures (seq _ _ _ (expr_text compare e) _ (c.in_ok-end.ensures.text e rest h s).1 c.in_ok-put-2.ensures),
      );
    }
