use Rattle.std.proofs.Common.{◌+◌, ◌++◌, get_or, codes, decimal, arith}
use Rattle.std.proofs.lemmas.Result.{IfOk-weaker}
use Rattle.printing.proofs.Adds.{then_spoke, spoke_as}
use Rattle.printing.proofs.Heads.{set_said, set_value, set_variable}
use Rattle.printing.proofs.print_set.Goals as goal

pub returns : goal.returns
returns c =
    record {
      forth = IfOk-weaker c.print_line.result _ _ (λ p h. omega arith) c.print_line.ensures.forth;
      text = λ d v e rest x. spoke_as c.print_line.result _ _ _ _ _ _ (set_said d v (get_or c.args.words.now (c.args.at + 1) 0) e (set_variable c.args.words.now c.args.at e rest v x))
          (then_spoke c.print_line.result _ _ _ _ _ (codes "set ") _ c.in_ok-put.ensures
          (then_spoke c.print_line.result _ _ _ _ _ (codes "v" ++ decimal (get_or c.args.words.now (c.args.at + 1) 0)) _ c.in_ok-put_variable.ensures
          (c.print_line.ensures.text e rest (set_value c.args.words.now c.args.at e rest v x) x.stop)));
    }
