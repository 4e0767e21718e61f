use Rattle.std.proofs.Common.{ap, ◌∙◌, arith}
use Rattle.text.specs.Numbers.{numbered}
use Rattle.text.proofs.Numbers.{number_turn, number_bad, number_end, number_start}
use Rattle.text.proofs.number_of.Goals as goal

pub loop-d-init : goal.loop-d-init
loop-d-init c = (number_start c.args.w.now, omega arith)

pub returns-in_err-n : goal.returns-in_err-n
returns-in_err-n c = ap numbered c.from_residual.ensures ∙ (number_bad c.args.w.now c.loop-d.d-index c.loop-d.n c.loop-d-test.true c.in_err-n.ensures ∙ c.loop-d.invariant.0)

pub loop-d-preserved : goal.loop-d-preserved
loop-d-preserved c =
    (number_turn c.args.w.now c.loop-d.d-index c.loop-d.n c.in_ok-n.n c.loop-d-test.true c.in_ok-n.ensures ∙ c.loop-d.invariant.0, c.in_ok-n.ensures.3)

pub returns : goal.returns
returns c = number_end c.args.w.now c.loop-d.d-index c.loop-d.n c.loop-d-test.false c.loop-d.invariant.1 ∙ c.loop-d.invariant.0
