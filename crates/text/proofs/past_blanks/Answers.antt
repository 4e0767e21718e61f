use Rattle.std.proofs.Common.{sym, ◌∙◌, arith}
use Rattle.text.proofs.Turns.{gap_turn, gap_end}
use Rattle.text.proofs.past_blanks.Goals as goal

pub loop-pos-preserved : goal.loop-pos-preserved
loop-pos-preserved c = (omega arith, omega arith, gap_turn c.args.text.now c.loop-pos.pos c.loop-pos.remark c.in_remark-remark.result c.loop-pos-test.true (sym c.if-not-goes_on.ensures) c.in_remark-remark.ensures ∙ c.loop-pos.invariant.2)

pub returns : goal.returns
returns c = record { forth = omega arith; within = omega arith; same = gap_end c.args.text.now c.loop-pos.pos c.loop-pos.remark (omega arith) ∙ c.loop-pos.invariant.2; past = λ h. absurd (omega arith) }
