use Rattle.std.proofs.Common.{sym, arith}
use Rattle.printing.proofs.Units.{unit_turn, unit_stop, unit_short}
use Rattle.printing.proofs.past_units.Goals as goal

pub loop-at-preserved : goal.loop-at-preserved
loop-at-preserved c = omega (arith, unit_turn c.args.words.now c.loop-at.at c.loop-at-test.ensures (sym c.if-is_unit.ensures), c.loop-at.invariant)

pub returns-else-is_unit : goal.returns-else-is_unit
returns-else-is_unit c = omega (arith, unit_stop c.args.words.now c.loop-at.at c.loop-at-test.ensures (sym c.if-is_unit.ensures), c.loop-at.invariant)

pub returns-after-loop-at : goal.returns-after-loop-at
returns-after-loop-at c = omega (arith, unit_short c.args.words.now c.loop-at.at c.loop-at-test.ensures, c.loop-at.invariant)
