use Rattle.std.proofs.Common.{arith}
use Rattle.plans.proofs.Written.{leads_more, leads_all}
use Rattle.plans.proofs.link.put_all.Goals as goal

pub loop-word-preserved : goal.loop-word-preserved
loop-word-preserved g c =
    (omega (arith, c.in_ok-put.ensures.1, c.loop-word.invariant.0), leads_more _ _ _ _ _ _ c.loop-word-test.true c.loop-word.invariant.1 c.in_ok-put.ensures)

pub returns : goal.returns
returns g c = leads_all _ _ _ _ _ c.loop-word-test.false c.loop-word.invariant.1
