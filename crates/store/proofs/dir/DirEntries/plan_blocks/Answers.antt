use Rattle.std.proofs.Common.{refl, arith}
use Rattle.store.specs.Layout.{plan_blocks}
use Rattle.store.proofs.Finds.{cut_is}
use Rattle.store.proofs.dir.DirEntries.plan_blocks.Goals as goal

pub returns-clause-is : goal.returns-clause-is
unfolding plan_blocks
returns-clause-is c = cut_is {d = c.args.self.now} 16 refl (omega (arith, c.number.ensures.is))
