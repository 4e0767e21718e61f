use Rattle.std.proofs.Common.{refl, arith}
use Rattle.store.specs.Layout.{page_blocks}
use Rattle.store.proofs.Finds.{cut_is}
use Rattle.store.proofs.dir.DirEntries.page_blocks.Goals as goal

pub returns-clause-is : goal.returns-clause-is
unfolding page_blocks
returns-clause-is c = cut_is {d = c.args.self.now} 1 refl (omega (arith, c.number.ensures.is, c.number-2.ensures.is))
