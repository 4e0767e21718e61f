use Rattle.std.proofs.Common.{◌+◌, ◌/◌, ◌%◌, ◌^◌, get_or, ap}
use Rattle.store.specs.Layout.{bit_of}
use Rattle.store.proofs.root.bit.Goals as goal

pub returns-clause-is : goal.returns-clause-is
unfolding bit_of
returns-clause-is c = ap (λ i. get_or c.args.page.now (c.args.off + i / 64) 0 / 2 ^ (i % 64) % 2) c.number-number.ensures.is
