use Rattle.std.proofs.Common.{◌≡◌, length, arith}
use Rattle.pages.proofs.Wishes.{wish_is}
use Rattle.pages.proofs.event.wished.Goals as goal

pub returns : goal.returns
returns c =
    let l : length c.args.wish.args ≡ 16 = omega arith in
    rw c.ms.ensures.is (wish_is c.args.wish c.args.time c.min-count.result c.first_args-args.result l c.min-count.ensures c.first_args-args.ensures)
