use Rattle.std.proofs.Common.{◌+◌, ◌/◌, ◌%◌, get_or, set, ap, ◌∙◌, arith}
use lib.Bits.{bit_xor}
use Rattle.std.proofs.lemmas.Nat.{one_shl}
use Rattle.store.specs.Layout.{turn_at}
use Rattle.store.proofs.root.turn.Goals as goal

pub returns : goal.returns
unfolding turn_at
returns c =
    let p = c.args.page.now in
    let o = c.args.off in
    let i = c.number-number.result in
    ap (λ v. set p (o + i / 64) (bit_xor (get_or p (o + i / 64) 0) v)) (one_shl (i % 64) 64 (omega arith)) ∙ ap (λ j. turn_at o j p) c.number-number.ensures.is
