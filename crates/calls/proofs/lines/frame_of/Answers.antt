use Rattle.std.proofs.Common.{◌≡◌, ◌+◌, length, sym, ◌∙◌, arith}
use Rattle.calls.specs.Bytes.{four_at}
use Rattle.calls.proofs.Cuts.{body_is, at_least}
use Rattle.calls.proofs.lines.frame_of.Goals as goal

pub returns : goal.returns
returns c =
    let tag = c.four_at-tag.ensures in
    let same : four_at c.args.line.now 0 + 4 ≡ length c.args.line.now = omega (arith, c.four_at.ensures) in
    record { tag = tag ∙ sym (at_least 8 c.args.line.now (four_at c.args.line.now 4) 0 (omega arith)); call = body_is c.args.line.now (omega arith) same }
