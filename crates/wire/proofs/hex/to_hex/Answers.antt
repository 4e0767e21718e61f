use Rattle.std.proofs.Common.{sym, ap, ◌∙◌, arith, take_all}
use Rattle.wire.specs.Hex.{text_of}
use Rattle.wire.proofs.Digits.{text_none, text_next}
use Rattle.wire.proofs.hex.to_hex.Goals as goal

pub loop-b-init : goal.loop-b-init
loop-b-init c = c.new-text.ensures.items ∙ sym text_none

pub loop-b-preserved : goal.loop-b-preserved
loop-b-preserved c = text_next c.args.bytes.now _ _ _ c.loop-b.b-index _ _ (omega arith) c.loop-b.invariant c.letter.ensures c.letter-in-loop-b.ensures c.in_ok-push.ensures.items c.in_ok-push-2.ensures.items

pub returns : goal.returns
returns c = c.loop-b.invariant ∙ ap text_of (take_all c.loop-b.b-index c.args.bytes.now c.loop-b-test.false)
