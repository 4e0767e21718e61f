use Rattle.std.proofs.Common.{◌+◌, ◌*◌, sym, ap, ◌∙◌, arith, take_all}
use lib.Seq.{sets}
use Rattle.calls.specs.Bytes.{all_eight, eight_bytes}
use Rattle.calls.proofs.Puts.{eight_is, all_none, word_more}
use Rattle.calls.proofs.write.put_words.Goals as goal

pub loop-i-init : goal.loop-i-init
loop-i-init c = sym (ap (sets c.args.out.now c.args.at) (all_none eight_bytes))

pub loop-i-preserved : goal.loop-i-preserved
loop-i-preserved c = word_more _ _ _ c.args.words.now c.args.at c.loop-i.i (omega arith) c.loop-i.invariant (c.put.ensures ∙ ap (sets c.loop-i.out (c.args.at + 8 * c.loop-i.i)) (c.to_be_bytes.ensures ∙ eight_is _))

pub returns : goal.returns
returns c = c.loop-i.invariant ∙ ap (λ ws. sets c.args.out.now c.args.at (all_eight ws)) (take_all c.loop-i.i c.args.words.now (omega arith))
