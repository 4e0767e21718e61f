use Rattle.std.proofs.Common.{◌++◌, vec_items, ap, ◌∙◌, arith, take_all}
use Rattle.calls.specs.Bytes.{all_of}
use Rattle.scripts.proofs.Joins.{none_more, one_more}
use Rattle.scripts.proofs.bytes.put_all.Goals as goal

pub loop-value-init : goal.loop-value-init
loop-value-init g c = none_more g.T.Wide.bytes (vec_items c.args.out.now)

pub loop-value-preserved : goal.loop-value-preserved
loop-value-preserved g c = one_more g.T.Wide.bytes _ _ _ c.args.values.now c.loop-value.value-index c.value-item.result (omega arith) c.loop-value.invariant (c.in_ok-put.ensures ∙ ap (λ x. vec_items c.loop-value.out ++ g.T.Wide.bytes x) c.value-item.is)

pub returns : goal.returns
returns g c = c.loop-value.invariant ∙ ap (λ ws. vec_items c.args.out.now ++ all_of g.T.Wide.bytes ws) (take_all c.loop-value.value-index c.args.values.now (omega arith))
