use Rattle.std.proofs.Common.{[], ◌∷◌, ◌++◌, vec_items, ap, ◌∙◌}
use Rattle.plans.proofs.Evals.{bool_byte_is}
use Rattle.calls.specs.Bytes.{two_bytes, eight_bytes}
use Rattle.calls.specs.Raw.{raw_bytes, bit}
use Rattle.scripts.proofs.Joins.{joins, first}
use Rattle.scripts.proofs.bytes.report.Goals as goal

pub returns : goal.returns
unfolding raw_bytes
returns c = first c.new-out.ensures.items (joins (vec_items c.new-out.result) (6 ∷ []) ((eight_bytes c.args.flow.0) ++ ((eight_bytes c.args.step.0) ++ ((two_bytes c.args.attempt.0) ++ ((bit c.args.well ∷ []) ++ (eight_bytes c.args.value))))) c.in_ok-push.ensures.items (joins (vec_items c.push.new.self) (eight_bytes c.args.flow.0) ((eight_bytes c.args.step.0) ++ ((two_bytes c.args.attempt.0) ++ ((bit c.args.well ∷ []) ++ (eight_bytes c.args.value)))) c.in_ok-put.ensures (joins (vec_items c.put.new.out) (eight_bytes c.args.step.0) ((two_bytes c.args.attempt.0) ++ ((bit c.args.well ∷ []) ++ (eight_bytes c.args.value))) c.in_ok-put-2.ensures (joins (vec_items c.put-2.new.out) (two_bytes c.args.attempt.0) ((bit c.args.well ∷ []) ++ (eight_bytes c.args.value)) c.in_ok-put-3.ensures (joins (vec_items c.put-3.new.out) (bit c.args.well ∷ []) (eight_bytes c.args.value) (c.in_ok-push-2.ensures.items ∙ ap (λ b. vec_items c.put-3.new.out ++ (b ∷ [])) (c.from.ensures ∙ bool_byte_is c.args.well)) c.in_ok-put-4.ensures)))))
