use Rattle.std.proofs.Common.{[], ◌∷◌, ◌++◌, vec_items}
use Rattle.calls.specs.Bytes.{two_bytes, four_bytes, eight_bytes}
use Rattle.calls.specs.Raw.{raw_bytes}
use Rattle.scripts.proofs.Joins.{joins, first}
use Rattle.scripts.proofs.bytes.longer.Goals as goal

pub returns : goal.returns
unfolding raw_bytes
returns c = first c.new-out.ensures.items (joins (vec_items c.new-out.result) (5 ∷ []) ((eight_bytes c.args.flow.0) ++ ((eight_bytes c.args.step.0) ++ ((two_bytes c.args.attempt.0) ++ (four_bytes c.args.ms)))) c.in_ok-push.ensures.items (joins (vec_items c.push.new.self) (eight_bytes c.args.flow.0) ((eight_bytes c.args.step.0) ++ ((two_bytes c.args.attempt.0) ++ (four_bytes c.args.ms))) c.in_ok-put.ensures (joins (vec_items c.put.new.out) (eight_bytes c.args.step.0) ((two_bytes c.args.attempt.0) ++ (four_bytes c.args.ms)) c.in_ok-put-2.ensures (joins (vec_items c.put-2.new.out) (two_bytes c.args.attempt.0) (four_bytes c.args.ms) c.in_ok-put-3.ensures c.in_ok-put-4.ensures))))
