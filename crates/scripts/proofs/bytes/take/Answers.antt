use Rattle.std.proofs.Common.{[], ◌∷◌, ◌++◌, length, vec_items}
use Rattle.calls.specs.Bytes.{four_bytes, all_four}
use Rattle.calls.specs.Raw.{raw_bytes}
use Rattle.scripts.proofs.Joins.{joins, first}
use Rattle.scripts.proofs.bytes.take.Goals as goal

pub returns : goal.returns
unfolding raw_bytes
returns c = first c.new-out.ensures.items (joins (vec_items c.new-out.result) (4 ∷ []) ((length c.args.kinds.now ∷ []) ++ ((all_four c.args.kinds.now) ++ (four_bytes c.args.ms))) c.in_ok-push.ensures.items (joins (vec_items c.push.new.self) (length c.args.kinds.now ∷ []) ((all_four c.args.kinds.now) ++ (four_bytes c.args.ms)) c.in_ok-push-2.ensures.items (joins (vec_items c.push-2.new.self) (all_four c.args.kinds.now) (four_bytes c.args.ms) c.in_ok-put_all.ensures c.in_ok-put.ensures)))
