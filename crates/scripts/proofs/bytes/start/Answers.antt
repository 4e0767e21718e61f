use Rattle.std.proofs.Common.{[], ◌∷◌, ◌++◌, length, vec_items}
use Rattle.calls.specs.Bytes.{all_eight}
use Rattle.calls.specs.Raw.{raw_bytes, short_bytes, long_bytes}
use Rattle.scripts.proofs.Joins.{joins, first}
use Rattle.scripts.proofs.bytes.start.Goals as goal

pub returns : goal.returns
unfolding raw_bytes
returns c = first c.new-out.ensures.items (joins (vec_items c.new-out.result) (1 ∷ []) ((short_bytes c.args.key.now) ++ ((long_bytes c.args.plan.now) ++ ((length c.args.words.now ∷ []) ++ (all_eight c.args.words.now)))) c.in_ok-push.ensures.items (joins (vec_items c.push.new.self) (short_bytes c.args.key.now) ((long_bytes c.args.plan.now) ++ ((length c.args.words.now ∷ []) ++ (all_eight c.args.words.now))) c.in_ok-put_short.ensures (joins (vec_items c.put_short.new.out) (long_bytes c.args.plan.now) ((length c.args.words.now ∷ []) ++ (all_eight c.args.words.now)) c.in_ok-put_long.ensures (joins (vec_items c.put_long.new.out) (length c.args.words.now ∷ []) (all_eight c.args.words.now) c.in_ok-push-2.ensures.items c.in_ok-put_all.ensures))))
