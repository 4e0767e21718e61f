use Rattle.std.proofs.Common.{[], ◌∷◌, ◌++◌, vec_items}
use Rattle.calls.specs.Bytes.{eight_bytes}
use Rattle.calls.specs.Raw.{raw_bytes, short_bytes}
use Rattle.scripts.proofs.Joins.{joins, first}
use Rattle.scripts.proofs.bytes.tell.Goals as goal

pub returns : goal.returns
unfolding raw_bytes
returns c = first c.new-out.ensures.items (joins (vec_items c.new-out.result) (2 ∷ []) ((short_bytes c.args.key.now) ++ ((short_bytes c.args.name.now) ++ (eight_bytes c.args.value))) c.in_ok-push.ensures.items (joins (vec_items c.push.new.self) (short_bytes c.args.key.now) ((short_bytes c.args.name.now) ++ (eight_bytes c.args.value)) c.in_ok-put_short.ensures (joins (vec_items c.put_short.new.out) (short_bytes c.args.name.now) (eight_bytes c.args.value) c.in_ok-put_short-2.ensures c.in_ok-put.ensures)))
