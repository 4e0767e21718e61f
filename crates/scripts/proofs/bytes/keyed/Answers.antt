use Rattle.std.proofs.Common.{[], ◌∷◌, vec_items}
use Rattle.calls.specs.Raw.{raw_bytes, short_bytes}
use Rattle.scripts.proofs.Joins.{joins, first}
use Rattle.scripts.proofs.bytes.keyed.Goals as goal

pub returns : goal.returns
unfolding raw_bytes
returns c = first c.new-out.ensures.items (joins (vec_items c.new-out.result) (c.args.kind ∷ []) (short_bytes c.args.key.now) c.in_ok-push.ensures.items c.in_ok-put_short.ensures)
