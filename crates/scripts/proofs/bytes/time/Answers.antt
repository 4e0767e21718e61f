use Rattle.std.proofs.Common.{[], ◌∷◌, vec_items}
use Rattle.calls.specs.Bytes.{eight_bytes}
use Rattle.calls.specs.Raw.{raw_bytes}
use Rattle.scripts.proofs.Joins.{joins, first}
use Rattle.scripts.proofs.bytes.time.Goals as goal

pub returns : goal.returns
unfolding raw_bytes
returns c = first c.new-out.ensures.items (joins (vec_items c.new-out.result) (9 ∷ []) (eight_bytes c.args.ms) c.in_ok-push.ensures.items c.in_ok-put.ensures)
