use Rattle.std.proofs.Common.{length, vec_items}
use Rattle.calls.specs.Bytes.{four_bytes}
use Rattle.calls.specs.Raw.{raw_bytes}
use Rattle.scripts.proofs.Joins.{joins}
use Rattle.scripts.proofs.bytes.put_long.Goals as goal

pub returns : goal.returns
unfolding raw_bytes
returns c = (joins (vec_items c.args.out.now) (four_bytes (length c.args.bytes.now)) c.args.bytes.now c.in_ok-put.ensures c.in_ok-extend_from_slice.ensures.items)
