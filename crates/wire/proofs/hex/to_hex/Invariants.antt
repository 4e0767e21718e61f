use Rattle.std.proofs.Common.{◌≡◌, take, vec_items}
use Rattle.wire.specs.Hex.{text_of}
use Rattle.wire.proofs.hex.to_hex.Given as goal

abbrev pub invariant-loop-b : goal.invariant-loop-b
invariant-loop-b l = vec_items l.text ≡ text_of (take l.b-index l.bytes)
