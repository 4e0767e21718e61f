use Rattle.std.proofs.Common.{◌≡◌, ◌%◌, length, vec_items}
use Rattle.wire.specs.Hex.{bytes_of}
use Rattle.wire.proofs.Digits.{before}
use Rattle.wire.proofs.hex.from_hex.Given as goal

abbrev pub invariant-loop-high : goal.invariant-loop-high
invariant-loop-high l = (bytes_of l.text ≡ before (vec_items l.bytes) (bytes_of l.rest)) × (length l.rest % 2 ≡ 0)

abbrev pub decreases-loop-high : goal.decreases-loop-high
decreases-loop-high l = length l.rest
