use Rattle.std.proofs.Common.{◌≡◌, ◌-◌, ◌≤◌, ◌++◌, length, take, drop, replicate}
use Rattle.store.specs.Room.{zeros_from}
use Rattle.store.proofs.room.choose.Given as goal

abbrev pub invariant-loop-b : goal.invariant-loop-b
invariant-loop-b l =
    (l.count ≤ l.need) × (length l.blocks ≡ 18) × (drop l.count l.blocks ≡ replicate (18 - l.count) 0)
    × (take l.count l.blocks ++ take (l.need - l.count) (zeros_from (drop l.b l.marks) l.b) ≡ take l.need (zeros_from l.marks 0))
