use Rattle.std.proofs.Common.{◌≡◌, ◌-◌}
use Rattle.store.specs.Room.{mark_blocks}
use Rattle.store.proofs.room.mark_blocks.Given as goal

abbrev pub invariant-loop-k : goal.invariant-loop-k
invariant-loop-k l = mark_blocks l.dir l.slot l.k (l.k-end - l.k) l.marks ≡ mark_blocks l.dir l.slot 0 l.k-end l.initial.marks
