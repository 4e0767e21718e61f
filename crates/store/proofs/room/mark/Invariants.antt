use Rattle.std.proofs.Common.{◌≡◌, ◌-◌}
use Rattle.store.specs.Room.{mark_slots}
use Rattle.store.proofs.room.mark.Given as goal

abbrev pub invariant-loop-i : goal.invariant-loop-i
invariant-loop-i l = mark_slots l.root l.dir l.i (1024 - l.i) l.marks ≡ mark_slots l.root l.dir 0 1024 l.initial.marks
