use Rattle.std.proofs.Common.{◌≡◌, ◌≤◌, [], take, drop, vec_len}
use Rattle.lines.specs.Walks.{lasts_in, sees_in, counts_in, pushed_in, settle, settling}
use Rattle.lines.proofs.journal.settle_all.Given as goal

abbrev pub invariant-loop-i : goal.invariant-loop-i
invariant-loop-i l =
    (l.staying ≤ l.i)
    × (vec_len l.journal ≡ vec_len l.initial.journal)
    × (settle (drop l.i l.journal.items) (settling (lasts_in l.words.items) (counts_in l.lines.items) (pushed_in l.lines.items) (take l.staying l.journal.items))
    ≡ settle l.initial.journal.items (settling (lasts_in l.initial.words.items) (counts_in l.initial.lines.items) (pushed_in l.initial.lines.items) []))
    × (sees_in l.words.items ≡ sees_in l.initial.words.items)
