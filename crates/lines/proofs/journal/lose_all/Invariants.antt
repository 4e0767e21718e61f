use Rattle.std.proofs.Common.{◌≡◌, drop}
use Rattle.lines.specs.Walks.{lasts_in, sees_in, counts_in, pushed_in, lost_sees, lost_counts}
use Rattle.lines.proofs.journal.lose_all.Given as goal

abbrev pub invariant-loop-store : goal.invariant-loop-store
invariant-loop-store l =
    let xs = l.store-items in
    let left = drop l.store-index xs in
    let old = l.initial.words.items in
    (lasts_in l.words.items ≡ lasts_in old)
    × (lost_sees left (lasts_in old) (sees_in l.words.items) ≡ lost_sees xs (lasts_in old) (sees_in old))
    × (lost_counts left (counts_in l.lines.items) ≡ lost_counts xs (counts_in l.initial.lines.items))
    × (pushed_in l.lines.items ≡ pushed_in l.initial.lines.items)
