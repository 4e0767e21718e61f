use Rattle.std.proofs.Common.{◌≡◌, ℕ, ◌≤◌, get_or}
use Rattle.lines.specs.Walks.{counts_in, pushed_in}
use Rattle.lines.proofs.journal.choose_pushed.Given as goal

abbrev pub invariant-loop-store : goal.invariant-loop-store
invariant-loop-store l =
    let old = l.initial.lines.items in
    (counts_in l.lines.items ≡ counts_in old)
    × (((k : ℕ) → get_or (pushed_in old) k 0 ≤ get_or (counts_in old) k 0) → (k : ℕ) → get_or (pushed_in l.lines.items) k 0 ≤ get_or (counts_in old) k 0)
