use Rattle.std.proofs.Common.{◌≡◌, ℕ, suc, ◌+◌, ◌<◌, ◌≤◌, get_or, take}
use Rattle.tidy.specs.Tidies.{feeds}
use Rattle.tidy.proofs.place_of.Given as goal

abbrev pub invariant-loop-i : goal.invariant-loop-i
invariant-loop-i l = (l.begin ≤ l.i) × (l.line ≡ 1 + feeds (take l.i l.text)) × (l.line ≤ 1 + l.i) × ((k : ℕ) → suc k ≡ l.begin → get_or l.text k 0 ≡ 10) × ((k : ℕ) → l.begin ≤ k → k < l.i → get_or l.text k 0 ≡ 10 → ⊥)
