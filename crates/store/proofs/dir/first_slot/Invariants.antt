use Rattle.std.proofs.Common.{◌≡◌, ℕ, ◌-◌, Bool}
use Rattle.store.specs.Finds.{first_slot}
use Rattle.store.proofs.dir.first_slot.Given as goal

abbrev pub invariant-loop-i : goal.invariant-loop-i
invariant-loop-i g l = (p : ℕ → Bool) → ((i : ℕ) (b : Bool) → goal.F-post g l.test i b → b ≡ p i) → first_slot p l.i (1024 - l.i) ≡ first_slot p 0 1024
