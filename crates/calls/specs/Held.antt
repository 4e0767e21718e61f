-- Numbers as they stand in a call. Assumes nothing.
use Rattle.std.specs.Prelude.{ℕ, ◌/◌, List, length}
use Rattle.calls.specs.Bytes.{numbers}
use Rattle.calls.specs.declared.types.Numbers.{Numbers}

abbrev pub numbers_held : {T : Type 0} → (width : ℕ) → (List ℕ → ℕ → ℕ) → Numbers T → List ℕ
numbers_held w at s = numbers w at (length s.bytes.now / w) s.bytes.now
