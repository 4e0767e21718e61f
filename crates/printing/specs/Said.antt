-- What a printing function has done. Assumes nothing.
use Rattle.std.specs.Prelude.{◌≡◌, ℕ, List, ◌++◌, drop, Ok, Err, Result}
use Rattle.printing.specs.declared.PrintError.{PrintError}
use Rattle.printing.specs.declared.PrintError.TheVariants.{Memory, Damaged}

-- this text was added, or memory was short
abbrev pub Wrote : {A : Type 0} → Result A PrintError → List ℕ → List ℕ → List ℕ → Type 0
Wrote (Ok x) old t new = new ≡ old ++ t
Wrote (Err Memory) old t new = Unit {0}
Wrote (Err Damaged) old t new = ⊥

-- this text was added of what stood here, and these words stand where the answer says; or memory was short
abbrev pub Spoke : Result ℕ PrintError → (ws rest old t new : List ℕ) → Type 0
Spoke (Ok p) ws rest old t new = (drop p ws ≡ rest) × (new ≡ old ++ t)
Spoke (Err Memory) ws rest old t new = Unit {0}
Spoke (Err Damaged) ws rest old t new = ⊥
