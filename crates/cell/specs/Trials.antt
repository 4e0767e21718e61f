-- A put that is cut off, on the simulated memory.
-- Assumes nothing.
use Rattle.std.specs.Prelude.{◌⊎◌, List, ℕ}
use Rattle.device.specs.Lines.{Lines}
use Rattle.lines.specs.declared.cached.Cached.{Cached}
use Rattle.lines.specs.Caches.{Stands}
use Rattle.cell.specs.Cells.{Rest}

-- whatever the cell held before, afterwards it holds that, or the new words
abbrev pub Survives : Cached → List ℕ → Cached → Type 0
Survives s ws t = (m : Lines) (x : List ℕ) → Stands s m → Rest x m → (o : Lines) × Stands t o × (Rest x o ⊎ Rest ws o)
