-- The memory in a file: what it holds, and what each of its operations does.
-- Assumes nothing.
use Rattle.std.specs.Prelude.{◌≡◌, ℕ, ◌+◌, ◌*◌, ◌/◌, ◌<◌, Bool, is_some, vec_items, vec_len, slice_index}
use Rattle.device.specs.Lines.{Lines, seen}
use Rattle.device.specs.Does.{Op}
use Rattle.device.specs.Ties.{Follows}
use Rattle.file_memory.specs.declared.memory.FileMemory.{FileMemory}

abbrev pub lines_of : {F : Type 0} → FileMemory F → ℕ
lines_of s = vec_len s.words / 8

abbrev pub is_broken : {F : Type 0} → FileMemory F → Bool
is_broken s = is_some s.trouble

-- its words are what is seen of the lines; what of them has reached the file, no program can know
abbrev pub Stands : {F : Type 0} → FileMemory F → Lines → Type 0
Stands s m = (l k : ℕ) → l < lines_of s → k < 8 → seen m l k ≡ slice_index (vec_items s.words) (l * 8 + k)

pub record FileStep {F : Type 0} (s : FileMemory F) (o : Op) (t : FileMemory F) : Type 0 where
  pub size : lines_of t ≡ lines_of s
  pub follows : Follows is_broken Stands s o t
