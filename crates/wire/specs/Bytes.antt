-- Numbers in bytes, the high byte first. Assumes nothing.
use Rattle.std.specs.Prelude.{ℕ, ◌+◌, ◌*◌, List, slice_index}

-- the number at a place
abbrev pub two_at : List ℕ → ℕ → ℕ
two_at f i = slice_index f i * 256 + slice_index f (i + 1)

abbrev pub four_at : List ℕ → ℕ → ℕ
four_at f i = slice_index f i * 16777216 + (slice_index f (i + 1) * 65536 + (slice_index f (i + 2) * 256 + slice_index f (i + 3)))

abbrev pub eight_at : List ℕ → ℕ → ℕ
eight_at f i = four_at f i * 4294967296 + four_at f (i + 4)
