-- Where what stands in blocks has its lines.
-- Assumes nothing.
use Rattle.std.specs.Prelude.{List, ℕ, ◌+◌, ◌-◌, ◌*◌, ◌/◌, ◌%◌, if◌then◌else◌, nat_lt, slice_index}

-- a block is 128 lines, so 1,024 words; the first begins behind 1 MiB
abbrev pub block_line : ℕ → ℕ
block_line b = 16384 + 128 * b

-- how many blocks there are in so many lines
abbrev pub blocks_in : ℕ → ℕ
blocks_in lines = (lines - 16384) / 128

-- a number of no block is taken for the first: so damaged words lead nowhere else
abbrev pub inside : (total b : ℕ) → ℕ
inside total b = if nat_lt b total then b else 0

-- line l of what stands in these blocks
unfoldable pub line_in : (total : ℕ) → (blocks : List ℕ) → ℕ → ℕ
line_in total bs l = block_line (inside total (slice_index bs (l / 128))) + l % 128
