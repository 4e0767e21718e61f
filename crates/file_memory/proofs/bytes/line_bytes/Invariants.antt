use Rattle.std.proofs.Common.{◌≡◌, ℕ, ◌+◌, ◌*◌, ◌/◌, ◌%◌, ◌<◌, length, get_or}
use Rattle.file_memory.specs.Bytes.{bytes_of}
use Rattle.file_memory.proofs.bytes.line_bytes.Given as goal

abbrev pub invariant-loop-k : goal.invariant-loop-k
invariant-loop-k l =
    (length l.bytes ≡ 64)
    × ((j : ℕ) → j < 8 * l.k → get_or l.bytes j 0 ≡ get_or (bytes_of (get_or l.words (l.start + j / 8) 0)) (j % 8) 0)
