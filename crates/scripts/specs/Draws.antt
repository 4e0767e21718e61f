-- Draws: each number from the one before. Assumes nothing.
use Rattle.std.specs.Prelude.{ℕ, ◌*◌, ◌/◌, ◌%◌, ◌^◌, cond, ◌==◌, bit_xor}

abbrev pub begun : ℕ → ℕ
begun s = cond (s == 0) 1 s

-- a number with itself shifted, in 64 bits
abbrev pub left : ℕ → ℕ → ℕ
left k x = bit_xor x (x * 2 ^ k % 2 ^ 64)

abbrev pub right : ℕ → ℕ → ℕ
right k x = bit_xor x (x / 2 ^ k)

abbrev pub drawn : ℕ → ℕ
drawn x = left 17 (right 7 (left 13 x))
