-- Parts of bytes. Assumes nothing.
use Rattle.std.specs.Prelude.{ℕ, ◌*◌, cond, List, length, take, drop, Some, None, Option, nat_le, slice_index}
use Rattle.calls.specs.Bytes.{four_at}

-- some bytes at the front, and what follows them
pub record Front : Type 0 where
  pub part : List ℕ
  pub rest : List ℕ

abbrev pub front : ℕ → List ℕ → Front
front n f = record { part = take n f; rest = drop n f }

-- so many bytes at the front, where there are so many
abbrev pub cut_in : ℕ → List ℕ → Option Front
cut_in n f = cond (nat_le n (length f)) (Some (front n f)) None

-- a length of one byte, and so many bytes
abbrev pub short_in : List ℕ → Option Front
short_in f = cond (nat_le 1 (length f)) (cut_in (slice_index f 0) (drop 1 f)) None

-- a length of four bytes, and so many bytes
abbrev pub long_in : List ℕ → Option Front
long_in f = cond (nat_le 4 (length f)) (cut_in (four_at f 0) (drop 4 f)) None

-- how many, of one byte, and so many parts of this size
abbrev pub many_in : ℕ → List ℕ → Option Front
many_in size f = cond (nat_le 1 (length f)) (cut_in (size * slice_index f 0) (drop 1 f)) None
