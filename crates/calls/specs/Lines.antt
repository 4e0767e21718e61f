-- Lines: the length of the rest, a tag, and a call or an answer. Assumes nothing.
use Rattle.std.specs.Prelude.{ℕ, ◌+◌, cond, ◌&&◌, List, ◌++◌, length, drop, Some, None, Option, ◌==◌, nat_le}
use Rattle.calls.specs.Bytes.{four_at, four_bytes}

abbrev pub framed : (tag : ℕ) → List ℕ → List ℕ
framed tag bs = four_bytes (length bs + 4) ++ (four_bytes tag ++ bs)

-- the tag, where there are so many bytes
abbrev pub tag_in : List ℕ → ℕ
tag_in f = cond (nat_le 8 (length f)) (four_at f 4) 0

-- the call's bytes, where the length is right
abbrev pub body_in : List ℕ → Option (List ℕ)
body_in f = cond (nat_le 8 (length f) && four_at f 0 + 4 == length f) (Some (drop 8 f)) None
