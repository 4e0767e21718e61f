-- A framed line: the length of the rest (4 bytes), a tag (4), and a call, whose first byte is its kind. Assumes nothing.
use Rattle.std.specs.Prelude.{◌≡◌, ℕ, ◌+◌, Bool, cond, ◌&&◌, List, length, drop, Some, None, Option, ◌==◌, nat_le, slice_index}
use Rattle.std.specs.List.{list_all}
use Rattle.wire.specs.declared.Refusal.{Refusal}
use Rattle.wire.specs.declared.Refusal.TheVariants.{BadCall, NotFound, WrongPhase, NotOut, NoMore, NoTime, NotBuilt}
use Rattle.wire.specs.declared.TurnedAway.{TurnedAway}
use Rattle.wire.specs.Bytes.{four_at}
use Rattle.wire.specs.Hex.{bytes_of}

-- the number that goes out
abbrev pub number_of : Refusal → ℕ
number_of BadCall = 1
number_of NotFound = 2
number_of WrongPhase = 3
number_of NotOut = 5
number_of NoMore = 8
number_of NoTime = 10
number_of NotBuilt = 12

-- the tag, where there are so many bytes
abbrev pub tag_of : List ℕ → ℕ
tag_of f = cond (nat_le 8 (length f)) (four_at f 4) 0

-- of a kind of call: its length is right, and its kind is one of the nine
abbrev pub is_call : List ℕ → Bool
is_call f = nat_le 9 (length f) && four_at f 0 + 4 == length f && nat_le 1 (slice_index f 8) && nat_le (slice_index f 8) 9

-- 12: not built yet, for each kind of call; 10: no time was told, for all else
abbrev pub refusal_of : List ℕ → ℕ
refusal_of f = cond (is_call f) 12 10

-- a house's lines of input -----------------------------------------------------

-- the word in and a blank
abbrev pub is_in : List ℕ → Bool
is_in ls = nat_le 3 (length ls) && slice_index ls 0 == 105 && slice_index ls 1 == 110 && slice_index ls 2 == 32

-- the frame of a line, in hexadecimal behind them
abbrev pub frame_of : List ℕ → Option (List ℕ)
frame_of ls = cond (is_in ls) (bytes_of (drop 3 ls)) None

abbrev pub digits : List ℕ → Bool
digits bs = list_all (λ b. nat_le 48 b && nat_le b 57) bs

-- the word time, a blank, and 1 to 20 digits
abbrev pub is_time : List ℕ → Bool
is_time ls = nat_le 6 (length ls) && nat_le (length ls) 25 && slice_index ls 0 == 116 && slice_index ls 1 == 105 && slice_index ls 2 == 109 && slice_index ls 3 == 101 && slice_index ls 4 == 32 && digits (drop 5 ls)

-- the answer to a line with this frame, or with none
abbrev pub Answered : Option (List ℕ) → (time : Bool) → TurnedAway → Type 0
Answered (Some f) t r = (r.tag ≡ tag_of f) × (number_of r.why ≡ refusal_of f)
Answered None t r = (r.tag ≡ 0) × (number_of r.why ≡ cond t 12 10)
