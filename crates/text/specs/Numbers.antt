-- Numbers in a text. Assumes nothing.
use Rattle.std.specs.Prelude.{◌≡◌, ℕ, ◌+◌, ◌-◌, ◌*◌, ◌<◌, ◌≤◌, Bool, ◌&&◌, ◌||◌, List, [], ◌∷◌, length, Some, None, Option, ◌==◌, nat_le, nat_lt, slice_index}
use Rattle.std.specs.Str.{all_ascii_digits}
use Rattle.text.specs.Token.{number, variable}
use Rattle.text.specs.Lexer.{Lexed, wrong, tokens, one, value_from, top}

-- one digit more
abbrev pub Stepped : Option ℕ → ℕ → ℕ → Type 0
Stepped (Some m) n d = (48 ≤ d) × (d ≤ 57) × (m ≡ n * 10 + (d - 48)) × (m < top)
Stepped None n d = 48 ≤ d → d ≤ 57 → top ≤ n * 10 + (d - 48)

abbrev pub numbered : Option ℕ → Lexed
numbered (Some n) = tokens (number n ∷ [])
numbered None = wrong

-- the number that digits make behind n
unfoldable pub number_from : ℕ → List ℕ → Lexed
number_from n w = one (all_ascii_digits w && nat_lt (value_from n w) top) (number (value_from n w))

abbrev pub variabled : Option ℕ → Lexed
variabled (Some v) = tokens (variable v ∷ [])
variabled None = wrong

abbrev pub Below : Option ℕ → ℕ → Type 0
Below (Some v) n = v < n
Below None n = Unit {0}

-- a v, and behind it what is no 0 or the last
abbrev pub begins_variable : List ℕ → Bool
begins_variable w = nat_le 2 (length w) && slice_index w 0 == 118 && (length w == 2 || nat_lt 48 (slice_index w 1))
