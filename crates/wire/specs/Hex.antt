-- Texts in hexadecimal: two digits for each byte, the high one first. Assumes nothing.
use Rattle.std.specs.Prelude.{ℕ, ◌+◌, ◌-◌, ◌*◌, ◌/◌, ◌%◌, ◌<◌, cond, ◌&&◌, List, [], ◌∷◌, Some, None, Option, nat_le, nat_lt}

-- a digit's value, in either case
abbrev pub digit_of : ℕ → Option ℕ
digit_of b = cond (nat_le 48 b && nat_le b 57) (Some (b - 48)) (cond (nat_le 97 b && nat_le b 102) (Some (b - 97 + 10)) (cond (nat_le 65 b && nat_le b 70) (Some (b - 65 + 10)) None))

abbrev pub pair_of : Option ℕ → Option ℕ → Option (List ℕ) → Option (List ℕ)
pair_of (Some h) (Some l) (Some bs) = Some ((h * 16 + l) ∷ bs)
pair_of (Some h) (Some l) None = None
pair_of (Some h) None o = None
pair_of None l o = None

-- the bytes that a text is
unfoldable pub bytes_of : List ℕ → Option (List ℕ)
bytes_of [] = Some []
bytes_of (x ∷ []) = None
bytes_of (x ∷ y ∷ ts) = pair_of (digit_of x) (digit_of y) (bytes_of ts)

abbrev pub small : Option ℕ → Type 0
small (Some d) = d < 16
small None = Unit {0}

-- a digit, in lower case
abbrev pub letter_of : ℕ → ℕ
letter_of n = cond (nat_lt n 10) (48 + n) (87 + n)

-- the text of bytes
unfoldable pub text_of : List ℕ → List ℕ
text_of [] = []
text_of (b ∷ bs) = letter_of (b / 16) ∷ letter_of (b % 16) ∷ text_of bs
