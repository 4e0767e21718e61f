-- Numbers in bytes, the high byte first. Assumes nothing.
use Rattle.std.specs.Prelude.{ℕ, zero, suc, ◌/◌, ◌%◌, List, [], ◌∷◌, ◌++◌, length, drop}
-- the number at a place
pub use Rattle.wire.specs.Bytes.{two_at, four_at, eight_at}

-- so many numbers of this width, one behind the other
unfoldable pub numbers : (width : ℕ) → (List ℕ → ℕ → ℕ) → ℕ → List ℕ → List ℕ
numbers w at zero f = []
numbers w at (suc n) f = at f 0 ∷ numbers w at n (drop w f)

abbrev pub eights : ℕ → List ℕ → List ℕ
eights = numbers 8 eight_at

abbrev pub fours : ℕ → List ℕ → List ℕ
fours = numbers 4 four_at

-- as many as there are
abbrev pub words_in : List ℕ → List ℕ
words_in f = eights (length f / 8) f

abbrev pub kinds_in : List ℕ → List ℕ
kinds_in f = fours (length f / 4) f

-- the bytes of a number
abbrev pub two_bytes : ℕ → List ℕ
two_bytes n = n / 256 % 256 ∷ n % 256 ∷ []

abbrev pub four_bytes : ℕ → List ℕ
four_bytes n = n / 16777216 % 256 ∷ n / 65536 % 256 ∷ n / 256 % 256 ∷ n % 256 ∷ []

abbrev pub eight_bytes : ℕ → List ℕ
eight_bytes n = four_bytes (n / 4294967296) ++ four_bytes (n % 4294967296)

-- each written, one behind the other
unfoldable pub all_of : {A : Type 0} → (A → List ℕ) → List A → List ℕ
all_of f [] = []
all_of f (x ∷ xs) = f x ++ all_of f xs

abbrev pub all_eight : List ℕ → List ℕ
all_eight = all_of eight_bytes

abbrev pub all_four : List ℕ → List ℕ
all_four = all_of four_bytes
