-- Words as bytes, the high byte first, and the length that a file of lines may have.
-- Assumes nothing.
use Rattle.std.specs.Prelude.{◌≡◌, ℕ, ◌+◌, ◌*◌, ◌/◌, ◌%◌, ◌<◌, List, [], ◌∷◌, slice_index}

abbrev pub bytes_of : ℕ → List ℕ
bytes_of w =
    (w / 72057594037927936 % 256) ∷ (w / 281474976710656 % 256) ∷ (w / 1099511627776 % 256) ∷ (w / 4294967296 % 256)
    ∷ (w / 16777216 % 256) ∷ (w / 65536 % 256) ∷ (w / 256 % 256) ∷ (w % 256) ∷ []

abbrev pub word_of : (b0 b1 b2 b3 b4 b5 b6 b7 : ℕ) → ℕ
word_of b0 b1 b2 b3 b4 b5 b6 b7 =
    b0 * 72057594037927936 + b1 * 281474976710656 + b2 * 1099511627776 + b3 * 4294967296 + b4 * 16777216 + b5 * 65536 + b6 * 256 + b7

-- the word whose bytes stand at a place of a list
abbrev pub word_in : List ℕ → ℕ → ℕ
word_in bs p =
    word_of (slice_index bs p) (slice_index bs (p + 1)) (slice_index bs (p + 2)) (slice_index bs (p + 3)) (slice_index bs (p + 4)) (slice_index bs (p + 5)) (slice_index bs (p + 6)) (slice_index bs (p + 7))

-- the bytes of the eight words from a place on
abbrev pub Laid : (words : List ℕ) (start : ℕ) (bytes : List ℕ) → Type 0
Laid ws start bs = (i : ℕ) → i < 64 → slice_index bs i ≡ slice_index (bytes_of (slice_index ws (start + i / 8))) (i % 8)

-- a line that is written and read again is the same eight words
abbrev pub BytesReadBack : Type 0
BytesReadBack = (ws : List ℕ) (start : ℕ) (bs : List ℕ) → Laid ws start bs → (k : ℕ) → k < 8 → slice_index ws (start + k) < 18446744073709551616 → word_in bs (8 * k) ≡ slice_index ws (start + k)
