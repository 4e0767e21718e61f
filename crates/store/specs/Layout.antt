-- What stands where in the lasting memory, and how it is read. Every number of the layout stands here.
-- Assumes nothing.
use Rattle.std.specs.Prelude.{ℕ, ◌+◌, ◌-◌, ◌*◌, ◌/◌, ◌%◌, ◌^◌, min, List, take, drop, bit_xor, slice_index, slice_set}
use Rattle.blocks.specs.Works.{blocks_in, line_in}

-- a slot is a place for one flow
abbrev pub slots : ℕ
slots = 1024

-- the two root pages
abbrev pub root_words : ℕ
root_words = 40

abbrev pub root_lines : ℕ
root_lines = 5

abbrev pub root_line : ℕ → ℕ
root_line c = 1 + c * 5

-- the directory: an entry for each slot
abbrev pub entry_words : ℕ
entry_words = 96

abbrev pub entry_lines : ℕ
entry_lines = 12

abbrev pub dir_words : ℕ
dir_words = 98304

abbrev pub entry_line : ℕ → ℕ
entry_line i = 16 + i * 12

-- a flow's page
abbrev pub page_words : ℕ
page_words = 128

abbrev pub page_lines : ℕ
page_lines = 16

-- bit i of those that begin at a word of the root page; and that bit turned
unfoldable pub bit_of : (off : ℕ) → List ℕ → ℕ → ℕ
bit_of off p i = slice_index p (off + i / 64) / 2 ^ (i % 64) % 2

unfoldable pub turn_at : (off i : ℕ) → List ℕ → List ℕ
turn_at off i p = slice_set p (off + i / 64) (bit_xor (slice_index p (off + i / 64)) (2 ^ (i % 64)))

-- a root page: how many numbers were given out, so that the next is one more; is a slot in use; which of its page's copies counts
abbrev pub next_of : List ℕ → ℕ
next_of p = slice_index p 0 + 1

abbrev pub used_of : List ℕ → ℕ → ℕ
used_of p i = bit_of 1 p i

abbrev pub pick_of : List ℕ → ℕ → ℕ
pick_of p i = bit_of 17 p i

-- an entry: the flow's number, its plan's size, its key's length, the blocks of its page's copies and of its plan, its key
unfoldable pub field : List ℕ → (slot k : ℕ) → ℕ
field d i k = slice_index d (i * 96 + k)

abbrev pub id_at : List ℕ → ℕ → ℕ
id_at d i = field d i 0

-- at most 4,096, whatever the words are
abbrev pub size_at : List ℕ → ℕ → ℕ
size_at d i = min (field d i 1) 4096

abbrev pub key_length_at : List ℕ → ℕ → ℕ
key_length_at d i = min (field d i 2) 64

unfoldable pub key_at : List ℕ → ℕ → List ℕ
key_at d i = take (key_length_at d i) (drop (i * 96 + 32) d)

abbrev pub block_at : List ℕ → (slot k : ℕ) → ℕ
block_at d i k = field d i (8 + k)

unfoldable pub page_blocks : List ℕ → (slot copy : ℕ) → List ℕ
page_blocks d i c = take 1 (drop (i * 96 + 8 + c) d)

unfoldable pub plan_blocks : List ℕ → (slot : ℕ) → List ℕ
plan_blocks d i = take 16 (drop (i * 96 + 10) d)

-- the blocks of a flow whose plan is so large: two for its page, and 256 of size in each of the others
abbrev pub blocks_for : ℕ → ℕ
blocks_for size = 2 + (size + 255) / 256

-- the lines of a copy of a slot's page, and of its plan
abbrev pub page_at : (lines : ℕ) → List ℕ → (slot copy : ℕ) → ℕ → ℕ
page_at lines d i c = line_in (blocks_in lines) (page_blocks d i c)

abbrev pub plan_at : (lines : ℕ) → List ℕ → (slot : ℕ) → ℕ → ℕ
plan_at lines d i = line_in (blocks_in lines) (plan_blocks d i)

-- What the engine holds in memory that does not last: how many lines there are, the time, the root word, the root page in force, the directory.
pub record Mind : Type 0 where
  pub lines : ℕ
  pub now : ℕ
  pub word : ℕ
  pub page : List ℕ
  pub dir : List ℕ

-- after a flip
abbrev pub flipped_to : Mind → (page dir : List ℕ) → Mind
flipped_to x q d = record { lines = x.lines; now = x.now; word = 1 - x.word % 2; page = q; dir = d }

-- at another time
abbrev pub at_time : ℕ → Mind → Mind
at_time t x = record { lines = x.lines; now = t; word = x.word; page = x.page; dir = x.dir }
