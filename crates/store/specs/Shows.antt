-- What an image of the memory stands for, and which of its lines that rests on. Assumes nothing.
use Rattle.std.specs.Prelude.{◌≡◌, ℕ, ◌+◌, ◌-◌, ◌*◌, ◌/◌, ◌%◌, ◌<◌, ◌≤◌, false, List, ◌==◌}
use Rattle.device.specs.Images.{Image}
use Rattle.words.specs.Runs.{read_via, read_from, Small}
use Rattle.blocks.specs.Works.{block_line, blocks_in}
use Rattle.store.specs.Layout.{slots, root_words, root_lines, root_line, entry_words, entry_lines, entry_line, page_words, used_of, pick_of, field, size_at, block_at, blocks_for, page_at, plan_at, Mind}

-- a slot in use
abbrev pub Used : List ℕ → ℕ → Type 0
Used q i = (i < slots) × (used_of q i ≡ 1)

-- the directory, of the slots that are in use: sizes within their limit, blocks inside the memory, no block twice
pub record Sane (N : ℕ) (q d : List ℕ) : Type 0 where
  pub sizes : (i : ℕ) → Used q i → field d i 1 ≤ 4096
  pub fits : (i k : ℕ) → Used q i → k < blocks_for (size_at d i) → block_at d i k < blocks_in N
  pub each : (i k j l : ℕ) → Used q i → Used q j → k < blocks_for (size_at d i) → l < blocks_for (size_at d j) → block_at d i k ≡ block_at d j l → (i ≡ j) × (k ≡ l)

-- the image behind the root: of each slot in use its entry, the copy of its page that counts, its plan
pub record Body (N : ℕ) (g : Image) (q d : List ℕ) (page plan : ℕ → List ℕ) : Type 0 where
  pub sane : Sane N q d
  pub entries : (i : ℕ) → Used q i → (k : ℕ) → k < entry_words → g (entry_line i + k / 8) (k % 8) ≡ field d i k
  pub pages : (i : ℕ) → Used q i → read_via g (page_at N d i (pick_of q i)) 0 page_words ≡ page i
  pub plans : (i : ℕ) → Used q i → read_via g (plan_at N d i) 0 (4 * size_at d i) ≡ plan i

-- the image is as the mind has it, and stands for these pages and plans
pub record Shows (N : ℕ) (g : Image) (x : Mind) (page plan : ℕ → List ℕ) : Type 0 where
  pub lines : x.lines ≡ N
  pub root : g 0 0 ≡ x.word
  pub rooted : read_from g (root_line (x.word % 2)) 0 root_words ≡ x.page
  pub small : Small x.page
  pub body : Body N g x.page x.dir page plan

-- a block that no slot in use has
abbrev pub Free : (q d : List ℕ) → ℕ → Type 0
Free q d b = (i k : ℕ) → Used q i → k < blocks_for (size_at d i) → (block_at d i k == b) ≡ false

-- the lines that count: all but the other root page, the other copies of pages, the entries of slots not in use, the free blocks
abbrev pub Counts : Mind → ℕ → Type 0
Counts x j =
    ((k : ℕ) → k < root_lines → (j == root_line (1 - x.word % 2) + k) ≡ false)
    × ((i k : ℕ) → Used x.page i → k < 128 → (j == block_line (block_at x.dir i (1 - pick_of x.page i)) + k) ≡ false)
    × ((i k : ℕ) → i < slots → used_of x.page i ≡ 0 → k < entry_lines → (j == entry_line i + k) ≡ false)
    × ((b k : ℕ) → Free x.page x.dir b → k < 128 → (j == block_line b + k) ≡ false)
