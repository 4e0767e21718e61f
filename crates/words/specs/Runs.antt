-- Runs of words in an image, and what loading and saving them does.
-- Assumes nothing.
use Rattle.std.specs.Prelude.{◌≡◌, ◌⊎◌, false, List, [], ◌∷◌, ℕ, zero, suc, ◌+◌, ◌*◌, ◌/◌, ◌%◌, ◌<◌, ◌≤◌, ◌==◌, length}
use Rattle.device.specs.Lines.{Lines}
use Rattle.device.specs.Safe.{Safe}
use Rattle.device.specs.Images.{Image, upd, All, None, At, Agree}
use Rattle.device.specs.Flips.{Amid}
use Rattle.device.specs.Costs.{Costs, Any}
use Rattle.words.specs.Works.{load_via, store_via, push_via, save_via, from_line, load_words, store_words, push_lines, save_words}

-- n words of an image, from word i of what stands in the lines `at`
unfoldable pub read_via : Image → (at : ℕ → ℕ) → (i n : ℕ) → List ℕ
read_via g at i zero = []
read_via g at i (suc n) = g (at (i / 8)) (i % 8) ∷ read_via g at (i + 1) n

-- the image with these words there
unfoldable pub put_via : (at : ℕ → ℕ) → (i : ℕ) → List ℕ → Image → Image
put_via at i [] g = g
put_via at i (w ∷ ws) g = put_via at (i + 1) ws (upd (at (i / 8)) (i % 8) w g)

-- the same where the lines are neighbours
abbrev pub read_from : Image → (line i n : ℕ) → List ℕ
read_from g line i n = read_via g (from_line line) i n

abbrev pub puts : (line i : ℕ) → List ℕ → Image → Image
puts line i ws g = put_via (from_line line) i ws g

-- the first n lines are each another
abbrev pub Each : (at : ℕ → ℕ) → (n : ℕ) → Type 0
Each at n = (a b : ℕ) → a < n → b < n → at a ≡ at b → a ≡ b

-- words of 64 bits
abbrev pub Small : List ℕ → Type 0
Small [] = Unit {0}
Small (w ∷ ws) = (w < 18446744073709551616) × Small ws

-- two runs of lines that share none
abbrev pub Apart : (line n line' n' : ℕ) → Type 0
Apart line n line' n' = (line + n ≤ line') ⊎ (line' + n' ≤ line)

-- Between the start of a call and its flip. C: the lines that count; g: the image when the call began; h: the image now.
-- The lines of C are clean and as they were, and all that was stored elsewhere is pushed.
pub record Drafting (C : ℕ → Type 0) (g h : Image) (m : Lines) : Type 0 where
  pub at : At h C All m
  pub agree : Agree C g h

-- While a call drafts, runs may be loaded, and saved where nothing counts, wherever their lines stand.
pub record RunsVia (C : ℕ → Type 0) : Type 0 where
  pub loading : (N : ℕ) (g h : Image) (m : Lines) (at : ℕ → ℕ) (n : ℕ) → Drafting C g h m → ((l : ℕ) → 8 * l < n → at l < N)
      → Safe N (λ ws o. (ws ≡ read_via h at 0 n) × Drafting C g h o) (λ o. Amid C g o) (load_via at 0 n) m
  pub saving : (N : ℕ) (g h : Image) (m : Lines) (at : ℕ → ℕ) (n : ℕ) (ws : List ℕ) → Drafting C g h m
      → ((j k : ℕ) → C j → k < n → (j == at k) ≡ false) → length ws ≤ 8 * n → ((l : ℕ) → l < n → at l < N) → Small ws
      → Safe N (λ x o. Drafting C g (put_via at 0 ws h) o) (λ o. Amid C g o) (save_via at n ws) m

-- what is read back of words that were put, there and elsewhere
pub record ReadsVia : Type 0 where
  pub here : (at : ℕ → ℕ) (n : ℕ) (ws : List ℕ) (h : Image) → Each at n → length ws ≤ 8 * n → read_via (put_via at 0 ws h) at 0 (length ws) ≡ ws
  pub away : (at : ℕ → ℕ) (n : ℕ) (ws : List ℕ) (h : Image) (j w : ℕ) → length ws ≤ 8 * n → ((k : ℕ) → k < n → (j == at k) ≡ false) → put_via at 0 ws h j w ≡ h j w

-- what runs cost: a load for each word, a store for each word, a push for each line
pub record CostsVia : Type 0 where
  pub loading : (at : ℕ → ℕ) (n : ℕ) → Costs (λ ws. length ws ≡ n) n 0 0 0 (load_via at 0 n)
  pub storing : (at : ℕ → ℕ) (ws : List ℕ) → Costs Any 0 (length ws) 0 0 (store_via at 0 ws)
  pub pushing : (at : ℕ → ℕ) (n : ℕ) → Costs Any 0 0 n 0 (push_via at n)
  pub saving : (at : ℕ → ℕ) (n : ℕ) (ws : List ℕ) → Costs Any 0 (length ws) n 0 (save_via at n ws)

-- While a call drafts, any number of runs may be loaded, and any number saved that are away from the lines that count.
pub record Runs (C : ℕ → Type 0) : Type 0 where
  -- at the start of a call
  pub starting : (g : Image) (m : Lines) → At g All None m → Drafting C g g m
  -- a load gives what the image has, and changes nothing
  pub loading : (N : ℕ) (g h : Image) (m : Lines) (line n : ℕ) → Drafting C g h m → line + (n + 7) / 8 ≤ N
      → Safe N (λ ws o. (ws ≡ read_from h line 0 n) × Drafting C g h o) (λ o. Amid C g o) (load_words line 0 n) m
  -- words that are saved are in the image, and until then nothing that counts has changed
  pub saving : (N : ℕ) (g h : Image) (m : Lines) (line n : ℕ) (ws : List ℕ) → Drafting C g h m
      → ((j k : ℕ) → C j → k < n → (j == line + k) ≡ false) → length ws ≤ 8 * n → line + n ≤ N → Small ws
      → Safe N (λ x o. Drafting C g (puts line 0 ws h) o) (λ o. Amid C g o) (save_words line n ws) m

-- what is read back of words that were put, there and elsewhere
pub record Reads : Type 0 where
  pub here : (line : ℕ) (ws : List ℕ) (h : Image) → read_from (puts line 0 ws h) line 0 (length ws) ≡ ws
  pub away : (line n line' n' c : ℕ) (ws : List ℕ) (h : Image) → length ws ≤ 8 * n → c ≤ 8 * n' → Apart line n line' n'
      → read_from (puts line 0 ws h) line' 0 c ≡ read_from h line' 0 c
  -- the flip of a word of a line below
  pub flipped : (root k v line c : ℕ) (h i : Image) → Agree All (upd root k v h) i → root < line → read_from i line 0 c ≡ read_from h line 0 c

-- what runs cost: a load for each word, a store for each word, a push for each line
pub record RunsCost : Type 0 where
  pub loading : (line n : ℕ) → Costs (λ ws. length ws ≡ n) n 0 0 0 (load_words line 0 n)
  pub storing : (line : ℕ) (ws : List ℕ) → Costs Any 0 (length ws) 0 0 (store_words line 0 ws)
  pub pushing : (line n : ℕ) → Costs Any 0 0 n 0 (push_lines line n)
  pub saving : (line n : ℕ) (ws : List ℕ) → Costs Any 0 (length ws) n 0 (save_words line n ws)
