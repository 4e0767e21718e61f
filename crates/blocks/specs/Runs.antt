-- Runs of words in lines that need not be neighbours, in an image, and what loading and saving them does.
-- Assumes nothing.
use Rattle.std.specs.Prelude.{◌≡◌, false, List, ℕ, ◌*◌, ◌<◌, ◌≤◌, ◌==◌, length}
use Rattle.device.specs.Lines.{Lines}
use Rattle.device.specs.Safe.{Safe}
use Rattle.device.specs.Images.{Image}
use Rattle.device.specs.Flips.{Amid}
use Rattle.device.specs.Costs.{Costs, Any}
use Rattle.words.specs.Works.{load_via, save_via}
use Rattle.words.specs.Runs.{read_via, put_via, Each, Small, Drafting}

-- While a call drafts, runs may be loaded, and saved where nothing counts.
pub record Runs (C : ℕ → Type 0) : Type 0 where
  pub loading : (N : ℕ) (g h : Image) (m : Lines) (at : ℕ → ℕ) (n : ℕ) → Drafting C g h m → ((l : ℕ) → at l < N)
      → Safe N (λ ws o. (ws ≡ read_via h at 0 n) × Drafting C g h o) (λ o. Amid C g o) (load_via at 0 n) m
  pub saving : (N : ℕ) (g h : Image) (m : Lines) (at : ℕ → ℕ) (n : ℕ) (ws : List ℕ) → Drafting C g h m
      → ((j k : ℕ) → C j → k < n → (j == at k) ≡ false) → length ws ≤ 8 * n → ((l : ℕ) → at l < N) → Small ws
      → Safe N (λ x o. Drafting C g (put_via at 0 ws h) o) (λ o. Amid C g o) (save_via at n ws) m

-- what is read back of words that were put, there and elsewhere
pub record Reads : Type 0 where
  pub here : (at : ℕ → ℕ) (n : ℕ) (ws : List ℕ) (h : Image) → Each at n → length ws ≤ 8 * n → read_via (put_via at 0 ws h) at 0 (length ws) ≡ ws
  pub away : (at : ℕ → ℕ) (n : ℕ) (ws : List ℕ) (h : Image) (j w : ℕ) → length ws ≤ 8 * n → ((k : ℕ) → k < n → (j == at k) ≡ false) → put_via at 0 ws h j w ≡ h j w

-- a load for each word, a store for each word, a push for each line
pub record RunsCost : Type 0 where
  pub loading : (at : ℕ → ℕ) (n : ℕ) → Costs (λ ws. length ws ≡ n) n 0 0 0 (load_via at 0 n)
  pub saving : (at : ℕ → ℕ) (n : ℕ) (ws : List ℕ) → Costs Any 0 (length ws) n 0 (save_via at n ws)
