-- A cell of sixteen words, kept twice: what its calls do, as work.
-- Assumes nothing.
use Rattle.std.specs.Prelude.{List, ℕ, ◌+◌, ◌-◌, ◌*◌, ◌%◌}
use Rattle.device.specs.Lines.{Work, load}
use Rattle.device.specs.Does.{bind}
use Rattle.device.specs.Flips.{commit_work}
use Rattle.words.specs.Works.{load_words, save_words}

-- Line 0 has the root word, whose parity says which copy counts: lines 1 and 2, or lines 3 and 4.
abbrev pub counts_at : ℕ → ℕ
counts_at r = 1 + 2 * (r % 2)

abbrev pub spare_at : ℕ → ℕ
spare_at r = 1 + 2 * (1 - r % 2)

unfoldable pub get_work : Work (List ℕ)
get_work = load 0 0 (λ r. load_words (counts_at r) 0 16)

-- the copy that does not count is written; then the root word is flipped
abbrev pub put_at : ℕ → List ℕ → Work (Unit {0})
put_at r ws = bind (save_words (spare_at r) 2 ws) (λ x. commit_work 0 0 (1 - r % 2))

unfoldable pub put_work : List ℕ → Work (Unit {0})
put_work ws = load 0 0 (λ r. put_at r ws)
