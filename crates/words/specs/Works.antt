-- Runs of words, as work.
-- Assumes nothing.
use Rattle.std.specs.Prelude.{List, [], ◌∷◌, ℕ, zero, suc, ◌+◌, ◌/◌, ◌%◌}
use Rattle.device.specs.Lines.{Work, yields, load, store, push}
use Rattle.device.specs.Does.{bind, loop_from}

-- n words, from word i of what stands in the lines `at`
unfoldable pub load_via : (at : ℕ → ℕ) → (i n : ℕ) → Work (List ℕ)
load_via at i zero = yields []
load_via at i (suc n) = load (at (i / 8)) (i % 8) (λ v. bind (load_via at (i + 1) n) (λ vs. yields (v ∷ vs)))

-- these words, into word i of what stands there and on
unfoldable pub store_via : (at : ℕ → ℕ) → (i : ℕ) → List ℕ → Work (Unit {0})
store_via at i [] = yields tt
store_via at i (w ∷ ws) = store (at (i / 8)) (i % 8) w (store_via at (i + 1) ws)

abbrev pub push_turn : (at : ℕ → ℕ) → (i : ℕ) → Unit {0} → Work (Unit {0})
push_turn at i x = push (at i) (yields tt)

-- the first n of these lines are pushed
unfoldable pub push_via : (at : ℕ → ℕ) → (n : ℕ) → Work (Unit {0})
push_via at n = loop_from (push_turn at) 0 n tt

-- words are stored, and the lines that they stand in are pushed
unfoldable pub save_via : (at : ℕ → ℕ) → (n : ℕ) → List ℕ → Work (Unit {0})
save_via at n ws = bind (store_via at 0 ws) (λ x. push_via at n)

-- lines that are neighbours, from one on
abbrev pub from_line : (line i : ℕ) → ℕ
from_line line i = line + i

-- the same where the lines are neighbours
abbrev pub load_words : (line i n : ℕ) → Work (List ℕ)
load_words line i n = load_via (from_line line) i n

abbrev pub store_words : (line i : ℕ) → List ℕ → Work (Unit {0})
store_words line i ws = store_via (from_line line) i ws

abbrev pub push_lines : (line n : ℕ) → Work (Unit {0})
push_lines line n = push_via (from_line line) n

abbrev pub save_words : (line n : ℕ) → List ℕ → Work (Unit {0})
save_words line n ws = save_via (from_line line) n ws
