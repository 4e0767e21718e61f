-- The simulated memory: what it holds, which lines it stands for, and what each of its operations does to these.
-- Assumes nothing.
use Rattle.std.specs.Prelude.{◌≡◌, ℕ, ◌+◌, ◌*◌, ◌/◌, ◌<◌, ◌≤◌, List, [], ◌∷◌, length, vec_items, vec_len, slice_index}
use Rattle.device.specs.Lines.{Lines, applied, Left}
use Rattle.device.specs.Does.{Op}
use Rattle.device.specs.Ties.{Follows}
use Rattle.lines.specs.declared.journal.Store.{Store}
use Rattle.lines.specs.declared.cached.Cached.{Cached}
use Rattle.lines.specs.Walks.{lasts_in, sees_in, counts_in, pushed_in, of_line}

-- lasts: the words that have reached the memory; sees: the words that a load gives; journal: the stores since, oldest first;
-- counts: for each line, how many stores the journal has; pushed: how many of these are pushed
pub record Held : Type 0 where
  pub lasts : List ℕ
  pub sees : List ℕ
  pub journal : List Store
  pub counts : List ℕ
  pub pushed : List ℕ

abbrev pub held_in : Cached → Held
held_in s = record {
  lasts = lasts_in (vec_items s.words);
  sees = sees_in (vec_items s.words);
  journal = vec_items s.journal;
  counts = counts_in (vec_items s.lines);
  pushed = pushed_in (vec_items s.lines);
}

abbrev pub lines_in : Cached → ℕ
lines_in s = vec_len s.words / 8

-- each store is to a word of the n lines
abbrev pub Inside : ℕ → List Store → Type 0
Inside n [] = Unit {0}
Inside n (x ∷ xs) = (x.place < 8 * n) × Inside n xs

-- what is held is in order, for n lines
pub record Sound (n : ℕ) (h : Held) : Type 0 where
  pub all_last : length h.lasts ≡ 8 * n
  pub all_seen : length h.sees ≡ 8 * n
  pub all_counts : length h.counts ≡ n
  pub all_pushed : length h.pushed ≡ n
  pub inside : Inside n h.journal
  pub sees : (l w : ℕ) → l < n → w < 8 → slice_index h.sees (l * 8 + w) ≡ applied (of_line l h.journal) (λ k. slice_index h.lasts (l * 8 + k)) w
  pub counts : (l : ℕ) → l < n → slice_index h.counts l ≡ length (of_line l h.journal)
  pub pushed : (l : ℕ) → slice_index h.pushed l ≤ slice_index h.counts l

-- of each line it holds what lasts, the stores since, and how many of them are pushed
pub record Shows (n : ℕ) (h : Held) (m : Lines) : Type 0 where
  pub lasts : (l w : ℕ) → l < n → w < 8 → (m l).lasts w ≡ slice_index h.lasts (l * 8 + w)
  pub since : (l : ℕ) → l < n → (m l).since ≡ of_line l h.journal
  pub pushed : (l : ℕ) → l < n → (m l).pushed ≡ slice_index h.pushed l

pub record Stands (s : Cached) (m : Lines) : Type 0 where
  pub sound : Sound (lines_in s) (held_in s)
  pub shows : Shows (lines_in s) (held_in s) m

-- one operation of the simulated memory is the given one, and keeps the number of lines
pub record CachedStep (s : Cached) (o : Op) (t : Cached) : Type 0 where
  pub size : lines_in t ≡ lines_in s
  pub follows : Follows (λ x. x.stopped) Stands s o t

-- The power fails: of each line some first part of its stores is left, and nothing else has changed.
abbrev pub Fails : Cached → Cached → Type 0
Fails s t = (m : Lines) → Stands s m → (n : Lines) × Left m n × Stands t n
