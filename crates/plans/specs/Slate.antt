-- Plain memory: the words that are written, and how many more it takes. Assumes nothing.
use Rattle.std.specs.Prelude.{ℕ, ◌-◌, List, vec_items, vec_len, vec_capacity}
use Rattle.plans.specs.declared.sheet.Slate.{Slate}

abbrev pub words_of : Slate → List ℕ
words_of s = vec_items s.words

abbrev pub room_of : Slate → ℕ
room_of s = vec_capacity s.words - vec_len s.words
