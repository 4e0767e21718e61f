-- A new entry, and the directory with it. Assumes nothing.
use Rattle.std.specs.Prelude.{ℕ, zero, suc, ◌+◌, ◌-◌, ◌*◌, cond, List, [], ◌∷◌, length, ◌==◌, nat_lt, slice_index, slice_set}
use Rattle.store.specs.Layout.{next_of}

-- word k of the entry of a flow
abbrev pub entry_word : (id size : ℕ) → (key blocks : List ℕ) → ℕ → ℕ
entry_word id size key bs k =
    cond (nat_lt k 8) (cond (k == 0) id (cond (k == 1) size (cond (k == 2) (length key) 0)))
    (cond (nat_lt k 26) (slice_index bs (k - 8)) (cond (nat_lt k 32) 0 (slice_index key (k - 32))))

-- f k, f (k + 1), .. f (k + n - 1)
unfoldable pub list_from : (ℕ → ℕ) → (k n : ℕ) → List ℕ
list_from f k zero = []
list_from f k (suc n) = f k ∷ list_from f (k + 1) n

unfoldable pub entry_of : (id size : ℕ) → (key blocks : List ℕ) → List ℕ
entry_of id size key bs = list_from (entry_word id size key bs) 0 96

-- these words, put from place p on
unfoldable pub put_from : (p : ℕ) → List ℕ → List ℕ → List ℕ
put_from p [] d = d
put_from p (e ∷ es) d = put_from (p + 1) es (slice_set d p e)

abbrev pub put_entry : (slot : ℕ) → (entry dir : List ℕ) → List ℕ
put_entry i es d = put_from (i * 96) es d

-- one number more is given out
abbrev pub bumped : List ℕ → List ℕ
bumped p = slice_set p 0 (next_of p)
