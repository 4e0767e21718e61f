-- What a unit's words say.
use Rattle.std.proofs.Common.{◌≡◌, ℕ, ◌+◌, ◌%◌, ◌≤◌, List, length, get_or, None, Option, sym, ap, ◌∙◌}
use Rattle.std.proofs.lemmas.List.{get_or_past}
use Rattle.runs.specs.declared.unit.Statement.{Statement}
use Rattle.runs.specs.Units.{statement_of, statement_at}

-- past the words there is nothing
pub past_words : (ws : List ℕ) (a : ℕ) → length ws ≤ a → None ≡ statement_at ws a
unfolding statement_at
past_words ws a h = sym (ap (λ (n : ℕ). statement_of (n % 32) a (get_or ws (a + 1) 0) (get_or ws (a + 2) 0) (get_or ws (a + 3) 0)) (get_or_past ws a 0 h))

pub in_words : (ws : List ℕ) (a b c d : ℕ) (r : Option Statement) → r ≡ statement_of (get_or ws a 0 % 32) a b c d → b ≡ get_or ws (a + 1) 0 → c ≡ get_or ws (a + 2) 0 → d ≡ get_or ws (a + 3) 0 → r ≡ statement_at ws a
unfolding statement_at
in_words ws a b c d r h p q s = h ∙ λ i. statement_of (get_or ws a 0 % 32) a (p i) (q i) (s i)
