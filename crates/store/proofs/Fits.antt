-- Words of 64 bits. Assumes nothing.
use Rattle.std.proofs.Common.{ℕ, zero, suc, ◌<◌, List, [], ◌∷◌, get_or, set, arith}
use Rattle.words.specs.Runs.{Small}

pub small_set : (ws : List ℕ) (i v : ℕ) → v < 18446744073709551616 → Small ws → Small (set ws i v)
small_set [] i v h s = tt
small_set (w ∷ ws) zero v h s = (h, s.1)
small_set (w ∷ ws) (suc i) v h s = (s.0, small_set ws i v h s.1)

pub small_at : (ws : List ℕ) (i : ℕ) → Small ws → get_or ws i 0 < 18446744073709551616
small_at [] i s = omega arith
small_at (w ∷ ws) zero s = s.0
small_at (w ∷ ws) (suc i) s = small_at ws i s.1
