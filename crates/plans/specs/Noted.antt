-- Plain memory as a list of words of which the first so many are written. Assumes nothing.
use Rattle.std.specs.Prelude.{◌≡◌, ℕ, ◌+◌, ◌<◌, List, length, slice_set}

-- one word more is written, behind those that are
pub record Noted (xs : List ℕ) (n w : ℕ) (ys : List ℕ) (m : ℕ) : Type 0 where
  pub fits : n < length xs
  pub holds : ys ≡ slice_set xs n w
  pub count : m ≡ n + 1
