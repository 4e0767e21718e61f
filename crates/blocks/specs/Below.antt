-- What stands in blocks stands below the end of the last block.
-- Assumes nothing.
use Rattle.std.specs.Prelude.{◌≡◌, Bool, true, false, if◌then◌else◌, List, ℕ, ◌+◌, ◌*◌, ◌/◌, ◌<◌, nat_lt, slice_index, refl}
use Rattle.std.proofs.Common.{arith, ltb-true}
use Rattle.blocks.specs.Works.{inside, line_in}

inside_below : (total b : ℕ) → 0 < total → inside total b < total
inside_below total b some = go (nat_lt b total) refl
  where
    go : (t : Bool) → nat_lt b total ≡ t → (if t then b else 0) < total
    go true e = ltb-true b total e
    go false e = some

pub line_in_below : (total : ℕ) (bs : List ℕ) (l : ℕ) → 0 < total → line_in total bs l < 16384 + 128 * total
unfolding line_in
line_in_below total bs l some = omega (arith, inside_below total (slice_index bs (l / 128)) some)
