-- How long the words of a plan are, and that they are of 64 bits. Assumes nothing.
use Rattle.std.specs.Prelude.{◌≡◌, ◌*◌, ◌≤◌, true, length}
use Rattle.plans.specs.Plan.{Block, block_ok, size_of}
use Rattle.plans.specs.Flat.{laid}
use Rattle.pages.specs.Sound.{Small}

pub record LaidFits : Type 0 where
  pub laid_small : (b : Block) → block_ok b ≡ true → size_of b ≤ 4096 → Small (laid b)
  pub laid_long : (b : Block) → length (laid b) ≡ 4 * size_of b
