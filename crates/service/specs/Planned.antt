-- What is read of a text. Assumes nothing.
use Rattle.std.specs.Prelude.{◌≡◌, ℕ, ◌*◌, ◌≤◌, List, take, Some, None, Option}
use Rattle.plans.specs.Plan.{Block, size_of}
use Rattle.plans.specs.Flat.{laid}
use Rattle.text.specs.Text.{nothing, plan, read_text}

-- the text is of a plan of this size, whose words stand first
pub record PlanAt (text : List ℕ) (size : ℕ) (words : List ℕ) : Type 0 where
  pub block : Block
  pub read : read_text 65536 text ≡ plan block
  pub sized : size ≡ size_of block
  pub small : size ≤ 4096
  pub holds : take (4 * size) words ≡ laid block

abbrev pub Planned : Option ℕ → (text words : List ℕ) → Type 0
Planned None text words = read_text 65536 text ≡ nothing
Planned (Some size) text words = PlanAt text size words
