-- Looking through the slots. Assumes nothing.
use Rattle.std.specs.Prelude.{ℕ, zero, suc, ◌+◌, ◌*◌, Bool, cond, not, ◌&&◌, List, Some, None, Option, ◌==◌}
use Rattle.plans.specs.Plan.{same_name}
use Rattle.store.specs.Layout.{used_of, id_at, size_at, key_at}

-- the first of n slots, from slot i on, of which the test holds
unfoldable pub first_slot : (ℕ → Bool) → (i n : ℕ) → Option ℕ
first_slot p i zero = None
first_slot p i (suc n) = cond (p i) (Some i) (first_slot p (i + 1) n)

abbrev pub by_id : (root dir : List ℕ) → (id : ℕ) → ℕ → Bool
by_id q d id i = used_of q i == 1 && id_at d i == id

abbrev pub by_key : (root dir : List ℕ) → (key : List ℕ) → ℕ → Bool
by_key q d key i = used_of q i == 1 && same_name key (key_at d i)

abbrev pub is_free : (root : List ℕ) → ℕ → Bool
is_free q i = not (used_of q i == 1)

-- what those of n slots, from slot i on, weigh that are in use
abbrev pub weighs : (root dir : List ℕ) → ℕ → ℕ
weighs q d i = cond (used_of q i == 1) (16384 + 16 * size_at d i) 0

unfoldable pub weight_over : (root dir : List ℕ) → (i n : ℕ) → ℕ
weight_over q d i zero = 0
weight_over q d i (suc n) = weighs q d i + weight_over q d (i + 1) n
