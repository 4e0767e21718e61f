-- Which blocks are free, and that there are enough. Assumes nothing.
use Rattle.std.specs.Prelude.{◌≡◌, ℕ, zero, suc, ◌+◌, ◌-◌, ◌*◌, ◌<◌, ◌≤◌, min, cond, List, [], ◌∷◌, ◌++◌, length, take, replicate, Some, None, Option, ◌==◌, nat_le, slice_index, slice_set}
use Rattle.blocks.specs.Works.{blocks_in}
use Rattle.store.specs.Layout.{used_of, size_at, block_at, blocks_for}
use Rattle.store.specs.Shows.{Free}
use Rattle.store.specs.Finds.{weight_over}

-- blocks k, k + 1, .. of a slot are marked by 1
unfoldable pub mark_blocks : (dir : List ℕ) → (slot k n : ℕ) → List ℕ → List ℕ
mark_blocks d i k zero ms = ms
mark_blocks d i k (suc n) ms = mark_blocks d i (k + 1) n (slice_set ms (block_at d i k) 1)

abbrev pub mark_slot : (root dir : List ℕ) → (slot : ℕ) → List ℕ → List ℕ
mark_slot q d i ms = cond (used_of q i == 1) (mark_blocks d i 0 (blocks_for (size_at d i)) ms) ms

-- the blocks of the slots in use among n, from slot i on
unfoldable pub mark_slots : (root dir : List ℕ) → (i n : ℕ) → List ℕ → List ℕ
mark_slots q d i zero ms = ms
mark_slots q d i (suc n) ms = mark_slots q d (i + 1) n (mark_slot q d i ms)

unfoldable pub marked : (root dir : List ℕ) → (count : ℕ) → List ℕ
marked q d n = mark_slots q d 0 1024 (replicate n 0)

-- where the zeros are, from place b on
unfoldable pub zeros_from : List ℕ → (b : ℕ) → List ℕ
zeros_from [] b = []
zeros_from (m ∷ ms) b = cond (m == 0) (b ∷ zeros_from ms (b + 1)) (zeros_from ms (b + 1))

-- the first free blocks, as many as are needed, and 0 in the place of those that are not
unfoldable pub chosen : (need : ℕ) → (marks : List ℕ) → Option (List ℕ)
chosen need ms = cond (nat_le need (length (zeros_from ms 0))) (Some (take need (zeros_from ms 0) ++ replicate (18 - need) 0)) None

-- no more blocks than 1,024 flows can have are looked at
abbrev pub looked_at : (lines : ℕ) → ℕ
looked_at lines = min (blocks_in lines) 18432

-- a choice of blocks for a flow whose plan is so large
pub record Chosen (lines : ℕ) (q d : List ℕ) (size : ℕ) (bs : List ℕ) : Type 0 where
  pub long : length bs ≡ 18
  pub low : (k : ℕ) → slice_index bs k < 18446744073709551616
  pub fits : (k : ℕ) → k < blocks_for size → slice_index bs k < blocks_in lines
  pub each : (k l : ℕ) → k < blocks_for size → l < blocks_for size → slice_index bs k ≡ slice_index bs l → k ≡ l
  pub free : (k : ℕ) → k < blocks_for size → Free q d (slice_index bs k)

-- what is chosen is free, and there is enough wherever the weights fit and a slot is free
pub record RoomStands : Type 0 where
  pub chooses : (lines : ℕ) (q d : List ℕ) (size : ℕ) (bs : List ℕ) → size ≤ 4096 → chosen (blocks_for size) (marked q d (looked_at lines)) ≡ Some bs → Chosen lines q d size bs
  pub suffices : (lines : ℕ) (q d : List ℕ) (size i : ℕ) → 32768 ≤ lines → size ≤ 4096 → i < 1024 → used_of q i ≡ 0
      → 1048576 + 2 * (weight_over q d 0 1024 + (16384 + 16 * size)) ≤ 64 * lines
      → (bs : List ℕ) × (chosen (blocks_for size) (marked q d (looked_at lines)) ≡ Some bs)
