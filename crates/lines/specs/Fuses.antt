-- A memory that stops after so many operations.
-- Assumes nothing.
use Rattle.std.specs.Prelude.{◌≡◌, ℕ, ◌+◌, Bool, ◌||◌, Some, None, Option, is_none}
use Rattle.device.specs.Lines.{Lines}
use Rattle.device.specs.Does.{Op}
use Rattle.lines.specs.declared.fuse.Fuse.{Fuse}

-- how many operations it will still do, or none once it has cut the power
abbrev pub left_in : {D : Type 0} → Fuse D → Option ℕ
left_in s = s.left

abbrev pub is_cut : {D : Type 0} → Fuse D → Bool
is_cut s = is_none s.left

-- one operation is taken off what is left
pub record Burns (before after : Option ℕ) : Type 0 where
  pub left : ℕ
  pub was : before ≡ Some (left + 1)
  pub is : after ≡ Some left

-- Until the fuse has cut the power, an operation is one of the memory within, and takes one off what is left; the fuse cuts where none is
-- left, and from then on nothing is done.
pub data FuseStep {D : Type 0} (step : D → Op → D → Type 0) (s : Fuse D) (o : Op) (t : Fuse D) : Type 0 where
  goes : Burns (left_in s) (left_in t) → step s.memory o t.memory → FuseStep step s o t
  cuts : left_in t ≡ None → t.memory ≡ s.memory → ((n : ℕ) → left_in s ≡ Some n → n ≡ 0) → FuseStep step s o t

abbrev pub fuse_stopped : {D : Type 0} → (D → Bool) → Fuse D → Bool
fuse_stopped stopped s = is_cut s || stopped s.memory

abbrev pub fuse_stands : {D : Type 0} → (D → Lines → Type 0) → Fuse D → Lines → Type 0
fuse_stands stands s m = stands s.memory m
