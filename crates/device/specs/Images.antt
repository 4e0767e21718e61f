-- Lines by the image that is seen of them, with the lines that are clean and those that are settled.
-- Assumes nothing.
use Rattle.std.specs.Prelude.{◌≡◌, ◌⊎◌, true, false, cond, [], ℕ, eqb}
use Rattle.device.specs.Lines.{Lines, drop_of, seen, stored, pushed_back, fenced, Left}

-- what each word of each line is
abbrev pub Image : Type 0
Image = ℕ → ℕ → ℕ

-- the same, but for one word
unfoldable pub upd : (line word value : ℕ) → Image → Image
upd l k v g j w = cond (eqb j l) (cond (eqb w k) v (g l w)) (g j w)

-- sets of lines: all, and none
abbrev pub All : ℕ → Type 0
All l = Unit {0}

abbrev pub None : ℕ → Type 0
None l = ⊥

-- g is seen; the lines of C are clean, with no stores since they lasted; the lines of P are settled: a fence would make them clean
pub record At (g : Image) (C P : ℕ → Type 0) (m : Lines) : Type 0 where
  pub shows : (l w : ℕ) → seen m l w ≡ g l w
  pub clean : (l : ℕ) → C l → (m l).since ≡ []
  pub ready : (l : ℕ) → P l → drop_of (m l).pushed (m l).since ≡ []

-- an image that is g on the lines of C
abbrev pub Agree : (C : ℕ → Type 0) (g h : Image) → Type 0
Agree C g h = (l w : ℕ) → C l → h l w ≡ g l w

-- o is clean, and on the lines of C it is g
abbrev pub Back : Image → (ℕ → Type 0) → Lines → Type 0
Back g C o = (h : Image) × At h All None o × ((l w : ℕ) → C l → h l w ≡ g l w)

-- What each operation, and a power failure, does to such lines.
pub record Rules (C P : ℕ → Type 0) : Type 0 where
  -- a store outside C and P changes the image at one word
  pub storing : (g : Image) (m : Lines) (l k v : ℕ) → At g C P m → ((j : ℕ) → C j → eqb j l ≡ false) → ((j : ℕ) → P j → eqb j l ≡ false)
      → At (upd l k v g) C P (stored l k v m)
  -- a line that is pushed is settled
  pub pushing : (g : Image) (m : Lines) (l : ℕ) → At g C P m → At g C (λ j. P j ⊎ (eqb j l ≡ true)) (pushed_back l m)
  -- what is settled is clean after a fence, and what was clean stays so
  pub fencing : (g : Image) (m : Lines) → At g C P m → At g (λ j. P j ⊎ C j) None (fenced m)
  -- what is clean comes back as it was
  pub failing : (g : Image) (m o : Lines) → At g C P m → Left m o → Back g C o
