-- Two copies and a flip: work that writes only lines that do not count, then one store that makes them count.
-- Assumes nothing.
use Rattle.std.specs.Prelude.{◌⊎◌, ℕ, ◌+◌, ◌<◌}
use Rattle.device.specs.Lines.{Lines, Left, Work, yields, store, push, fence, Worked, Partly, Within}
use Rattle.device.specs.Does.{bind}
use Rattle.device.specs.Images.{Image, upd, All, None, At, Agree}
use Rattle.device.specs.Costs.{Costs, Any}

-- The flip of a root word. The first fence makes all that was pushed last; only then the root word is stored, pushed and fenced in its turn.
abbrev pub commit_work : (root k v : ℕ) → Work (Unit {0})
commit_work root k v = fence (store root k v (push root (fence (yields tt))))

-- clean lines whose image stands for a state
abbrev pub Rests : {State : Type 0} → (Image → State → Type 0) → State → Lines → Type 0
Rests Decodes s m = (g : Image) × At g All None m × Decodes g s

-- the lines of C are clean, and as they are in g
abbrev pub Amid : (C : ℕ → Type 0) (g : Image) → Lines → Type 0
Amid C g n = (h : Image) × At h C None n × Agree C g h

-- the same; all else is pushed; and one store more, into the root word, would stand for t
abbrev pub Prepared : {State : Type 0} → (Image → State → Type 0) → (C P : ℕ → Type 0) (g : Image) (root k v : ℕ) (t : State) → Lines → Type 0
Prepared Decodes C P g root k v t n =
    (h : Image) × At h C P n × ((l : ℕ) → P l ⊎ C l) × Agree C g h × ((h' : Image) → Agree All (upd root k v h) h' → Decodes h' t)

-- Reads g s: the image g stands for the state s. Counts g: the lines that this rests on.
-- Let memory be at rest in the state s, and let w be work that leaves alone the lines that count and pushes whatever else it stores, so
-- that one store into the root word would stand for t. Then w with the flip stays within its lines; wherever the power fails in it, the
-- old state or the new one is what is left; and at its end all lines are clean and stand for the new state.
abbrev pub FlipStands : {State : Type 0} (Reads : Image → State → Type 0) (Counts : Image → ℕ → Type 0) (A : Type 0) → Type 0
FlipStands {State} Reads Counts A =
    (N root k : ℕ) (w : Work A) (v : A → ℕ) (g : Image) (s t : State) (m : Lines)
    → root < N → k < 8 → ((a : A) → v a < 18446744073709551616)
    → At g All None m → Reads g s
    → Within N w m
    → ((n : Lines) → Partly w m n → Amid (Counts g) g n)
    → ((a : A) (n : Lines) → Worked w m a n → Prepared Reads (Counts g) All g root k (v a) t n)
    → Within N (bind w (λ a. commit_work root k (v a))) m
    × ((n o : Lines) → Partly (bind w (λ a. commit_work root k (v a))) m n → Left n o → Rests Reads s o ⊎ Rests Reads t o)
    × ((x : Unit {0}) (n : Lines) → Worked (bind w (λ a. commit_work root k (v a))) m x n → Rests Reads t n)

-- What the flip adds to the cost of the work before it: one word stored, one line pushed, two fences.
abbrev pub FlipCosts : (A : Type 0) → Type 0
FlipCosts A =
    (root k : ℕ) (w : Work A) (v : A → ℕ) (l s p f : ℕ) → Costs Any l s p f w
    → Costs Any l (s + 1) (p + 1) (f + 2) (bind w (λ a. commit_work root k (v a)))
