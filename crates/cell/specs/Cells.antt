-- The cell as an engine, and what a caller may expect of it.
-- Assumes nothing.
use Rattle.std.specs.Prelude.{◌≡◌, List, [], ◌∷◌, false, ℕ, zero, suc, ◌+◌, ◌%◌, ◌<◌, eqb, replicate}
use Rattle.device.specs.Lines.{Lines, Work, yields, Engine, Sense}
use Rattle.device.specs.Does.{bind}
use Rattle.device.specs.Images.{Image, All, None, At}
use Rattle.device.specs.Costs.{Costs, Any}
use Rattle.words.specs.Runs.{read_from}
use Rattle.cell.specs.Works.{counts_at, spare_at, get_work, put_work}

pub data Call : Type 0 where
  Put : List ℕ → Call
  Get : Call

pub data Reply : Type 0 where
  Done : Reply
  Holds : List ℕ → Reply

-- so many words of 64 bits
unfoldable pub fit : ℕ → List ℕ → List ℕ
fit zero ws = []
fit (suc n) [] = 0 ∷ fit n []
fit (suc n) (w ∷ ws) = (w % 18446744073709551616) ∷ fit n ws

-- a put is answered, and from then on its words are held; a get is answered by the words that are held
abbrev pub May : Call → List ℕ → Reply → List ℕ → Type 0
May (Put ws) s r t = (r ≡ Done) × (t ≡ fit 16 ws)
May Get s r t = (r ≡ Holds s) × (t ≡ s)

-- a power failure leaves what is held
abbrev pub cell_sense : Sense Call Reply
cell_sense = record { State = List ℕ; start = replicate 16 0; May = May; after = λ s. s }

unfoldable pub cell_does : Call → Work (record { reply : Reply; mind : Unit {0} })
cell_does (Put ws) = bind (put_work (fit 16 ws)) (λ x. yields (record { reply = Done; mind = tt }))
cell_does Get = bind get_work (λ ws. yields (record { reply = Holds ws; mind = tt }))

abbrev pub cell_engine : Engine Call Reply
cell_engine = record { Mind = Unit {0}; rises = λ n. yields tt; does = λ c x. cell_does c }

-- the words that an image holds
unfoldable pub cell_of : Image → List ℕ
cell_of g = read_from g (counts_at (g 0 0)) 0 16

-- the lines that this rests on, where the root word is r: all but those of the spare copy
abbrev pub Counts : ℕ → ℕ → Type 0
Counts r j = (k : ℕ) → k < 2 → eqb j (spare_at r + k) ≡ false

-- lines at rest that hold these words
abbrev pub Rest : List ℕ → Lines → Type 0
Rest s m = (g : Image) × At g All None m × (cell_of g ≡ s)

-- a get loads 17 words; a put loads one, stores 17, pushes three lines and sets two fences
pub record CellCosts : Type 0 where
  pub getting : Costs Any 17 0 0 0 get_work
  pub putting : (ws : List ℕ) → Costs Any 1 17 3 2 (put_work (fit 16 ws))
