-- What is read of a whole text. Assumes nothing.
use Rattle.std.specs.Prelude.{◌≡◌, ℕ, ◌*◌, ◌<◌, ◌≤◌, List, take, Ok, Err, Result}
use Rattle.plans.specs.Plan.{Block, size_of}
use Rattle.plans.specs.Flat.{draft_of, laid}
use Rattle.plans.specs.Sheet.{Wrote, Step}
use Rattle.text.specs.Text.{IsText, plan, nothing, read_text}
use Rattle.reading.specs.declared.error.NoPlan.{NoPlan}
use Rattle.reading.specs.declared.error.ReadError.{ReadError}
use Rattle.reading.specs.declared.error.ReadError.TheVariants.{NotPlan, NoRoom, ShortDraft}

-- the text is a plan: its size, and its draft; or it is none
pub record IsRead (text : List ℕ) (size : ℕ) (draft : List ℕ) : Type 0 where
  pub block : Block
  pub read : read_text 65536 text ≡ plan block
  pub sized : size ≡ size_of block
  pub small : size ≤ 4096
  pub words : take (4 * size) draft ≡ draft_of block

abbrev pub ReadPlan : Result ℕ NoPlan → (text draft : List ℕ) → Type 0
ReadPlan (Ok size) text draft = IsRead text size draft
ReadPlan (Err e) text draft = read_text 65536 text ≡ nothing

-- the text is a plan of this size, whose flat form was written; or of none, and nothing was written; or there is too little room
abbrev pub Reads : {S : Type 0} → (S → ℕ → S → Type 0) → (S → ℕ) → Result ℕ ReadError → (text : List ℕ) → (draft : ℕ) → S → S → Type 0
Reads wrote room (Ok size) text draft s t = (b : Block) × IsText 65536 text b × (size ≡ size_of b) × Wrote (Step wrote room) (laid b) s t
Reads wrote room (Err (NotPlan e)) text draft s t = ((b : Block) → IsText 65536 text b → ⊥) × (t ≡ s)
Reads wrote room (Err NoRoom) text draft s t = (b : Block) × IsText 65536 text b × (room s < 4 * size_of b)
Reads wrote room (Err ShortDraft) text draft s t = draft < 16384
