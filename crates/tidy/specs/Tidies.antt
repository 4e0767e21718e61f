-- What is printed of a text. Assumes nothing.
use Rattle.std.specs.Prelude.{◌≡◌, ℕ, suc, ◌+◌, ◌-◌, ◌<◌, ◌≤◌, cond, List, [], ◌∷◌, length, take, ◌==◌, ◌≢◌, slice_index}
use Rattle.tidy.specs.declared.Place.{Place}
use Rattle.plans.specs.Plan.{Block}
use Rattle.text.specs.Printer.{text_of}
use Rattle.text.specs.Text.{IsText}
use Rattle.reading.specs.declared.error.ReadError.{ReadError}
use Rattle.reading.specs.declared.error.ReadError.TheVariants as of
use Rattle.tidy.specs.declared.TidyError.{TidyError}
use Rattle.tidy.specs.declared.TidyError.TheVariants.{NotPlan, Memory}

-- the text is that of a plan, and what is printed is the plan's own text
pub record Tidied (text out : List ℕ) : Type 0 where
  pub block : Block
  pub is : IsText 65536 text block
  pub prints : out ≡ text_of block

-- it is the text of no plan; of want of memory nothing is said
abbrev pub Why : TidyError → List ℕ → Type 0
Why (NotPlan e) text = (b : Block) → IsText 65536 text b → ⊥
Why Memory text = Unit {0}

abbrev pub reason_of : ReadError → TidyError
reason_of (of.NotPlan e) = NotPlan e
reason_of of.NoRoom = Memory
reason_of of.ShortDraft = Memory

-- how many line feeds
abbrev pub feeds : List ℕ → ℕ
feeds [] = 0
feeds (b ∷ bs) = cond (b == 10) 1 0 + feeds bs

-- a byte's line and column, from 1; the line begins at the text's begin or behind a line feed, ends at the next or at the text's end
pub record PlaceAt (text : List ℕ) (at : ℕ) (r : Place) : Type 0 where
  pub line : r.line ≡ 1 + feeds (take at text)
  pub column : r.column ≡ at - r.begin + 1
  pub begins : r.begin ≤ at
  pub behind : (k : ℕ) → suc k ≡ r.begin → slice_index text k ≡ 10
  pub from : (k : ℕ) → r.begin ≤ k → k < at → slice_index text k ≢ 10
  pub ends : (at ≤ r.end) × (r.end ≤ length text)
  pub before : r.end < length text → slice_index text r.end ≡ 10
  pub to : (k : ℕ) → at ≤ k → k < r.end → slice_index text k ≢ 10
