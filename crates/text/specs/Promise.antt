-- What is promised of the texts of plans. Assumes nothing.
use Rattle.std.specs.Prelude.{◌≡◌, ℕ, ◌≤◌, List, length}
use Rattle.plans.specs.Plan.{Block}
use Rattle.text.specs.Token.{Token}
use Rattle.text.specs.Grammar.{IsPlan}
use Rattle.text.specs.Reference.{APart}
use Rattle.text.specs.Printer.{text_of}
use Rattle.text.specs.Text.{IsText, plan, read_text, Sayable}

-- a text is of one plan at most
abbrev pub OnePlan : Type 0
OnePlan = (limit : ℕ) (bs : List ℕ) (a b : Block) → IsText limit bs a → IsText limit bs b → a ≡ b

-- the reader answers the plan of a text, and nothing where it is of none
abbrev pub ReadsExactly : Type 0
ReadsExactly = (limit : ℕ) (bs : List ℕ) (b : Block) → (read_text limit bs ≡ plan b → IsText limit bs b) × (IsText limit bs b → read_text limit bs ≡ plan b)

-- a plan that has a text is sayable, and what is printed of a sayable plan is a text of it
abbrev pub SaysExactly : Type 0
SaysExactly = (limit : ℕ) (b : Block) → ((bs : List ℕ) → IsText limit bs b → Sayable b) × (Sayable b → length (text_of b) ≤ limit → IsText limit (text_of b) b)

-- what is printed of a plan that has a text is a text of the same plan
abbrev pub Printed : Type 0
Printed = (limit : ℕ) (bs : List ℕ) (b : Block) → IsText limit bs b → length (text_of b) ≤ limit → IsText limit (text_of b) b

-- what is printed of a plan that was read is read as the same plan
abbrev pub ReadBack : Type 0
ReadBack = (limit : ℕ) (bs : List ℕ) (b : Block) → read_text limit bs ≡ plan b → length (text_of b) ≤ limit → read_text limit (text_of b) ≡ plan b

-- the grammar by what follows and the grammar by joining have the same plans
abbrev pub SamePlans : Type 0
SamePlans = (ts : List Token) (b : Block) → (APart ts b → IsPlan ts b) × (IsPlan ts b → APart ts b)
