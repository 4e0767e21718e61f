-- Why nothing is printed.
use Rattle.std.proofs.Common.{ℕ, List, Err}
use Rattle.reading.specs.declared.error.ReadError.{ReadError}
use Rattle.reading.specs.declared.error.ReadError.TheVariants.{NotPlan, NoRoom, ShortDraft}
use Rattle.reading.specs.Plans.{Reads}
use Rattle.tidy.specs.Tidies.{Why, reason_of}

pub why_of : {S : Type 0} (wrote : S → ℕ → S → Type 0) (room : S → ℕ) (e : ReadError) (text : List ℕ) (n : ℕ) (s t : S) → Reads wrote room (Err e) text n s t → Why (reason_of e) text
why_of wrote room (NotPlan x) text n s t h = h.0
why_of wrote room NoRoom text n s t h = tt
why_of wrote room ShortDraft text n s t h = tt
