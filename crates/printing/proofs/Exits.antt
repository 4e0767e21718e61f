-- An error that is passed on. Assumes nothing.
use Rattle.std.proofs.Common.{◌≡◌, ℕ, List, IsErrAnd, Err, Result, sym, subst}
use Rattle.std.proofs.lemmas.Result.{err_from_is_err_and}
use Rattle.printing.specs.declared.PrintError.{PrintError}
use Rattle.printing.specs.declared.PrintError.TheVariants.{Memory, Damaged}
use Rattle.printing.specs.Said.{Wrote, Spoke}

-- the words are not damaged
abbrev pub Fine : PrintError → Type 0
Fine Memory = Unit {0}
Fine Damaged = ⊥

pub fine_wrote : (x : PrintError) (old t new : List ℕ) → Wrote {A = Unit {0}} (Err x) old t new → Fine x
fine_wrote Memory old t new w = tt
fine_wrote Damaged old t new w = w

pub fine_spoke : (x : PrintError) (ws rest old t new : List ℕ) → Spoke (Err x) ws rest old t new → Fine x
fine_spoke Memory ws rest old t new w = tt
fine_spoke Damaged ws rest old t new w = w

wrote_fine : (x : PrintError) (old t new : List ℕ) → Fine x → Wrote {A = Unit {0}} (Err x) old t new
wrote_fine Memory old t new w = tt
wrote_fine Damaged old t new w = w

spoke_fine : (x : PrintError) (ws rest old t new : List ℕ) → Fine x → Spoke (Err x) ws rest old t new
spoke_fine Memory ws rest old t new w = tt
spoke_fine Damaged ws rest old t new w = w

pub wrote_exit : {A : Type 0} (r : Result A PrintError) (x : PrintError) (old t new : List ℕ) → IsErrAnd r (λ y. y ≡ x) → Fine x → Wrote r old t new
wrote_exit {A} r x old t new h w =
    let p = err_from_is_err_and r h in
    subst (λ (v : Result A PrintError). Wrote v old t new) (sym p.1) (wrote_fine p.0 old t new (subst Fine (sym p.2) w))

pub spoke_exit : (r : Result ℕ PrintError) (x : PrintError) (ws rest old t new : List ℕ) → IsErrAnd r (λ y. y ≡ x) → Fine x → Spoke r ws rest old t new
spoke_exit r x ws rest old t new h w =
    let p = err_from_is_err_and r h in
    subst (λ (v : Result ℕ PrintError). Spoke v ws rest old t new) (sym p.1) (spoke_fine p.0 ws rest old t new (subst Fine (sym p.2) w))
