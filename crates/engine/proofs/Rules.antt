-- Every event keeps a flow's numbers within 64 bits. Assumes nothing.
use Rattle.std.proofs.Common.{◌≡◌, ℕ, ◌<◌, ◌≤◌, List, length, Ok}
use Rattle.pages.specs.declared.flow.Flow.{Flow}
use Rattle.pages.specs.Sound.{Sound, Fits}
use Rattle.pages.specs.Events.{begun, worked_on, wrong_on, ticked_on, handed_out, cancelled_of}
use Rattle.words.specs.Runs.{Small}

pub record Rules : Type 0 where
  pub handed : (f : Flow) (until : ℕ) → Fits f → until < 18446744073709551616 → Fits (handed_out until f)
  pub cancelled : (f : Flow) → Fits f → Fits (cancelled_of f)
  pub worked : (room : ℕ) (ws : List ℕ) (t v : ℕ) (f g : Flow) → Small ws → length ws ≤ 16384 → t ≤ 4611686018427387904 → v < 18446744073709551616 → Sound f → Fits f → worked_on room ws t v f ≡ Ok g → Fits g
  pub wrong : (room : ℕ) (ws : List ℕ) (t : ℕ) (f g : Flow) → Small ws → length ws ≤ 16384 → t ≤ 4611686018427387904 → Sound f → Fits f → wrong_on room ws t f ≡ Ok g → Fits g
  pub ticked : (room : ℕ) (ws : List ℕ) (t : ℕ) (f g : Flow) → Small ws → length ws ≤ 16384 → t ≤ 4611686018427387904 → Sound f → Fits f → ticked_on room ws t f ≡ Ok g → Fits g
  pub begun : (room : ℕ) (ws xs : List ℕ) (t : ℕ) (g : Flow) → Small ws → length ws ≤ 16384 → t ≤ 4611686018427387904 → Small xs → length xs ≤ 64 → begun room ws xs t ≡ Ok g → Fits g
