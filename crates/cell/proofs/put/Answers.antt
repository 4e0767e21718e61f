use borrow.Author.Rules.{rules}
use mathlib.Core.List.{List}
use Prim.Native.Nat.{ℕ, ◌-◌, ◌%◌}
use Rattle.device.specs.Does.{Op, Did, d_load}
use Rattle.device.specs.Flips.{commit_work}
use Rattle.device.proofs.Did.{did_bind}
use Rattle.words.specs.Works.{save_words}
use Rattle.cell.specs.Works.{spare_at, put_at, put_work}
use Rattle.cell.proofs.put.Goals as goal

-- first the spare copy, then the flip
in_parts : {S : Type 0} {step : S → Op → S → Type 0} (r : ℕ) (ws : List ℕ) {s t u : S}
    → Did step (save_words (spare_at r) 2 ws) s (tt {0}) t → Did step (commit_work 0 0 (1 - r % 2)) t (tt {0}) u → Did step (put_at r ws) s (tt {0}) u
in_parts r ws d e = did_bind (λ x. commit_work 0 0 (1 - r % 2)) d e

-- no step is named here, so a copy or an order that is not the given one is a fact that no search finds
pub returns : goal.returns
unfolding put_work
returns g c = record { did = search (d_load, in_parts); stays = search rules }
