-- Whole runs on a plan's words.
use Rattle.std.proofs.Common.{◌<◌, ◌≤◌, length, sym, ap, arith}
use native.Mathlib.Decide.{dec_lt}
use Rattle.plans.specs.Flat.{laid}
use Rattle.runs.specs.Decode.{act_of, code_in, flat_at, StaysInside, RunsAlike}
use Rattle.runs.proofs.Heads.{past_words}
use Rattle.runs.proofs.Told.{moves_alike, never_wrong}
use Rattle.runs.proofs.Stands.{begins_alike}

pub stays_inside : StaysInside
unfolding act_of
stays_inside room ws f x k = go (dec_lt f.here (length ws))
  where
    go : Dec (f.here < length ws) → f.here < length ws
    go (yes l) = l
    go (no l) = let le : length ws ≤ f.here = omega arith in absurd (never_wrong (code_in room ws) f x k (ap (act_of room ws) (sym (past_words ws f.here le))))

pub runs_alike : RunsAlike
runs_alike b room n now x ok sz p q = moves_alike (code_in room (laid b)) n now (flat_at 0 x) x (begins_alike b room x ok sz p q)
