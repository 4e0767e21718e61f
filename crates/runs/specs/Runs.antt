-- What a run returns. Assumes nothing.
use Rattle.std.specs.Prelude.{◌≡◌, ℕ, ◌≤◌, Bool, false, List, None, Ok, Err, Result}
use Rattle.plans.specs.declared.eval.Damaged.{Damaged}
use Rattle.plans.specs.Plan.{Moved as Meant}
use Rattle.runs.specs.declared.flow.Ran.{Ran}
use Rattle.runs.specs.declared.step.Moved.{Moved}
use Rattle.runs.specs.declared.step.Place.{Place}
use Rattle.runs.specs.Machine.{FlatFlow, Follows}
use Rattle.runs.specs.Decode.{code_in}
use Rattle.runs.specs.Steps.{Out, Lost, Went, moves_w, wishes}
use Rattle.runs.specs.Carried.{flow_in, listening}

-- a run that has come here in so many moves, with no wish
abbrev pub stopped_at : Place → (moves : ℕ) → Ran
stopped_at p n = record { moved = record { place = p; wish = None }; moves = n }

abbrev pub as_out : Moved → List ℕ → Out
as_out m vs = Went m.place vs (wishes m.wish)

-- a thousand moves; that many were made which are counted, and no more were left to make
abbrev pub RanTo : (room : ℕ) → (words : List ℕ) → (time : ℕ) → Place → (before : List ℕ) → Result Ran Damaged → (after : List ℕ) → Type 0
RanTo room ws t p vs (Ok r) us = (r.moves ≤ 1000) × (moves_w room ws t r.moves p vs ≡ as_out r.moved us) × (moves_w room ws t 1000 p vs ≡ as_out r.moved us)
RanTo room ws t p vs (Err e) us = moves_w room ws t 1000 p vs ≡ Lost

-- what one move, or a run, returned is what the meaning comes to; words that are of a plan are never damaged
abbrev pub MovedTo : (room : ℕ) → (words : List ℕ) → FlatFlow → Result Moved Damaged → (after : List ℕ) → Meant → Type 0
MovedTo room ws y (Ok m) us x = Follows (code_in room ws) (record { flow = flow_in ws m.place us y; wish = wishes m.wish }) x
MovedTo room ws y (Err e) us x = ⊥

-- it has come to wait for a word
unfoldable pub ends_listening : Result Ran Damaged → Bool
ends_listening (Ok r) = listening r.moved.place.phase
ends_listening (Err e) = false

abbrev pub CameTo : (room : ℕ) → (words : List ℕ) → FlatFlow → Result Ran Damaged → (after : List ℕ) → Meant → Type 0
CameTo room ws y (Ok r) us x = Follows (code_in room ws) (record { flow = flow_in ws r.moved.place us y; wish = wishes r.moved.wish }) x
CameTo room ws y (Err e) us x = ⊥
