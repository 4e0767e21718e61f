-- One flow with its task, and what an event does to it.
use Rattle.std.specs.Prelude.{ℕ, Bool, true, cond, not, ◌&&◌, List, [], ◌∷◌, ◌++◌, map, ◌==◌, nat_le, nat_lt}
use Rattle.plans.specs.Plan.{Frame, Rest, Catch, Phase, Busy, Tasked, Asleep, Listens, Ended, Failed, Flow, Moved, at, goes_on, still, broken, heard, moves, block_ok}
use Rattle.flows.specs.House.{Task, House, keep, find, change, is_flow, is_task, wished, step_of, again, is_late}

abbrev pub of : ℕ → Task → Bool
of j t = j == t.flow

pub record One : Type 0 where
  pub flow : List Flow
  pub task : List Task

abbrev pub look : ℕ → House → One
look j h = record { flow = find (is_flow j) h.flows; task = keep (of j) h.tasks }

abbrev pub settled_one : ℕ → ℕ → Moved → One → One
settled_one now i m o = record { flow = map (λ (y : Flow). m.flow) o.flow; task = o.task ++ wished now i (step_of m.flow.phase) m.wish }

abbrev pub moved_one : ℕ → Flow → One → One
moved_one now x o = settled_one now x.id (moves 1000 now (still x)) o

unfoldable pub fails_one : ℕ → List Flow → One → One
fails_one now [] o = o
fails_one now (x ∷ xs) o = moved_one now (broken x.frames x) o

abbrev pub with_task : List Task → One → One
with_task ts o = record { flow = o.flow; task = ts }

abbrev pub wrong_one : ℕ → Task → One → One
wrong_one now t o =
    cond (nat_lt t.attempt t.tries) (with_task (change (is_task t.flow t.step) (again now) o.task) o)
    (fails_one now o.flow (with_task (keep (λ (u : Task). not (is_task t.flow t.step u)) o.task) o))

unfoldable pub works_one : ℕ → ℕ → List Flow → One → One
works_one now v [] o = o
works_one now v (x ∷ xs) o = moved_one now (goes_on x.frames (at x.into v x.vars) x) o

abbrev pub late_one : ℕ → Task → One → One
late_one now t o = cond (is_late now t.standing) (wrong_one now t o) o

unfoldable pub late_all : ℕ → List Task → One → One
late_all now [] o = o
late_all now (t ∷ ts) o = late_all now ts (late_one now t o)

unfoldable pub woken_one : ℕ → Phase → Flow → One → One
woken_one now Busy x o = moved_one now x o
woken_one now (Tasked s) x o = o
woken_one now (Asleep u) x o = cond (nat_le u now) (moved_one now (goes_on x.frames x.vars x) o) o
woken_one now (Listens v w n u) x o = cond (nat_le u now) (moved_one now (heard v w 0 0 x.box x.frames x) o) o
woken_one now (Ended v) x o = o
woken_one now Failed x o = o

unfoldable pub woken_all : ℕ → List Flow → One → One
woken_all now [] o = o
woken_all now (x ∷ xs) o = woken_all now xs (woken_one now x.phase x o)

-- what time does to one flow: its task, if late, goes wrong; then it wakes
abbrev pub ticked_one : ℕ → One → One
ticked_one now o = wakes (late_all now o.task o)
  where
    wakes : One → One
    wakes p = woken_all now p.flow p

unfoldable pub frames_ok : List Frame → Bool
frames_ok [] = true
frames_ok (Rest b ∷ fs) = block_ok b && frames_ok fs
frames_ok (Catch b ∷ fs) = block_ok b && frames_ok fs
