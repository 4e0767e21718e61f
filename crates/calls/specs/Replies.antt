-- The answers, and their bytes. Assumes nothing.
use Rattle.std.specs.Prelude.{◌≡◌, ℕ, Bool, cond, List, [], ◌∷◌, ◌++◌, length, take, drop, Some, None, Option, nat_le}
use Rattle.plans.specs.Plan.{Phase as MeantPhase, Busy as busyP, Tasked as taskedP, Asleep as asleepP, Listens as listensP, Ended as endedP, Failed as failedP}
use Rattle.flows.specs.House.{Reply as Meant, No as noM, Yes as yesM, Flow' as flowM, Job as jobM, Nothing as nothingM, State as stateM, Full' as fullM}
use Rattle.runs.specs.declared.step.Phase.{Phase}
use Rattle.runs.specs.declared.step.Phase.TheVariants.{Busy, Tasked, Asleep, Listens, Ended, Failed}
use Rattle.wire.specs.Frames.{number_of}
use Rattle.wire.specs.declared.Refusal.{Refusal}
use Rattle.calls.specs.Bytes.{two_bytes, four_bytes, eight_bytes, all_eight}
use Rattle.calls.specs.declared.types.Job.{Job as JobHeld}
use Rattle.calls.specs.declared.types.Response.{Response}
use Rattle.calls.specs.declared.types.Response.TheVariants.{No, Yes, Flow, Job, Nothing, State, Full}

-- THE BYTES OF AN ANSWER -----------------------------------------------------------

-- no more is told of a flow than where it stands, and its value at the end
abbrev pub phase_bytes : MeantPhase → List ℕ
phase_bytes busyP = 0 ∷ []
phase_bytes (taskedP s) = 1 ∷ []
phase_bytes (asleepP u) = 2 ∷ []
phase_bytes (listensP v w n u) = 3 ∷ []
phase_bytes (endedP v) = 4 ∷ eight_bytes v
phase_bytes failedP = 5 ∷ []

abbrev pub job_bytes : ℕ → ℕ → ℕ → ℕ → List ℕ → List ℕ
job_bytes f s a k xs = 3 ∷ eight_bytes f ++ (eight_bytes s ++ (two_bytes a ++ (four_bytes k ++ (length xs ∷ all_eight xs))))

abbrev pub reply_bytes : Meant → List ℕ
reply_bytes (noM n) = 0 ∷ n ∷ []
reply_bytes yesM = 1 ∷ []
reply_bytes (flowM f) = 2 ∷ eight_bytes f
reply_bytes (jobM f s a k xs) = job_bytes f s a k xs
reply_bytes nothingM = 4 ∷ []
reply_bytes (stateM p) = 5 ∷ phase_bytes p
reply_bytes fullM = 6 ∷ []

-- THE CODE'S ANSWERS ---------------------------------------------------------------

-- what is told of a phase; the name that one listens for is not
abbrev pub phase_of : Phase → MeantPhase
phase_of Busy = busyP
phase_of (Tasked s) = taskedP s
phase_of (Asleep u) = asleepP u
phase_of (Listens v c n u) = listensP v c [] u
phase_of (Ended v) = endedP v
phase_of Failed = failedP

-- the first of its words
abbrev pub words_of : JobHeld → List ℕ
words_of j = take j.count j.args

-- by the number of what tells why a call is turned away
abbrev pub meant_by : {N : Type 0} → (N → ℕ) → Response N → Meant
meant_by number (No why) = noM (number why)
meant_by number Yes = yesM
meant_by number (Flow f) = flowM f.0
meant_by number (Job j) = jobM j.flow.0 j.step.0 j.attempt.0 j.kind (words_of j)
meant_by number Nothing = nothingM
meant_by number (State p) = stateM (phase_of p)
meant_by number Full = fullM

abbrev pub bytes_by : {N : Type 0} → (N → ℕ) → Response N → List ℕ
bytes_by number r = reply_bytes (meant_by number r)

-- the answer of a house
abbrev pub Reply : Type 0
Reply = Response Refusal

abbrev pub reply_of : Reply → Meant
reply_of r = meant_by number_of r

abbrev pub bytes_of : Reply → List ℕ
bytes_of r = reply_bytes (reply_of r)

-- bs at the front of the old bytes, where there is room; else nothing is written
abbrev pub fitting : List ℕ → List ℕ → Bool
fitting bs old = nat_le (length bs) (length old)

pub record Wrote (bs old new : List ℕ) (r : Option ℕ) : Type 0 where
  pub count : r ≡ cond (fitting bs old) (Some (length bs)) None
  pub bytes : new ≡ cond (fitting bs old) (bs ++ drop (length bs) old) old
