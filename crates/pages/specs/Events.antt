-- What an event does to a flow with its task, by the words of its plan: total functions, on damaged words too. Assumes nothing.
use Rattle.std.specs.Prelude.{ℕ, ◌+◌, Bool, true, false, cond, ◌&&◌, List, [], ◌∷◌, ◌++◌, length, take, Some, None, Ok, Err, Option, Result, ◌==◌, nat_le, nat_lt, slice_set}
use Rattle.plans.specs.declared.eval.Damaged.{Damaged}
use Rattle.plans.specs.Plan.{Wish as Wished}
use Rattle.flows.specs.House.{doubled, less1}
use Rattle.runs.specs.declared.step.Phase.{Phase}
use Rattle.runs.specs.declared.step.Phase.TheVariants.{Busy, Tasked, Asleep, Listens, Ended, Failed}
use Rattle.runs.specs.declared.step.Place.{Place}
use Rattle.runs.specs.Steps.{Lost, Went, Out as Ways, fill, at_first, gone_to, ended_as, fails_to, moves_w}
use Rattle.runs.specs.Units.{statement_at}
use Rattle.runs.specs.Events.{by_task}
use Rattle.pages.specs.declared.flow.Standing.{Standing}
use Rattle.pages.specs.declared.flow.Standing.TheVariants.{Due, Out}
use Rattle.pages.specs.declared.flow.Task.{Task}
use Rattle.pages.specs.declared.flow.Flow.{Flow}
use Rattle.pages.specs.declared.flow.Untried.{Untried}
use Rattle.pages.specs.declared.flow.Untried.TheVariants as untried
use Rattle.pages.specs.Page.{damaged, fair, zeros}

-- a flow's run -------------------------------------------------------------------

-- what it wishes for is a task that is due
abbrev pub wish_task : (time : ℕ) → Wished → Task
wish_task t w = record { kind = w.kind; args = fill w.args; count = length w.args; attempt = 1; tries = w.tries; pause = w.pause; standing = Due t }

unfoldable pub task_from : (time : ℕ) → List Wished → Option Task
task_from t [] = None
task_from t (w ∷ ws) = Some (wish_task t w)

unfoldable pub settled : (time : ℕ) → Ways → Result Flow Damaged
settled t Lost = damaged
settled t (Went p vs ws) = Ok (record { place = p; vars = vs; task = task_from t ws })

-- up to a thousand moves
abbrev pub ran_on : (room : ℕ) → (plan : List ℕ) → (time : ℕ) → Place → (vars : List ℕ) → Result Flow Damaged
ran_on room ws t p vs = settled t (moves_w room ws t 1000 p vs)

-- beginning ----------------------------------------------------------------------

-- 64 variables: those that are given, and zeros
unfoldable pub first_vars : List ℕ → List ℕ
first_vars xs = take 64 (xs ++ zeros 64)

abbrev pub begun : (room : ℕ) → (plan given : List ℕ) → (time : ℕ) → Result Flow Damaged
begun room ws xs t = ran_on room ws t at_first (first_vars xs)

-- the end of a try ---------------------------------------------------------------

unfoldable pub then_runs : (room : ℕ) → (plan : List ℕ) → (time : ℕ) → Ways → Result Flow Damaged
then_runs room ws t Lost = damaged
then_runs room ws t (Went p vs w) = ran_on room ws t p vs

-- it has a result
unfoldable pub worked_on : (room : ℕ) → (plan : List ℕ) → (time value : ℕ) → Flow → Result Flow Damaged
worked_on room ws t v f = cond (nat_lt f.place.into 64) (then_runs room ws t (by_task (statement_at ws f.place.here) (λ next way. Went (gone_to next f.place) (slice_set f.vars f.place.into v) []))) damaged

-- it failed for good
unfoldable pub failed_on : (room : ℕ) → (plan : List ℕ) → (time : ℕ) → Flow → Result Flow Damaged
failed_on room ws t f = then_runs room ws t (by_task (statement_at ws f.place.here) (λ next way. Went (fails_to way f.place) f.vars []))

-- the next try is due after a pause that doubles with each
abbrev pub again : (time : ℕ) → Task → Task
again t u = record { kind = u.kind; args = u.args; count = u.count; attempt = u.attempt + 1; tries = u.tries; pause = u.pause; standing = Due (t + doubled (less1 u.attempt) u.pause) }

abbrev pub with_task : Option Task → Flow → Flow
with_task u f = record { place = f.place; vars = f.vars; task = u }

unfoldable pub wrong_task : (room : ℕ) → (plan : List ℕ) → (time : ℕ) → Flow → Option Task → Result Flow Damaged
wrong_task room ws t f None = damaged
wrong_task room ws t f (Some u) = cond (fair u) (cond (nat_lt u.attempt u.tries) (Ok (with_task (Some (again t u)) f)) (failed_on room ws t f)) damaged

-- a try went wrong
abbrev pub wrong_on : (room : ℕ) → (plan : List ℕ) → (time : ℕ) → Flow → Result Flow Damaged
wrong_on room ws t f = wrong_task room ws t f f.task

-- time ---------------------------------------------------------------------------

abbrev pub late_for : (time : ℕ) → Standing → Bool
late_for t (Due a) = false
late_for t (Out u) = nat_lt u t

abbrev pub late_task : (time : ℕ) → Option Task → Bool
late_task t None = false
late_task t (Some u) = late_for t u.standing

unfoldable pub wakes_at : (room : ℕ) → (plan : List ℕ) → (time : ℕ) → Phase → Flow → Result Flow Damaged
wakes_at room ws t Busy f = ran_on room ws t f.place f.vars
wakes_at room ws t (Tasked s) f = Ok f
wakes_at room ws t (Asleep u) f = cond (nat_le u t) (ran_on room ws t (gone_to f.place.here f.place) f.vars) (Ok f)
wakes_at room ws t (Listens v w n u) f = cond (nat_le u t) (cond (nat_lt v 64 && nat_lt w 64) (ran_on room ws t (gone_to f.place.here f.place) (slice_set (slice_set f.vars v 0) w 0)) damaged) (Ok f)
wakes_at room ws t (Ended v) f = Ok f
wakes_at room ws t Failed f = Ok f

-- who is busy goes on, and who has waited long enough
abbrev pub wakes_on : (room : ℕ) → (plan : List ℕ) → (time : ℕ) → Flow → Result Flow Damaged
wakes_on room ws t f = wakes_at room ws t f.place.phase f

unfoldable pub then_wakes : (room : ℕ) → (plan : List ℕ) → (time : ℕ) → Result Flow Damaged → Result Flow Damaged
then_wakes room ws t (Ok f) = wakes_on room ws t f
then_wakes room ws t (Err d) = Err d

-- a try that is out for too long goes wrong; then it wakes
unfoldable pub ticked_on : (room : ℕ) → (plan : List ℕ) → (time : ℕ) → Flow → Result Flow Damaged
ticked_on room ws t f = cond (late_task t f.task) (then_wakes room ws t (wrong_on room ws t f)) (wakes_on room ws t f)

abbrev pub stirs_at : (time : ℕ) → Phase → Bool
stirs_at t Busy = true
stirs_at t (Tasked s) = false
stirs_at t (Asleep u) = nat_le u t
stirs_at t (Listens v w n u) = nat_le u t
stirs_at t (Ended v) = false
stirs_at t Failed = false

-- does time change anything
abbrev pub stirring : (time : ℕ) → Flow → Bool
stirring t f = cond (late_task t f.task) true (stirs_at t f.place.phase)

-- a task handed out, and what is asked of it ---------------------------------------

abbrev pub stands_as : Standing → Task → Task
stands_as s u = record { kind = u.kind; args = u.args; count = u.count; attempt = u.attempt; tries = u.tries; pause = u.pause; standing = s }

abbrev pub out_task : (until : ℕ) → Option Task → Option Task
out_task until None = None
out_task until (Some u) = Some (stands_as (Out until) u)

abbrev pub handed_out : (until : ℕ) → Flow → Flow
handed_out until f = with_task (out_task until f.task) f

abbrev pub due_for : (time : ℕ) → Standing → Bool
due_for t (Due a) = nat_le a t
due_for t (Out u) = false

unfoldable pub one_of : ℕ → List ℕ → Bool
one_of k [] = false
one_of k (x ∷ xs) = cond (k == x) true (one_of k xs)

abbrev pub wanted_task : (time : ℕ) → List ℕ → Option Task → Bool
wanted_task t ks None = false
wanted_task t ks (Some u) = cond (due_for t u.standing) (one_of u.kind ks) false

abbrev pub due_since : Standing → ℕ
due_since (Due a) = a
due_since (Out u) = 0

abbrev pub due_task : Option Task → ℕ
due_task None = 0
due_task (Some u) = due_since u.standing

abbrev pub step_in : Phase → ℕ
step_in Busy = 0
step_in (Tasked s) = s
step_in (Asleep u) = 0
step_in (Listens v w n u) = 0
step_in (Ended v) = 0
step_in Failed = 0

abbrev pub out_now : Standing → Bool
out_now (Due a) = false
out_now (Out u) = true

abbrev pub Tried : Type 0
Tried = Result (Unit {0}) Untried

-- no such task; another try, or one that is not out; the try that is out
abbrev pub tried_no_task : Tried
tried_no_task = Err untried.NoTask

abbrev pub tried_not_out : Tried
tried_not_out = Err untried.NotOut

abbrev pub tried_out : Tried
tried_out = Ok tt

abbrev pub tried_task : (step attempt at : ℕ) → Option Task → Tried
tried_task s a k None = tried_no_task
tried_task s a k (Some u) = cond (s == k) (cond (a == u.attempt) (cond (out_now u.standing) tried_out tried_not_out) tried_not_out) tried_no_task

abbrev pub over_in : Phase → Bool
over_in Busy = false
over_in (Tasked s) = false
over_in (Asleep u) = false
over_in (Listens v w n u) = false
over_in (Ended v) = true
over_in Failed = true

-- who is not over has failed, and has no task
abbrev pub cancelled_of : Flow → Flow
cancelled_of f = cond (over_in f.place.phase) f (record { place = ended_as Failed f.place; vars = f.vars; task = None })
