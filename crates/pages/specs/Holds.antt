-- A flow with its task is one flow of the house with its task, and each event on it is the house's. Assumes nothing.
use Rattle.std.specs.Prelude.{◌≡◌, ℕ, ◌<◌, ◌≤◌, Bool, true, false, cond, List, [], ◌∷◌, take, Some, None, Ok, Err, Option, Result}
use Rattle.plans.specs.declared.eval.Damaged.{Damaged}
use Rattle.plans.specs.Plan.{Flow as Meant, Block, Rest, Busy as busy_p, block_ok, size_of}
use Rattle.plans.specs.Flat.{laid}
use Rattle.flows.specs.House.{Task as Job, Standing as Stands, Due as due_job, Out as out_job, step_of, given, find, is_task, the_same, is_over, wanted, due_at}
use Rattle.flows.specs.One.{One, with_task, moved_one, works_one, wrong_one, ticked_one}
use Rattle.flows.specs.Summed.{stands_one, cancels_one}
use Rattle.runs.specs.declared.step.Phase.{Phase}
use Rattle.runs.specs.declared.step.Phase.TheVariants.{Tasked}
use Rattle.runs.specs.Machine.{FlatFlow, Is}
use Rattle.runs.specs.Decode.{code_in}
use Rattle.runs.specs.Carried.{phase_in, flow_in}
use Rattle.pages.specs.declared.flow.Standing.{Standing}
use Rattle.pages.specs.declared.flow.Standing.TheVariants.{Due, Out}
use Rattle.pages.specs.declared.flow.Task.{Task}
use Rattle.pages.specs.declared.flow.Flow.{Flow}
use Rattle.pages.specs.Sound.{Sound}
use Rattle.pages.specs.Events.{step_in, ticked_on, Tried, tried_no_task, tried_not_out, tried_out}

abbrev pub standing_of : Standing → Stands
standing_of (Due a) = due_job a
standing_of (Out u) = out_job u

-- the task of a flow, at one of its steps
abbrev pub job_of : (id step : ℕ) → Task → Job
job_of i s u = record { flow = i; step = s; kind = u.kind; args = take u.count u.args; attempt = u.attempt; tries = u.tries; pause = u.pause; standing = standing_of u.standing }

abbrev pub jobs_of : (id step : ℕ) → Option Task → List Job
jobs_of i s None = []
jobs_of i s (Some u) = job_of i s u ∷ []

abbrev pub tasks_of : (id : ℕ) → Flow → List Job
tasks_of i f = jobs_of i (step_in f.place.phase) f.task

-- f is the flow of o, with its task; y says which flow it is. Nothing is in its box
pub record Holds (room : ℕ) (plan : List ℕ) (f : Flow) (y : FlatFlow) (o : One) : Type 0 where
  pub x : Meant
  pub flow : o.flow ≡ x ∷ []
  pub is : Is (code_in room plan) (flow_in plan f.place f.vars y) x
  pub box : y.box ≡ []
  pub task : o.task ≡ tasks_of y.id f
  pub sound : Sound f

-- what came out is o; words that are of a plan are never damaged
abbrev pub HeldBy : (room : ℕ) → (plan : List ℕ) → Result Flow Damaged → FlatFlow → One → Type 0
HeldBy room ws (Ok f) y o = Holds room ws f y o
HeldBy room ws (Err e) y o = ⊥

-- the bounds that plans keep
pub record JobOk (t : Job) : Type 0 where
  pub first : 1 ≤ t.attempt
  pub attempt : t.attempt ≤ t.tries
  pub tries : t.tries ≤ 32
  pub pause : t.pause ≤ 86400000
  pub kind : t.kind < 4294967296

abbrev pub TasksOk : List Job → Type 0
TasksOk [] = Unit {0}
TasksOk (t ∷ ts) = JobOk t × TasksOk ts

-- events -------------------------------------------------------------------------

-- a new flow, of which y says which it is
abbrev pub new_of : Block → List ℕ → FlatFlow → Meant
new_of b xs y = record { id = y.id; key = y.key; phase = busy_p; frames = Rest b ∷ []; vars = given 0 xs; steps = 0; into = 0; box = []; size = size_of b }

abbrev pub alone : Meant → One
alone x = record { flow = x ∷ []; task = [] }

abbrev pub BeginsAs : (room : ℕ) → (plan given : List ℕ) → (time : ℕ) → Result Flow Damaged → Type 0
BeginsAs room ws xs t r =
    (b : Block) (y : FlatFlow) → ws ≡ laid b → block_ok b ≡ true → size_of b ≤ room → y.box ≡ [] → y.size ≡ size_of b →
    TasksOk (moved_one t (new_of b xs y) (alone (new_of b xs y))).task → HeldBy room ws r y (moved_one t (new_of b xs y) (alone (new_of b xs y)))

abbrev pub WorksAs : (room : ℕ) → (plan : List ℕ) → (time value : ℕ) → Flow → Result Flow Damaged → Type 0
WorksAs room ws t v f r =
    (k : ℕ) (y : FlatFlow) (o : One) → f.place.phase ≡ Tasked k → Holds room ws f y o →
    TasksOk (works_one t v o.flow (with_task [] o)).task → HeldBy room ws r y (works_one t v o.flow (with_task [] o))

abbrev pub WrongAs : (room : ℕ) → (plan : List ℕ) → (time : ℕ) → Flow → Result Flow Damaged → Type 0
WrongAs room ws t f r =
    (u : Job) (y : FlatFlow) (o : One) → o.task ≡ u ∷ [] → Holds room ws f y o →
    TasksOk (wrong_one t u o).task → HeldBy room ws r y (wrong_one t u o)

abbrev pub TicksAs : (room : ℕ) → (plan : List ℕ) → (time : ℕ) → Flow → Result Flow Damaged → Type 0
TicksAs room ws t f r = (y : FlatFlow) (o : One) → Holds room ws f y o → TasksOk (ticked_one t o).task → HeldBy room ws r y (ticked_one t o)

-- who does not stir stays as it is
abbrev pub StaysAs : (time : ℕ) → Flow → Bool → Type 0
StaysAs t f r = r ≡ false → (room : ℕ) (ws : List ℕ) → (ticked_on room ws t f ≡ Ok f) × ((y : FlatFlow) (o : One) → Holds room ws f y o → ticked_one t o ≡ o)

abbrev pub HandedAs : (until : ℕ) → Flow → Flow → Type 0
HandedAs until f r = (room : ℕ) (ws : List ℕ) (u : Job) (y : FlatFlow) (o : One) → o.task ≡ u ∷ [] → Holds room ws f y o → Holds room ws r y (stands_one until u o)

abbrev pub WantedAs : (time : ℕ) → List ℕ → Flow → Bool → Type 0
WantedAs t ks f r = (room : ℕ) (ws : List ℕ) (y : FlatFlow) (o : One) → Holds room ws f y o → ((u : Job) → o.task ≡ u ∷ [] → r ≡ wanted t ks u) × (o.task ≡ [] → r ≡ false)

abbrev pub DueAs : Flow → ℕ → Type 0
DueAs f r = (room : ℕ) (ws : List ℕ) (u : Job) (y : FlatFlow) (o : One) → o.task ≡ u ∷ [] → Holds room ws f y o → r ≡ due_at u.standing

abbrev pub StepAs : Phase → ℕ → Type 0
StepAs p r = (ws : List ℕ) → r ≡ step_of (phase_in ws p)

abbrev pub tried_in : (attempt : ℕ) → List Job → Tried
tried_in a [] = tried_no_task
tried_in a (u ∷ us) = cond (the_same a u) tried_out tried_not_out

abbrev pub TriedAs : (step attempt : ℕ) → Flow → Tried → Type 0
TriedAs s a f r = (room : ℕ) (ws : List ℕ) (y : FlatFlow) (o : One) → Holds room ws f y o → r ≡ tried_in a (find (is_task y.id s) o.task)

abbrev pub OverAs : Phase → Bool → Type 0
OverAs p r = (ws : List ℕ) → r ≡ is_over (phase_in ws p)

abbrev pub CancelledAs : Flow → Flow → Type 0
CancelledAs f r = (room : ℕ) (ws : List ℕ) (y : FlatFlow) (o : One) → Holds room ws f y o → Holds room ws r y (cancels_one o.flow o)
