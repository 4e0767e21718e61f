-- What the house does at a report, or at a wish for more time, by what `tried` finds. Assumes nothing.
use Rattle.std.specs.Prelude.{◌≡◌, ℕ, ◌%◌, Bool, false, cond, List, [], ◌∷◌, ◌==◌}
use Rattle.plans.specs.Plan.{top}
use Rattle.flows.specs.House.{Task as Job, find, is_task}
use Rattle.flows.specs.One.{One, with_task, works_one, wrong_one}
use Rattle.flows.specs.Summed.{stands_one, longer_one, reports_one}
use Rattle.runs.specs.declared.step.Phase.TheVariants.{Tasked}
use Rattle.runs.specs.Machine.{FlatFlow}
use Rattle.pages.specs.declared.flow.Flow.{Flow}
use Rattle.pages.specs.Events.{step_in, tried_task, Tried, tried_no_task, tried_not_out, tried_out}
use Rattle.pages.specs.Holds.{Holds, TasksOk}

abbrev pub tried_of : (step attempt : ℕ) → Flow → Tried
tried_of s a f = tried_task s a (step_in f.place.phase) f.task

-- of the try that is out
pub record TryOut (f : Flow) (y : FlatFlow) (o : One) (s a : ℕ) : Type 0 where
  pub job : Job
  pub phase : f.place.phase ≡ Tasked s
  pub task : o.task ≡ job ∷ []
  pub reports : (t v : ℕ) (well : Bool) → reports_one t a well v (find (is_task y.id s) o.task) o ≡ cond well (works_one t (v % top) o.flow (with_task [] o)) (wrong_one t job o)
  pub longer : (until : ℕ) → longer_one a until (find (is_task y.id s) o.task) o ≡ stands_one until job o

-- of any other
pub record TryStays (y : FlatFlow) (o : One) (s a : ℕ) : Type 0 where
  pub reports : (t v : ℕ) (well : Bool) → reports_one t a well v (find (is_task y.id s) o.task) o ≡ o
  pub longer : (until : ℕ) → longer_one a until (find (is_task y.id s) o.task) o ≡ o

pub record Tries : Type 0 where
  pub out : (room : ℕ) (ws : List ℕ) (f : Flow) (y : FlatFlow) (o : One) (s a : ℕ) → Holds room ws f y o → tried_of s a f ≡ tried_out → TryOut f y o s a
  pub not_out : (room : ℕ) (ws : List ℕ) (f : Flow) (y : FlatFlow) (o : One) (s a : ℕ) → Holds room ws f y o → tried_of s a f ≡ tried_not_out → TryStays y o s a
  pub no_task : (room : ℕ) (ws : List ℕ) (f : Flow) (y : FlatFlow) (o : One) (s a : ℕ) → Holds room ws f y o → tried_of s a f ≡ tried_no_task → find (is_task y.id s) o.task ≡ []
  -- a flow has no task of another
  pub others : (room : ℕ) (ws : List ℕ) (f : Flow) (y : FlatFlow) (o : One) (i s : ℕ) → Holds room ws f y o → (i == y.id) ≡ false → find (is_task i s) o.task ≡ []
  -- its task keeps the bounds that plans keep
  pub bounded : (room : ℕ) (ws : List ℕ) (f : Flow) (y : FlatFlow) (o : One) → Holds room ws f y o → TasksOk o.task
