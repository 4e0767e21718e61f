-- What is told to a flow that waits. Assumes nothing.
use Rattle.std.specs.Prelude.{ℕ, List, Some, None, Ok, Err, Option, Result}
use Rattle.plans.specs.declared.eval.Damaged.{Damaged}
use Rattle.plans.specs.Plan.{Flow}
use Rattle.runs.specs.declared.unit.Statement.{Statement}
use Rattle.runs.specs.declared.unit.Statement.TheVariants.{Set, Do, Sleep, Hear, If, While, Guard, Go, Return, Fail, End}
use Rattle.runs.specs.declared.step.Place.{Place}
use Rattle.runs.specs.declared.event.Task.{Task}
use Rattle.runs.specs.Machine.{FlatFlow, Is}
use Rattle.runs.specs.Decode.{code_in}
use Rattle.runs.specs.Steps.{Out, Lost}
use Rattle.runs.specs.Carried.{flow_in}

-- where a task goes on, and where its failure goes
abbrev pub task_of : Statement → Option Task
task_of (Set v next e) = None
task_of (Do v next way task) = Some (record { next = next; way = way })
task_of (Sleep next e) = None
task_of (Hear v w next name) = None
task_of (If other e) = None
task_of (While next e) = None
task_of (Guard first) = None
task_of (Go next) = None
task_of (Return e) = None
task_of (Fail way) = None
task_of End = None

abbrev pub task_in : Option Statement → Option Task
task_in None = None
task_in (Some s) = task_of s

unfoldable pub with_task : Option Task → (ℕ → Option ℕ → Out) → Out
with_task None f = Lost
with_task (Some t) f = f t.next t.way

abbrev pub by_task : Option Statement → (ℕ → Option ℕ → Out) → Out
by_task s f = with_task (task_in s) f

-- what a hearing's variables get: the word's value and 1, or 0 twice where none came in time
unfoldable pub worth : Option ℕ → ℕ
worth None = 0
worth (Some v) = v

unfoldable pub came : Option ℕ → ℕ
came None = 0
came (Some v) = 1

-- the flow of the meaning as it is then; words that are of a plan are never damaged
abbrev pub NowIs : (room : ℕ) → (words : List ℕ) → FlatFlow → Result Place Damaged → (after : List ℕ) → Flow → Type 0
NowIs room ws y (Ok p) us x = Is (code_in room ws) (flow_in ws p us y) x
NowIs room ws y (Err e) us x = ⊥
