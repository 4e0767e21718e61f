-- What always holds of one flow with its task, and how it goes on.
use Rattle.std.specs.Prelude.{◌≡◌, ℕ, ◌<◌, ◌≤◌, Bool, true, false, ◌⊎◌, List, [], ◌∷◌, map, length}
use mathlib.Core.List.{Memᴰ}
use Rattle.plans.specs.Plan.{Phase, Busy, Tasked, Asleep, Listens, Ended, Failed, Flow}
use Rattle.flows.specs.House.{Task, House, is_out, find, is_flow, blank, Call, does, down}
use Rattle.flows.specs.One.{One, look, frames_ok}

unfoldable pub waits_task : Phase → Bool
waits_task Busy = false
waits_task (Tasked s) = true
waits_task (Asleep u) = false
waits_task (Listens v w n u) = false
waits_task (Ended v) = false
waits_task Failed = false

-- what a task asks for stays within what a plan can ask for
pub record Asks (k : ℕ) (xs : List ℕ) (n p : ℕ) : Type 0 where
  pub kind : k < 4294967296
  pub args : length xs ≤ 16
  pub tries : n ≤ 32
  pub pause : p ≤ 86400000

abbrev pub AsksOf : Task → Type 0
AsksOf t = Asks t.kind t.args t.tries t.pause

pub data Fine (j : ℕ) (o : One) : Type 0 where
  absent : o.flow ≡ [] → o.task ≡ [] → Fine j o
  calm : (x : Flow) → o.flow ≡ x ∷ [] → o.task ≡ [] → x.id ≡ j → frames_ok x.frames ≡ true → waits_task x.phase ≡ false → Fine j o
  tasked : (x : Flow) (t : Task) (s : ℕ) → o.flow ≡ x ∷ [] → o.task ≡ t ∷ [] → x.id ≡ j → frames_ok x.frames ≡ true → x.phase ≡ Tasked s → s < x.steps →
      t.flow ≡ j → t.step ≡ s → 1 ≤ t.attempt → t.attempt ≤ t.tries → AsksOf t → Fine j o

-- p comes after o: a flow keeps its key, its steps never fall; a task is of a new step, or the same, or a later try of it
abbrev pub Later : Task → Task → Type 0
Later t u = (t.attempt < u.attempt) ⊎ ((t.attempt ≡ u.attempt) × (is_out t.standing ≡ true → is_out u.standing ≡ true))

pub record After (o p : One) : Type 0 where
  pub flow : (y : Flow) → p.flow ≡ y ∷ [] → (x : Flow) × (o.flow ≡ x ∷ []) × (x.key ≡ y.key) × (x.steps ≤ y.steps)
  pub task : (u : Task) → p.task ≡ u ∷ [] → ((x : Flow) × (o.flow ≡ x ∷ []) × (x.steps ≤ u.step)) ⊎ ((t : Task) × (o.task ≡ t ∷ []) × (t.step ≡ u.step) × Later t u)

abbrev pub Goes : ℕ → One → One → Type 0
Goes j o p = Fine j p × After o p

-- ids strictly ascending, and below n
abbrev pub Asc : ℕ → List ℕ → Type 0
Asc n [] = Unit {0}
Asc n (i ∷ is) = ((k : ℕ) → Memᴰ k is → i < k) × (i < n) × Asc n is

pub record Good (h : House) : Type 0 where
  pub ids : Asc h.next (map (λ (x : Flow). x.id) h.flows)
  pub fine : (j : ℕ) → Fine j (look j h)
  pub keys : (i j : ℕ) (x y : Flow) → find (is_flow i) h.flows ≡ x ∷ [] → find (is_flow j) h.flows ≡ y ∷ [] → x.key ≡ y.key → i ≡ j

-- a house is good from the start, after each call, and after each failure of power
pub record GoodKept : Type 0 where
  pub starts : Good blank
  pub calls : (c : Call) (h : House) → Good h → Good (does c h).house
  pub falls : (h : House) → Good h → Good (down h)

-- so what each task of it asks for is in bounds
abbrev pub TasksBounded : Type 0
TasksBounded = (h : House) → Good h → (t : Task) → Memᴰ t h.tasks → AsksOf t
