-- One move on the words, as a function: what `step` does, on damaged words too. Assumes nothing.
use Rattle.std.specs.Prelude.{◌≡◌, ℕ, zero, suc, ◌+◌, Bool, true, false, cond, ◌&&◌, List, [], ◌∷◌, ◌++◌, length, take, drop, Some, None, Ok, Err, Option, Result, replicate, ◌==◌, nat_le, nat_lt, slice_index, slice_set}
use Rattle.plans.specs.declared.eval.Damaged.{Damaged}
use Rattle.plans.specs.Plan.{Wish as Wished, capped}
use Rattle.plans.specs.Eval.{Out as Run, Bad, Stop, run_e, One, no_value, one_value, one_of}
use Rattle.runs.specs.declared.unit.Statement.{Statement}
use Rattle.runs.specs.declared.unit.Statement.TheVariants.{Set, Do, Sleep, Hear, If, While, Guard, Go, Return, Fail, End}
use Rattle.runs.specs.declared.step.Phase.{Phase}
use Rattle.runs.specs.declared.step.Phase.TheVariants.{Busy, Tasked, Asleep, Listens, Ended, Failed}
use Rattle.runs.specs.declared.step.Place.{Place}
use Rattle.runs.specs.declared.step.Wish.{Wish}
use Rattle.runs.specs.declared.step.Moved.{Moved}
use Rattle.runs.specs.Machine.{spent}
use Rattle.runs.specs.Units.{statement_at, deep_at}

-- where it is then, its variables, and what it wishes for; or the words are of no plan
pub data Out : Type 0 where
  Lost : Out
  Went : Place → (vars : List ℕ) → List Wished → Out

abbrev pub at_first : Place
at_first = record { phase = Busy; here = 0; steps = 0; into = 0 }

abbrev pub gone_to : ℕ → Place → Place
gone_to a p = record { phase = Busy; here = a; steps = p.steps; into = p.into }

abbrev pub ended_as : Phase → Place → Place
ended_as q p = record { phase = q; here = p.here; steps = p.steps; into = p.into }

abbrev pub waits_at : Phase → ℕ → Place → Place
waits_at q a p = record { phase = q; here = a; steps = p.steps + 1; into = p.into }

abbrev pub asked_into : ℕ → Place → Place
asked_into v p = record { phase = Tasked p.steps; here = p.here; steps = p.steps + 1; into = v }

unfoldable pub fails_to : Option ℕ → Place → Place
fails_to None p = ended_as Failed p
fails_to (Some a) p = gone_to a p

unfoldable pub with_value : One → (ℕ → ℕ → Out) → Out
with_value no_value f = Lost
with_value (one_value x e) f = f x e

abbrev pub worth_at : (room : ℕ) → List ℕ → ℕ → List ℕ → One
worth_at room ws e vs = one_of (run_e room vs (drop e ws) e [])

-- the last of a stack is the first of a list
unfoldable pub backs : List ℕ → List ℕ → List ℕ
backs [] xs = xs
backs (x ∷ st) xs = backs st (x ∷ xs)

unfoldable pub with_all : Run → (List ℕ → Out) → Out
with_all Bad f = Lost
with_all (Stop st end) f = cond (nat_le (length st) 16) (f (backs st [])) Lost

-- sixteen words, with zeros behind the last of these
unfoldable pub fill : List ℕ → List ℕ
fill xs = take 16 (xs ++ replicate 16 0)

-- what a statement does
unfoldable pub does_w : (room : ℕ) → (ws : List ℕ) → (time : ℕ) → Option Statement → Place → (vars : List ℕ) → Out
does_w room ws t None p vs = Lost
does_w room ws t (Some (Set v next e)) p vs = cond (nat_lt v 64) (with_value (worth_at room ws e vs) (λ x end. Went (gone_to next p) (slice_set vs v x) [])) Lost
does_w room ws t (Some (Do v next way task)) p vs = cond (nat_lt v 64) (with_all (run_e room vs (drop (task + 12) ws) (task + 12) []) (λ xs. Went (asked_into v p) vs (record { kind = slice_index ws task; args = xs; tries = slice_index ws (task + 1); pause = slice_index ws (task + 2) } ∷ []))) Lost
does_w room ws t (Some (Sleep next e)) p vs = with_value (worth_at room ws e vs) (λ x end. Went (waits_at (Asleep (t + capped x)) next p) vs [])
does_w room ws t (Some (Hear v w next name)) p vs = cond (nat_lt v 64 && nat_lt w 64) (with_value (worth_at room ws (name + 64) vs) (λ x end. Went (waits_at (Listens v w name (t + capped x)) next p) vs [])) Lost
does_w room ws t (Some (If other e)) p vs = with_value (worth_at room ws e vs) (λ x end. Went (gone_to (cond (x == 0) other end) p) vs [])
does_w room ws t (Some (While next e)) p vs = with_value (worth_at room ws e vs) (λ x end. Went (gone_to (cond (x == 0) next end) p) vs [])
does_w room ws t (Some (Guard first)) p vs = Went (gone_to first p) vs []
does_w room ws t (Some (Go next)) p vs = Went (gone_to next p) vs []
does_w room ws t (Some (Return e)) p vs = with_value (worth_at room ws e vs) (λ x end. Went (ended_as (Ended x) p) vs [])
does_w room ws t (Some (Fail way)) p vs = Went (fails_to way p) vs []
does_w room ws t (Some End) p vs = Went (ended_as (Ended 0) p) vs []

abbrev pub busy : Phase → Bool
busy Busy = true
busy (Tasked s) = false
busy (Asleep u) = false
busy (Listens v w n u) = false
busy (Ended v) = false
busy Failed = false

-- one move more, if it is busy
unfoldable pub step_w : (room : ℕ) → (ws : List ℕ) → (time : ℕ) → Place → (vars : List ℕ) → Out
step_w room ws t p vs = cond (busy p.phase) (cond (spent (deep_at ws p.here) p.steps) (Went (ended_as Failed p) vs []) (does_w room ws t (statement_at ws p.here) p vs)) (Went p vs [])

unfoldable pub onward : Out → (Place → List ℕ → Out) → Out
onward Lost f = Lost
onward (Went p vs []) f = f p vs
onward (Went p vs (w ∷ ws)) f = Went p vs (w ∷ ws)

-- so many moves, or fewer where it wishes for something
unfoldable pub moves_w : (room : ℕ) → (ws : List ℕ) → (time : ℕ) → (n : ℕ) → Place → (vars : List ℕ) → Out
moves_w room ws t zero p vs = Went p vs []
moves_w room ws t (suc n) p vs = onward (step_w room ws t p vs) (moves_w room ws t n)

-- what a function returned, with the variables as they are then
abbrev pub Placed : Result Place Damaged → List ℕ → Out → Type 0
Placed (Ok p) vs o = o ≡ Went p vs []
Placed (Err e) vs o = o ≡ Lost

abbrev pub wishes : Option Wish → List Wished
wishes None = []
wishes (Some w) = record { kind = w.kind; args = take w.count w.args; tries = w.tries; pause = w.pause } ∷ []

abbrev pub Stepped : Result Moved Damaged → List ℕ → Out → Type 0
Stepped (Ok m) vs o = o ≡ Went m.place vs (wishes m.wish)
Stepped (Err e) vs o = o ≡ Lost
