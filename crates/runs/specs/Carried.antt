-- What `step` does on a plan's words is what the machine does, and so what the meaning does. Assumes nothing.
use Rattle.std.specs.Prelude.{◌≡◌, ℕ, ◌+◌, Bool, true, false, cond, ◌&&◌, ◌⊎◌, List, [], ◌∷◌, length, drop}
use Rattle.plans.specs.Plan.{Name, Expr, Word, Flow, Phase as MeantPhase, Busy as busy_p, Tasked as tasked_p, Asleep as asleep_p, Listens as listens_p, Ended as ended_p, Failed as failed_p, take_word, without, capped, value, is_busy, none, still, moves, Moved as Meant}
use Rattle.plans.specs.Eval.{look}
use Rattle.runs.specs.declared.step.Phase.{Phase}
use Rattle.runs.specs.declared.step.Phase.TheVariants.{Busy, Tasked, Asleep, Listens, Ended, Failed}
use Rattle.runs.specs.declared.step.Place.{Place}
use Rattle.runs.specs.Machine.{Act, SetOp, DoOp, SleepOp, HearOp, IfOp, WhileOp, EnterOp, GoOp, ReturnOp, FailOp, EndOp, Wrong, Code, FlatFlow, FlatMoved, fends, fstill, fheard, flistens, fdoes, spent, Is, Follows}
use Rattle.runs.specs.Decode.{letters, code_in}
use Rattle.runs.specs.Steps.{Out, Lost, Went, step_w, moves_w}

unfoldable pub phase_in : List ℕ → Phase → MeantPhase
phase_in ws Busy = busy_p
phase_in ws (Tasked s) = tasked_p s
phase_in ws (Asleep u) = asleep_p u
phase_in ws (Listens v w name u) = listens_p v w (letters 64 (drop name ws)) u
phase_in ws (Ended x) = ended_p x
phase_in ws Failed = failed_p

-- a place and variables as the machine's flow; y has what a place does not: its name, its box and how large its plan is
abbrev pub flow_in : List ℕ → Place → List ℕ → FlatFlow → FlatFlow
flow_in ws p vs y = record { id = y.id; key = y.key; phase = phase_in ws p.phase; here = p.here; vars = look vs; steps = p.steps; into = p.into; box = y.box; size = y.size }

-- a move that looks into no box: who hears waits, and whoever keeps the box gives it a word at once if there is one
unfoldable pub deaf : ℕ → Act → FlatFlow → FlatMoved
deaf now (SetOp v e next) x = fdoes now (SetOp v e next) x
deaf now (DoOp v k es tries pause next way) x = fdoes now (DoOp v k es tries pause next way) x
deaf now (SleepOp e next) x = fdoes now (SleepOp e next) x
deaf now (HearOp v w n e next) x = fstill (flistens v w n (now + capped (value e x.vars)) [] next x)
deaf now (IfOp e y0 n0) x = fdoes now (IfOp e y0 n0) x
deaf now (WhileOp e body next) x = fdoes now (WhileOp e body next) x
deaf now (EnterOp first) x = fdoes now (EnterOp first) x
deaf now (GoOp next) x = fdoes now (GoOp next) x
deaf now (ReturnOp e) x = fdoes now (ReturnOp e) x
deaf now (FailOp way) x = fdoes now (FailOp way) x
deaf now EndOp x = fdoes now EndOp x
deaf now Wrong x = fdoes now Wrong x

abbrev pub dfurther : Code → ℕ → FlatMoved → FlatMoved
dfurther code now m = cond (is_busy m.flow.phase && none m.wish) (cond (spent (code m.flow.here).deep m.flow.steps) (fstill (fends failed_p m.flow)) (deaf now (code m.flow.here).act m.flow)) m

-- no word in the box that it would hear here
unfoldable pub Quiet : Act → List Word → Type 0
Quiet (SetOp v e next) box = Unit
Quiet (DoOp v k es tries pause next way) box = Unit
Quiet (SleepOp e next) box = Unit
Quiet (HearOp v w n e next) box = take_word n box ≡ []
Quiet (IfOp e y0 n0) box = Unit
Quiet (WhileOp e body next) box = Unit
Quiet (EnterOp first) box = Unit
Quiet (GoOp next) box = Unit
Quiet (ReturnOp e) box = Unit
Quiet (FailOp way) box = Unit
Quiet EndOp box = Unit
Quiet Wrong box = Unit

-- with none it is the machine's move
abbrev pub QuietAlike : Type 0
QuietAlike = (now : ℕ) (a : Act) (x : FlatFlow) → Quiet a x.box → deaf now a x ≡ fdoes now a x

-- with one the machine's move is that it waits and has heard it at once
abbrev pub HearsAtOnce : Type 0
HearsAtOnce = (now v w : ℕ) (n : Name) (e : Expr) (next : ℕ) (x : FlatFlow) (found : Word) (more : List Word) → take_word n x.box ≡ found ∷ more →
    fdoes now (HearOp v w n e next) x ≡ fstill (fheard v w found.value 1 (without n x.box) next (deaf now (HearOp v w n e next) x).flow)

-- what came out is what the machine says, and there are 64 variables still
abbrev pub Tells : List ℕ → FlatFlow → Out → FlatMoved → Type 0
Tells ws y Lost m = ⊥
Tells ws y (Went p vs w) m = (m ≡ record { flow = flow_in ws p vs y; wish = w }) × (length vs ≡ 64)

-- on words that are of a plan at this place
abbrev pub StepsAlike : Type 0
StepsAlike = (room : ℕ) (ws : List ℕ) (now : ℕ) (p : Place) (vs : List ℕ) (y : FlatFlow) → length vs ≡ 64 →
    ((code_in room ws p.here).act ≡ Wrong) ⊎ Tells ws y (step_w room ws now p vs) (dfurther (code_in room ws) now (fstill (flow_in ws p vs y)))

-- whole runs: what came out is what the meaning comes to, with an address for its frames again
abbrev pub Meets : (room : ℕ) → List ℕ → FlatFlow → Out → Meant → Type 0
Meets room ws y Lost m = ⊥
Meets room ws y (Went p vs w) m = Follows (code_in room ws) (record { flow = flow_in ws p vs y; wish = w }) m

-- it has come to wait for a word
abbrev pub listening : Phase → Bool
listening Busy = false
listening (Tasked s) = false
listening (Asleep u) = false
listening (Listens v w name u) = true
listening (Ended x) = false
listening Failed = false

unfoldable pub hears : Out → Bool
hears Lost = false
hears (Went p vs w) = listening p.phase

-- of a flow with nothing in its box, or that has not come to wait for a word
abbrev pub MovesOn : Type 0
MovesOn = (room : ℕ) (ws : List ℕ) (now n : ℕ) (p : Place) (vs : List ℕ) (y : FlatFlow) (x : Flow) → length vs ≡ 64 → (y.box ≡ []) ⊎ (hears (moves_w room ws now n p vs) ≡ false) → Is (code_in room ws) (flow_in ws p vs y) x →
    Meets room ws y (moves_w room ws now n p vs) (moves n now (still x))

pub record Carried : Type 0 where
  pub quiet : QuietAlike
  pub at_once : HearsAtOnce
  pub steps : StepsAlike
  pub whole : MovesOn
