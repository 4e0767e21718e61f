-- The machine on the flat form does what the meaning's trees do. Assumes nothing.
use Rattle.std.specs.Prelude.{◌≡◌, ℕ, ◌+◌, Bool, true, false, [], ◌∷◌, ◌++◌, ◌≢◌}
use Rattle.plans.specs.Plan.{Phase, Busy, Tasked, Asleep, Listens, Ended, Failed, Word, Flow, at, goes_on, ends, still, broken, heard, moves}
use Rattle.runs.specs.Machine.{Wrong, Code, FlatFlow, FlatMoved, fgoes, fends, fstill, fbroken, fheard, fmoves, after_do, way_of, Is, Follows}

-- move for move, with the same wish
abbrev pub MovesAlike : Type 0
MovesAlike = (code : Code) (n now : ℕ) (f : FlatFlow) (x : Flow) → Is code f x → Follows code (fmoves code n now (fstill f)) (moves n now (still x))

-- the task that it waited for has failed
abbrev pub BrokenAlike : Type 0
BrokenAlike = (code : Code) (f : FlatFlow) (x : Flow) (k : ℕ) → f.phase ≡ Tasked k → Is code f x → Is code (fbroken (way_of (code f.here).act) f) (broken x.frames x)

-- the task that it waited for has a result
abbrev pub ResultAlike : Type 0
ResultAlike = (code : Code) (f : FlatFlow) (x : Flow) (k v : ℕ) → f.phase ≡ Tasked k → Is code f x → Is code (fgoes (after_do (code f.here).act) (at f.into v f.vars) f) (goes_on x.frames (at x.into v x.vars) x)

-- it waits, and for no task
abbrev pub is_calm : Phase → Bool
is_calm Busy = true
is_calm (Tasked s) = false
is_calm (Asleep u) = true
is_calm (Listens v w n u) = true
is_calm (Ended v) = false
is_calm Failed = false

-- it wakes
abbrev pub WakesAlike : Type 0
WakesAlike = (code : Code) (f : FlatFlow) (x : Flow) → is_calm f.phase ≡ true → Is code f x → Is code (fgoes f.here f.vars f) (goes_on x.frames x.vars x)

-- a word that it waited for, or no word in time (n = 0, came = 0)
abbrev pub HeardAlike : Type 0
HeardAlike = (code : Code) (f : FlatFlow) (x : Flow) (v w n came : ℕ) → is_calm f.phase ≡ true → Is code f x → Is code (fheard v w n came f.box f.here f) (heard v w n came x.box x.frames x)

-- it is cancelled
abbrev pub EndsAlike : Type 0
EndsAlike = (code : Code) (f : FlatFlow) (x : Flow) → Is code f x → Is code (fends Failed f) (ends Failed x)

-- a word put into its box
abbrev pub fboxed : Word → FlatFlow → FlatFlow
fboxed w x = record { id = x.id; key = x.key; phase = x.phase; here = x.here; vars = x.vars; steps = x.steps; into = x.into; box = x.box ++ (w ∷ []); size = x.size }

abbrev pub boxed : Word → Flow → Flow
boxed w x = record { id = x.id; key = x.key; phase = x.phase; frames = x.frames; vars = x.vars; steps = x.steps; into = x.into; box = x.box ++ (w ∷ []); size = x.size }

abbrev pub BoxedAlike : Type 0
BoxedAlike = (code : Code) (f : FlatFlow) (x : Flow) (w : Word) → Is code f x → Is code (fboxed w f) (boxed w x)

-- a run cut in two goes on where it was
abbrev pub CutsAlike : Type 0
CutsAlike = (code : Code) (n m now : ℕ) (g : FlatMoved) → fmoves code (n + m) now g ≡ fmoves code m now (fmoves code n now g)

-- control is never at words that are of no plan
abbrev pub NeverWrong : Type 0
NeverWrong = (code : Code) (f : FlatFlow) (x : Flow) → Is code f x → (code f.here).act ≢ Wrong

pub record Alike : Type 0 where
  pub alike : MovesAlike
  pub broke : BrokenAlike
  pub result : ResultAlike
  pub wakes : WakesAlike
  pub hears : HeardAlike
  pub ends_it : EndsAlike
  pub boxes : BoxedAlike
  pub cuts : CutsAlike
  pub never : NeverWrong
