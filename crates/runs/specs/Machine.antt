-- One run of a plan in its flat form: where it is in the plan is one address, and no frames are kept.
-- A flow that waits for a task stays at its unit, which says where control goes on and where a failure goes.
-- Assumes nothing.
use Rattle.std.specs.Prelude.{◌≡◌, ℕ, zero, suc, ◌+◌, Bool, true, false, cond, ◌&&◌, ◌||◌, List, [], ◌∷◌, length, ◌==◌, nat_le, nat_lt}
use Rattle.plans.specs.Plan.{Name, Expr, Stmt, Set, Do, Sleep, Hear, If, While, Guard, Return, FailNow, Block, done, then, Frame, Rest, Catch, Phase, Busy, Tasked, Asleep, Listens, Ended, Failed, Word, Flow, Wish, Moved, at, take_word, without, capped, value, values, is_busy, none}
use Rattle.plans.specs.Flat.{Way, Nowhere, To, under}

-- what a unit does; each number named next, yes, no, body, first is an address
-- Go: the end of a part, and the step out of a guard's first part. Wrong: words that are of no plan
pub data Act : Type 0 where
  SetOp : (v : ℕ) → Expr → (next : ℕ) → Act
  DoOp : (v kind : ℕ) → List Expr → (tries pause next : ℕ) → Way → Act
  SleepOp : Expr → (next : ℕ) → Act
  HearOp : (v w : ℕ) → Name → Expr → (next : ℕ) → Act
  IfOp : Expr → (yes no : ℕ) → Act
  WhileOp : Expr → (body next : ℕ) → Act
  EnterOp : (first : ℕ) → Act
  GoOp : (next : ℕ) → Act
  ReturnOp : Expr → Act
  FailOp : Way → Act
  EndOp : Act
  Wrong : Act

-- deep: how many frames the meaning has while control is here
pub record Op : Type 0 where
  pub deep : ℕ
  pub act : Act

abbrev pub op : ℕ → Act → Op
op d a = record { deep = d; act = a }

-- what stands at each address
abbrev pub Code : Type 0
Code = ℕ → Op

-- the machine --------------------------------------------------------------

-- here: the address to go on at, or of the task that it waits for
pub record FlatFlow : Type 0 where
  pub id : ℕ
  pub key : Name
  pub phase : Phase
  pub here : ℕ
  pub vars : ℕ → ℕ
  pub steps : ℕ
  pub into : ℕ
  pub box : List Word
  pub size : ℕ

pub record FlatMoved : Type 0 where
  pub flow : FlatFlow
  pub wish : List Wish

abbrev pub fgoes : ℕ → (ℕ → ℕ) → FlatFlow → FlatFlow
fgoes a f x = record { id = x.id; key = x.key; phase = Busy; here = a; vars = f; steps = x.steps; into = x.into; box = x.box; size = x.size }

abbrev pub fends : Phase → FlatFlow → FlatFlow
fends p x = record { id = x.id; key = x.key; phase = p; here = x.here; vars = x.vars; steps = x.steps; into = x.into; box = x.box; size = x.size }

abbrev pub fwaits : Phase → ℕ → FlatFlow → FlatFlow
fwaits p a x = record { id = x.id; key = x.key; phase = p; here = a; vars = x.vars; steps = x.steps + 1; into = x.into; box = x.box; size = x.size }

abbrev pub fstill : FlatFlow → FlatMoved
fstill x = record { flow = x; wish = [] }

unfoldable pub fbroken : Way → FlatFlow → FlatFlow
fbroken Nowhere x = fends Failed x
fbroken (To a) x = fgoes a x.vars x

abbrev pub fheard : ℕ → ℕ → ℕ → ℕ → List Word → ℕ → FlatFlow → FlatFlow
fheard v w x came ws a y = record { id = y.id; key = y.key; phase = Busy; here = a; vars = at w came (at v x y.vars); steps = y.steps; into = y.into; box = ws; size = y.size }

unfoldable pub flistens : ℕ → ℕ → Name → ℕ → List Word → ℕ → FlatFlow → FlatFlow
flistens v w n until [] a y = fwaits (Listens v w n until) a y
flistens v w n until (x ∷ xs) a y = fheard v w x.value 1 (without n y.box) a (fwaits Busy a y)

-- it waits for a task at the unit that it is at
abbrev pub ftasked : ℕ → FlatFlow → FlatFlow
ftasked v x = record { id = x.id; key = x.key; phase = Tasked x.steps; here = x.here; vars = x.vars; steps = x.steps + 1; into = v; box = x.box; size = x.size }

-- one move: what the unit says
unfoldable pub fdoes : ℕ → Act → FlatFlow → FlatMoved
fdoes now (SetOp v e next) x = fstill (fgoes next (at v (value e x.vars) x.vars) x)
fdoes now (DoOp v k es tries pause next way) x = record { flow = ftasked v x; wish = record { kind = k; args = values es x.vars; tries = tries; pause = pause } ∷ [] }
fdoes now (SleepOp e next) x = fstill (fwaits (Asleep (now + capped (value e x.vars))) next x)
fdoes now (HearOp v w n e next) x = fstill (flistens v w n (now + capped (value e x.vars)) (take_word n x.box) next x)
fdoes now (IfOp e y0 n0) x = fstill (fgoes (cond (value e x.vars == 0) n0 y0) x.vars x)
fdoes now (WhileOp e body next) x = fstill (fgoes (cond (value e x.vars == 0) next body) x.vars x)
fdoes now (EnterOp first) x = fstill (fgoes first x.vars x)
fdoes now (GoOp next) x = fstill (fgoes next x.vars x)
fdoes now (ReturnOp e) x = fstill (fends (Ended (value e x.vars)) x)
fdoes now (FailOp way) x = fstill (fbroken way x)
fdoes now EndOp x = fstill (fends (Ended 0) x)
fdoes now Wrong x = fstill (fends Failed x)

-- more than 64 frames deep, or 2 to the 62 steps: that is a failure of the whole, which no guard takes
abbrev pub spent : ℕ → ℕ → Bool
spent deep steps = nat_lt 64 deep || nat_le 4611686018427387904 steps

abbrev pub ffurther : Code → ℕ → FlatMoved → FlatMoved
ffurther code now m = cond (is_busy m.flow.phase && none m.wish) (cond (spent (code m.flow.here).deep m.flow.steps) (fstill (fends Failed m.flow)) (fdoes now (code m.flow.here).act m.flow)) m

unfoldable pub fmoves : Code → ℕ → ℕ → FlatMoved → FlatMoved
fmoves code zero now m = m
fmoves code (suc n) now m = fmoves code n now (ffurther code now m)

-- of a task's unit: where control goes on with its result
unfoldable pub after_do : Act → ℕ
after_do (SetOp v e next) = 0
after_do (DoOp v k es tries pause next way) = next
after_do (SleepOp e next) = 0
after_do (HearOp v w n e next) = 0
after_do (IfOp e y0 n0) = 0
after_do (WhileOp e body next) = 0
after_do (EnterOp first) = 0
after_do (GoOp next) = 0
after_do (ReturnOp e) = 0
after_do (FailOp way) = 0
after_do EndOp = 0
after_do Wrong = 0

-- and where its failure goes
unfoldable pub way_of : Act → Way
way_of (SetOp v e next) = Nowhere
way_of (DoOp v k es tries pause next way) = way
way_of (SleepOp e next) = Nowhere
way_of (HearOp v w n e next) = Nowhere
way_of (IfOp e y0 n0) = Nowhere
way_of (WhileOp e body next) = Nowhere
way_of (EnterOp first) = Nowhere
way_of (GoOp next) = Nowhere
way_of (ReturnOp e) = Nowhere
way_of (FailOp way) = Nowhere
way_of EndOp = Nowhere
way_of Wrong = Nowhere

-- is it a task's unit
unfoldable pub is_do : Act → Bool
is_do (SetOp v e next) = false
is_do (DoOp v k es tries pause next way) = true
is_do (SleepOp e next) = false
is_do (HearOp v w n e next) = false
is_do (IfOp e y0 n0) = false
is_do (WhileOp e body next) = false
is_do (EnterOp first) = false
is_do (GoOp next) = false
is_do (ReturnOp e) = false
is_do (FailOp way) = false
is_do EndOp = false
is_do Wrong = false

-- what stands where --------------------------------------------------------

-- FlatStmt code a s next way u d: the statement is at a, with d frames there; after it control is at next with u frames; a failure goes to way
-- Flat code a b next way n: the part is at a, with n frames under it
-- FlatRest: the same, of what is left of a part of which something was done: where nothing is left control is behind the part
unfoldable mutual
  pub FlatStmt : Code → ℕ → Stmt → ℕ → Way → ℕ → ℕ → Type 0
  FlatStmt code a (Set v e) next way u d = code a ≡ op d (SetOp v e next)
  FlatStmt code a (Do v k es t p) next way u d = code a ≡ op d (DoOp v k es t p next way)
  FlatStmt code a (Sleep e) next way u d = code a ≡ op d (SleepOp e next)
  FlatStmt code a (Hear v w n e) next way u d = code a ≡ op d (HearOp v w n e next)
  FlatStmt code a (If e x y) next way u d = (y0 n0 : ℕ) × (code a ≡ op d (IfOp e y0 n0)) × Flat code y0 x next way u × Flat code n0 y next way u
  FlatStmt code a (While e x) next way u d = (body turn : ℕ) × (code a ≡ op d (WhileOp e body next)) × (code turn ≡ op (suc u) (WhileOp e body next)) × Flat code body x turn way (suc u)
  FlatStmt code a (Guard x y) next way u d = (first leave other : ℕ) × (code a ≡ op d (EnterOp first)) × (code leave ≡ op (suc u) (GoOp next)) × Flat code first x leave (To other) (suc u) × Flat code other y next way u
  FlatStmt code a (Return e) next way u d = code a ≡ op d (ReturnOp e)
  FlatStmt code a FailNow next way u d = code a ≡ op d (FailOp way)

  pub Flat : Code → ℕ → Block → ℕ → Way → ℕ → Type 0
  Flat code a done next way n = code a ≡ op (suc n) (GoOp next)
  Flat code a (then s b) next way n = (m : ℕ) × FlatStmt code a s m way (under b n) (suc n) × FlatRest code m b next way n

  pub FlatRest : Code → ℕ → Block → ℕ → Way → ℕ → Type 0
  FlatRest code a done next way n = a ≡ next
  FlatRest code a (then s b) next way n = (m : ℕ) × FlatStmt code a s m way (under b n) (suc n) × FlatRest code m b next way n

-- control at this address is what these frames mean, and their nearest guard is way
unfoldable pub Stack : Code → ℕ → List Frame → Way → Type 0
Stack code a [] way = (code a ≡ op 0 EndOp) × (way ≡ Nowhere)
Stack code a (Rest b ∷ fs) way = (next : ℕ) × Flat code a b next way (length fs) × Stack code next fs way
Stack code a (Catch b ∷ fs) way = (next other : ℕ) × (outer : Way) × (code a ≡ op (suc (length fs)) (GoOp next)) × (way ≡ To other) × Flat code other b next outer (length fs) × Stack code next fs outer

-- an address that is somewhere in the plan
pub record Somewhere (code : Code) (a : ℕ) : Type 0 where
  pub frames : List Frame
  pub way : Way
  pub stands : Stack code a frames way

unfoldable pub Control : Code → Phase → ℕ → List Frame → Type 0
Control code Busy a fs = (way : Way) × Stack code a fs way
Control code (Tasked s) a fs = (is_do (code a).act ≡ true) × Stack code (after_do (code a).act) fs (way_of (code a).act)
Control code (Asleep u) a fs = (way : Way) × Stack code a fs way
Control code (Listens v w n u) a fs = (way : Way) × Stack code a fs way
Control code (Ended v) a fs = fs ≡ []
Control code Failed a fs = fs ≡ []

-- the flow of the meaning, with these frames
abbrev pub as_tree : List Frame → FlatFlow → Flow
as_tree fs x = record { id = x.id; key = x.key; phase = x.phase; frames = fs; vars = x.vars; steps = x.steps; into = x.into; box = x.box; size = x.size }

-- f is the flow x of the meaning, its frames as one address
pub record Is (code : Code) (f : FlatFlow) (x : Flow) : Type 0 where
  pub same : x ≡ as_tree x.frames f
  pub control : Control code f.phase f.here x.frames
  pub place : Somewhere code f.here

pub record Follows (code : Code) (g : FlatMoved) (m : Moved) : Type 0 where
  pub flow : Is code g.flow m.flow
  pub wish : m.wish ≡ g.wish
