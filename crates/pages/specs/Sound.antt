-- What holds of each flow that a page may say, and what was written is read. Assumes nothing.
use Rattle.std.specs.Prelude.{◌≡◌, ℕ, ◌<◌, ◌≤◌, List, [], ◌∷◌, length, take, Some, None, Ok, Option}
use Rattle.runs.specs.declared.step.Phase.{Phase}
use Rattle.runs.specs.declared.step.Phase.TheVariants.{Busy, Tasked, Asleep, Listens, Ended, Failed}
use Rattle.pages.specs.declared.flow.Standing.{Standing}
use Rattle.pages.specs.declared.flow.Standing.TheVariants.{Due, Out}
use Rattle.pages.specs.declared.flow.Task.{Task}
use Rattle.pages.specs.declared.flow.Flow.{Flow}
use Rattle.runs.specs.Steps.{fill}
use Rattle.pages.specs.Page.{decode_of, encode_of}

pub record TaskOk (t : Task) : Type 0 where
  pub args : t.args ≡ fill (take t.count t.args)
  pub full : length t.args ≡ 16
  pub count : t.count ≤ 16
  pub first : 1 ≤ t.attempt
  pub attempt : t.attempt ≤ t.tries
  pub tries : t.tries ≤ 32
  pub pause : t.pause ≤ 86400000
  pub kind : t.kind < 4294967296

-- the variables of a hearing are two of the 64
abbrev pub PhaseOk : Phase → Type 0
PhaseOk Busy = Unit {0}
PhaseOk (Tasked s) = Unit {0}
PhaseOk (Asleep u) = Unit {0}
PhaseOk (Listens v w n u) = (v < 64) × (w < 64)
PhaseOk (Ended v) = Unit {0}
PhaseOk Failed = Unit {0}

-- a task exactly where the phase is that of one
abbrev pub Agree : Phase → Option Task → Type 0
Agree Busy None = Unit {0}
Agree Busy (Some t) = ⊥
Agree (Tasked s) None = ⊥
Agree (Tasked s) (Some t) = TaskOk t
Agree (Asleep u) None = Unit {0}
Agree (Asleep u) (Some t) = ⊥
Agree (Listens v w n u) None = Unit {0}
Agree (Listens v w n u) (Some t) = ⊥
Agree (Ended v) None = Unit {0}
Agree (Ended v) (Some t) = ⊥
Agree Failed None = Unit {0}
Agree Failed (Some t) = ⊥

pub record Sound (f : Flow) : Type 0 where
  pub vars : length f.vars ≡ 64
  pub into : f.place.into < 64
  pub phase : PhaseOk f.place.phase
  pub task : Agree f.place.phase f.task

abbrev pub DecodesEncoded : Type 0
DecodesEncoded = (f : Flow) → Sound f → decode_of (encode_of f) ≡ Ok f

-- and whatever is read is such a flow
abbrev pub DecodesSound : Type 0
DecodesSound = (ws : List ℕ) (f : Flow) → length ws ≡ 128 → decode_of ws ≡ Ok f → Sound f

abbrev pub EncodesPage : Type 0
EncodesPage = (f : Flow) → Sound f → length (encode_of f) ≡ 128

-- words of 64 bits
abbrev pub Small : List ℕ → Type 0
Small [] = Unit {0}
Small (w ∷ ws) = (w < 18446744073709551616) × Small ws

abbrev pub PhaseFits : Phase → Type 0
PhaseFits Busy = Unit {0}
PhaseFits (Tasked s) = s < 18446744073709551616
PhaseFits (Asleep u) = u < 18446744073709551616
PhaseFits (Listens v w n u) = (v < 18446744073709551616) × (w < 18446744073709551616) × (n < 18446744073709551616) × (u < 18446744073709551616)
PhaseFits (Ended v) = v < 18446744073709551616
PhaseFits Failed = Unit {0}

abbrev pub StandingFits : Standing → Type 0
StandingFits (Due a) = a < 18446744073709551616
StandingFits (Out u) = u < 18446744073709551616

pub record TaskFits (t : Task) : Type 0 where
  pub kind : t.kind < 18446744073709551616
  pub args : Small t.args
  pub count : t.count < 18446744073709551616
  pub attempt : t.attempt < 18446744073709551616
  pub tries : t.tries < 18446744073709551616
  pub pause : t.pause < 18446744073709551616
  pub standing : StandingFits t.standing

abbrev pub FitsTask : Option Task → Type 0
FitsTask None = Unit {0}
FitsTask (Some t) = TaskFits t

-- each number of a flow is one of 64 bits
pub record Fits (f : Flow) : Type 0 where
  pub phase : PhaseFits f.place.phase
  pub here : f.place.here < 18446744073709551616
  pub steps : f.place.steps < 18446744073709551616
  pub into : f.place.into < 18446744073709551616
  pub vars : Small f.vars
  pub task : FitsTask f.task

abbrev pub EncodesSmall : Type 0
EncodesSmall = (f : Flow) → Fits f → Small (encode_of f)

-- what is promised of the words of a page
pub record Pages : Type 0 where
  pub decodes : DecodesEncoded
  pub sound : DecodesSound
  pub long : EncodesPage
  pub small : EncodesSmall
