-- A flow with its task as the words of a page. Assumes nothing.
use Rattle.std.specs.Prelude.{ℕ, Bool, true, false, cond, ◌&&◌, List, [], ◌∷◌, ◌++◌, take, drop, replicate, Some, None, Ok, Err, Option, Result, ◌==◌, nat_le, nat_lt, slice_index}
use Rattle.plans.specs.declared.eval.Damaged.{Damaged}
use Rattle.runs.specs.declared.step.Phase.{Phase}
use Rattle.runs.specs.declared.step.Phase.TheVariants.{Busy, Tasked, Asleep, Listens, Ended, Failed}
use Rattle.runs.specs.Steps.{fill}
use Rattle.pages.specs.declared.flow.Standing.{Standing}
use Rattle.pages.specs.declared.flow.Standing.TheVariants.{Due, Out}
use Rattle.pages.specs.declared.flow.Task.{Task}
use Rattle.pages.specs.declared.flow.Flow.{Flow}
use Rattle.pages.specs.Layout.{phase_at, here_at, steps_at, into_at, standing_at, since_at, kind_at, count_at, attempt_at, tries_at, pause_at, args_at, vars_at}

abbrev pub damaged : {A : Type 0} → Result A Damaged
damaged = Err (record {})

-- what is tested of a task
abbrev pub fair : Task → Bool
fair t = nat_le t.count 16 && (nat_le 1 t.attempt && (nat_le t.attempt t.tries && (nat_le t.tries 32 && (nat_le t.pause 86400000 && nat_lt t.kind 4294967296))))

-- a task exactly where the phase is that of one
abbrev pub agree : Phase → Option Task → Bool
agree Busy None = true
agree Busy (Some t) = false
agree (Tasked s) None = false
agree (Tasked s) (Some t) = true
agree (Asleep u) None = true
agree (Asleep u) (Some t) = false
agree (Listens v w n u) None = true
agree (Listens v w n u) (Some t) = false
agree (Ended v) None = true
agree (Ended v) (Some t) = false
agree Failed None = true
agree Failed (Some t) = false

-- reading ------------------------------------------------------------------------

-- the variables of a hearing are two of the 64
abbrev pub phase_of : (tag a b c d : ℕ) → Result Phase Damaged
phase_of tag a b c d =
    cond (tag == 0) (Ok Busy) (cond (tag == 1) (Ok (Tasked a)) (cond (tag == 2) (Ok (Asleep a)) (cond (tag == 3) (cond (nat_lt a 64 && nat_lt b 64) (Ok (Listens a b c d)) damaged) (cond (tag == 4) (Ok (Ended a)) (cond (tag == 5) (Ok Failed) damaged)))))

abbrev pub phase_in : List ℕ → Result Phase Damaged
phase_in ws = phase_of (slice_index ws phase_at) (slice_index ws 1) (slice_index ws 2) (slice_index ws 3) (slice_index ws 4)

abbrev pub as_task : List ℕ → Standing → Task
as_task ws s = record { kind = slice_index ws kind_at; args = fill (take (slice_index ws count_at) (take 16 (drop args_at ws))); count = slice_index ws count_at; attempt = slice_index ws attempt_at; tries = slice_index ws tries_at; pause = slice_index ws pause_at; standing = s }

unfoldable pub task_as : List ℕ → Standing → Result (Option Task) Damaged
task_as ws s = cond (fair (as_task ws s)) (Ok (Some (as_task ws s))) damaged

abbrev pub task_in : List ℕ → Result (Option Task) Damaged
task_in ws = cond (slice_index ws standing_at == 0) (Ok None) (cond (slice_index ws standing_at == 1) (task_as ws (Due (slice_index ws since_at))) (cond (slice_index ws standing_at == 2) (task_as ws (Out (slice_index ws since_at))) damaged))

abbrev pub flow_of : List ℕ → Phase → Option Task → Flow
flow_of ws p t = record { place = record { phase = p; here = slice_index ws here_at; steps = slice_index ws steps_at; into = slice_index ws into_at }; vars = take 64 (drop vars_at ws); task = t }

unfoldable pub with_task : List ℕ → Phase → Result (Option Task) Damaged → Result Flow Damaged
with_task ws p (Err d) = Err d
with_task ws p (Ok t) = cond (nat_lt (slice_index ws into_at) 64 && agree p t) (Ok (flow_of ws p t)) damaged

unfoldable pub with_phase : List ℕ → Result Phase Damaged → Result Flow Damaged
with_phase ws (Err d) = Err d
with_phase ws (Ok p) = with_task ws p (task_in ws)

-- the flow that the words say
unfoldable pub decode_of : List ℕ → Result Flow Damaged
decode_of ws = with_phase ws (phase_in ws)

-- writing ------------------------------------------------------------------------

abbrev pub zeros : ℕ → List ℕ
zeros n = replicate n 0

abbrev pub place_words : Phase → (here steps into : ℕ) → List ℕ
place_words Busy h s i = 0 ∷ 0 ∷ 0 ∷ 0 ∷ 0 ∷ h ∷ s ∷ i ∷ []
place_words (Tasked k) h s i = 1 ∷ k ∷ 0 ∷ 0 ∷ 0 ∷ h ∷ s ∷ i ∷ []
place_words (Asleep u) h s i = 2 ∷ u ∷ 0 ∷ 0 ∷ 0 ∷ h ∷ s ∷ i ∷ []
place_words (Listens v w n u) h s i = 3 ∷ v ∷ w ∷ n ∷ u ∷ h ∷ s ∷ i ∷ []
place_words (Ended v) h s i = 4 ∷ v ∷ 0 ∷ 0 ∷ 0 ∷ h ∷ s ∷ i ∷ []
place_words Failed h s i = 5 ∷ 0 ∷ 0 ∷ 0 ∷ 0 ∷ h ∷ s ∷ i ∷ []

abbrev pub tag_of : Standing → ℕ
tag_of (Due a) = 1
tag_of (Out u) = 2

abbrev pub since_of : Standing → ℕ
since_of (Due a) = a
since_of (Out u) = u

unfoldable pub task_words : Option Task → List ℕ
task_words None = zeros 24
task_words (Some t) = tag_of t.standing ∷ since_of t.standing ∷ t.kind ∷ t.count ∷ t.attempt ∷ t.tries ∷ t.pause ∷ 0 ∷ t.args

-- the words that say the flow
unfoldable pub encode_of : Flow → List ℕ
encode_of f = place_words f.place.phase f.place.here f.place.steps f.place.into ++ (task_words f.task ++ (f.vars ++ zeros 32))
