-- The house: flows, tasks that workers take, words that come, time.
-- Assumes nothing.
use Rattle.std.specs.Prelude.{ℕ, zero, suc, ◌+◌, ◌*◌, ◌%◌, Bool, true, false, cond, not, ◌&&◌, ◌||◌, ltb, List, [], ◌∷◌, ◌++◌, length, ◌==◌, nat_eq, nat_le, nat_lt}
use Rattle.plans.specs.Plan.{Name, Block, Rest, Phase, Busy, Tasked, Asleep, Listens, Ended, Failed, Word, Flow, Wish, Moved, top, at, same_name, goes_on, ends, still, broken, heard, moves, every, name_ok, word_ok, size_of, block_ok, plain}

pub data Standing : Type 0 where
  Due : (at : ℕ) → Standing
  Out : (until : ℕ) → Standing

-- of which flow, which of its steps; attempt: which try it is, from 1
pub record Task : Type 0 where
  pub flow : ℕ
  pub step : ℕ
  pub kind : ℕ
  pub args : List ℕ
  pub attempt : ℕ
  pub tries : ℕ
  pub pause : ℕ
  pub standing : Standing

pub record House : Type 0 where
  pub now : ℕ
  pub next : ℕ
  pub flows : List Flow
  pub tasks : List Task

abbrev pub blank : House
blank = record { now = 0; next = 1; flows = []; tasks = [] }

unfoldable pub some : {A : Type 0} → (A → Bool) → List A → Bool
some f [] = false
some f (x ∷ xs) = f x || some f xs

unfoldable pub keep : {A : Type 0} → (A → Bool) → List A → List A
keep f [] = []
keep f (x ∷ xs) = cond (f x) (x ∷ keep f xs) (keep f xs)

unfoldable pub find : {A : Type 0} → (A → Bool) → List A → List A
find f [] = []
find f (x ∷ xs) = cond (f x) (x ∷ []) (find f xs)

unfoldable pub change : {A : Type 0} → (A → Bool) → (A → A) → List A → List A
change f g [] = []
change f g (x ∷ xs) = cond (f x) (g x ∷ xs) (x ∷ change f g xs)

pub data Call : Type 0 where
  -- the same key again is the same flow
  Start : (key : Name) → Block → List ℕ → Call
  Tell : (key word : Name) → ℕ → Call
  Cancel : (key : Name) → Call
  -- a worker of some kinds asks for a task, for so many ms
  Take : (kinds : List ℕ) → (ms : ℕ) → Call
  Longer : (flow step attempt ms : ℕ) → Call
  Report : (flow step attempt : ℕ) → (well : Bool) → (value : ℕ) → Call
  Show : (key : Name) → Call
  -- one that is over may be forgotten
  Forget : (key : Name) → Call
  Tick : (ms : ℕ) → Call

pub data Reply : Type 0 where
  No : ℕ → Reply
  Yes : Reply
  Flow' : ℕ → Reply
  Job : (flow step attempt kind : ℕ) → List ℕ → Reply
  Nothing : Reply
  State : Phase → Reply
  Full' : Reply

pub record Out' : Type 0 where
  pub reply : Reply
  pub house : House

abbrev pub no : ℕ → House → Out'
no k h = record { reply = No k; house = h }

abbrev pub says : Reply → House → Out'
says r h = record { reply = r; house = h }

abbrev pub is_key : Name → Flow → Bool
is_key n x = same_name n x.key

abbrev pub is_flow : ℕ → Flow → Bool
is_flow i x = i == x.id

abbrev pub is_task : ℕ → ℕ → Task → Bool
is_task i s t = i == t.flow && s == t.step

abbrev pub with_flows : List Flow → House → House
with_flows fs h = record { now = h.now; next = h.next; flows = fs; tasks = h.tasks }

abbrev pub with_tasks : List Task → House → House
with_tasks ts h = record { now = h.now; next = h.next; flows = h.flows; tasks = ts }

-- a flow does up to 1,000 steps by itself at an event; what it wishes for becomes a task that is due
unfoldable pub wished : ℕ → ℕ → ℕ → List Wish → List Task
wished now i s [] = []
wished now i s (w ∷ ws) = record { flow = i; step = s; kind = w.kind; args = w.args; attempt = 1; tries = w.tries; pause = w.pause; standing = Due now } ∷ wished now i s ws

unfoldable pub step_of : Phase → ℕ
step_of Busy = 0
step_of (Tasked s) = s
step_of (Asleep u) = 0
step_of (Listens v w n u) = 0
step_of (Ended v) = 0
step_of Failed = 0

abbrev pub moved : Flow → House → House
moved x h = settled (moves 1000 h.now (still x))
  where
    settled : Moved → House
    settled m = record { now = h.now; next = h.next; flows = change (is_flow x.id) (λ (y : Flow). m.flow) h.flows; tasks = h.tasks ++ wished h.now x.id (step_of m.flow.phase) m.wish }

unfoldable pub given : ℕ → List ℕ → ℕ → ℕ
given k [] v = 0
given k (x ∷ xs) v = cond (v == k) x (given (suc k) xs v)

unfoldable pub starts : Name → Block → List ℕ → List Flow → House → Out'
starts n b xs (y ∷ ys) h = says (Flow' y.id) h
starts n b xs [] h =
    cond (nat_le 1024 (length h.flows) || nat_le 4611686018427387904 h.next) (no 8 h)
    (says (Flow' h.next) (moved (record { id = h.next; key = n; phase = Busy; frames = Rest b ∷ []; vars = given 0 xs; steps = 0; into = 0; box = []; size = size_of b })
    (record { now = h.now; next = h.next + 1; flows = h.flows ++ (record { id = h.next; key = n; phase = Busy; frames = Rest b ∷ []; vars = given 0 xs; steps = 0; into = 0; box = []; size = size_of b } ∷ []); tasks = h.tasks })))

unfoldable pub is_over : Phase → Bool
is_over Busy = false
is_over (Tasked s) = false
is_over (Asleep u) = false
is_over (Listens v w n u) = false
is_over (Ended v) = true
is_over Failed = true

abbrev pub boxed : Word → Flow → Flow
boxed w x = record { id = x.id; key = x.key; phase = x.phase; frames = x.frames; vars = x.vars; steps = x.steps; into = x.into; box = x.box ++ (w ∷ []); size = x.size }

-- a word goes to who listens for it, else into the flow's box
unfoldable pub told_to : Phase → Word → Flow → House → House
told_to Busy w x h = with_flows (change (is_flow x.id) (boxed w) h.flows) h
told_to (Tasked s) w x h = with_flows (change (is_flow x.id) (boxed w) h.flows) h
told_to (Asleep u) w x h = with_flows (change (is_flow x.id) (boxed w) h.flows) h
told_to (Listens v c n u) w x h = cond (same_name n w.name) (moved (heard v c w.value 1 x.box x.frames x) h) (with_flows (change (is_flow x.id) (boxed w) h.flows) h)
told_to (Ended v) w x h = h
told_to Failed w x h = h

unfoldable pub listens_for : Word → Phase → Bool
listens_for w Busy = false
listens_for w (Tasked s) = false
listens_for w (Asleep u) = false
listens_for w (Listens v c n u) = same_name n w.name
listens_for w (Ended v) = false
listens_for w Failed = false

unfoldable pub tells : Word → List Flow → House → Out'
tells w [] h = no 2 h
tells w (x ∷ xs) h = cond (is_over x.phase) (no 3 h) (cond (nat_le 64 (length x.box) && not (listens_for w x.phase)) (no 8 h) (says Yes (told_to x.phase w x h)))

unfoldable pub cancels : List Flow → House → Out'
cancels [] h = no 2 h
cancels (x ∷ xs) h = cond (is_over x.phase) (no 3 h) (says Yes (record { now = h.now; next = h.next; flows = change (is_flow x.id) (ends Failed) h.flows; tasks = keep (λ (t : Task). not (x.id == t.flow)) h.tasks }))

-- tasks that are due, by time, then flow

unfoldable pub is_due : ℕ → Standing → Bool
is_due now (Due a) = nat_le a now
is_due now (Out u) = false

unfoldable pub due_at : Standing → ℕ
due_at (Due a) = a
due_at (Out u) = 0

abbrev pub wanted : ℕ → List ℕ → Task → Bool
wanted now ks t = is_due now t.standing && some (nat_eq t.kind) ks

abbrev pub sooner : Task → Task → Bool
sooner a b = nat_lt (due_at a.standing) (due_at b.standing) || (due_at a.standing == due_at b.standing && nat_lt a.flow b.flow)

unfoldable pub first : List Task → List Task
first [] = []
first (t ∷ ts) = of (first ts)
  where
    of : List Task → List Task
    of [] = t ∷ []
    of (u ∷ us) = cond (sooner u t) (u ∷ []) (t ∷ [])

abbrev pub stands_as : Standing → Task → Task
stands_as s t = record { flow = t.flow; step = t.step; kind = t.kind; args = t.args; attempt = t.attempt; tries = t.tries; pause = t.pause; standing = s }

unfoldable pub hands_out : ℕ → List Task → House → Out'
hands_out ms [] h = says Nothing h
hands_out ms (t ∷ ts) h = says (Job t.flow t.step t.attempt t.kind t.args) (with_tasks (change (is_task t.flow t.step) (stands_as (Out (h.now + ms))) h.tasks) h)

unfoldable pub is_out : Standing → Bool
is_out (Due a) = false
is_out (Out u) = true

abbrev pub the_same : ℕ → Task → Bool
the_same a t = a == t.attempt && is_out t.standing

unfoldable pub longer : ℕ → ℕ → List Task → House → Out'
longer a ms [] h = no 2 h
longer a ms (t ∷ ts) h = cond (the_same a t) (says Yes (with_tasks (change (is_task t.flow t.step) (stands_as (Out (h.now + ms))) h.tasks) h)) (no 5 h)

-- a try that went wrong, or of which nothing was heard: the next, after a pause, or the flow has a failure
unfoldable pub doubled : ℕ → ℕ → ℕ
doubled zero p = p
doubled (suc n) p = 2 * doubled n p

unfoldable pub less1 : ℕ → ℕ
less1 zero = 0
less1 (suc n) = n

abbrev pub again : ℕ → Task → Task
again now t = record { flow = t.flow; step = t.step; kind = t.kind; args = t.args; attempt = t.attempt + 1; tries = t.tries; pause = t.pause; standing = Due (now + doubled (less1 t.attempt) t.pause) }

unfoldable pub fails : List Flow → House → House
fails [] h = h
fails (x ∷ xs) h = moved (broken x.frames x) h

abbrev pub went_wrong : Task → House → House
went_wrong t h =
    cond (nat_lt t.attempt t.tries) (with_tasks (change (is_task t.flow t.step) (again h.now) h.tasks) h)
    (fails (find (is_flow t.flow) h.flows) (with_tasks (keep (λ (u : Task). not (is_task t.flow t.step u)) h.tasks) h))

unfoldable pub works : ℕ → List Flow → House → House
works v [] h = h
works v (x ∷ xs) h = moved (goes_on x.frames (at x.into v x.vars) x) h

unfoldable pub reports : ℕ → Bool → ℕ → List Task → House → Out'
reports a well v [] h = no 2 h
reports a well v (t ∷ ts) h =
    cond (the_same a t)
    (says Yes (cond well (works (v % top) (find (is_flow t.flow) h.flows) (with_tasks (keep (λ (u : Task). not (is_task t.flow t.step u)) h.tasks) h)) (went_wrong t h)))
    (no 5 h)

unfoldable pub forgets : List Flow → House → Out'
forgets [] h = no 2 h
forgets (x ∷ xs) h = cond (is_over x.phase) (says Yes (with_flows (keep (λ (y : Flow). not (is_flow x.id y)) h.flows) h)) (no 3 h)

unfoldable pub shows : List Flow → House → Out'
shows [] h = no 2 h
shows (x ∷ xs) h = says (State x.phase) h

-- TIME: tries that are out for too long; sleepers; listeners; flows that have more to do by themselves

unfoldable pub is_late : ℕ → Standing → Bool
is_late now (Due a) = false
is_late now (Out u) = nat_lt u now

unfoldable pub all_late : List Task → House → House
all_late [] h = h
all_late (t ∷ ts) h = all_late ts (cond (is_late h.now t.standing) (went_wrong t h) h)

unfoldable pub woken : Phase → Flow → House → House
woken Busy x h = moved x h
woken (Tasked s) x h = h
woken (Asleep u) x h = cond (nat_le u h.now) (moved (goes_on x.frames x.vars x) h) h
woken (Listens v w n u) x h = cond (nat_le u h.now) (moved (heard v w 0 0 x.box x.frames x) h) h
woken (Ended v) x h = h
woken Failed x h = h

unfoldable pub all_woken : List Flow → House → House
all_woken [] h = h
all_woken (x ∷ xs) h = all_woken xs (woken x.phase x h)

abbrev pub later : ℕ → ℕ → ℕ
later t now = cond (nat_lt now t) t now

abbrev pub timed : ℕ → House → House
timed t h = record { now = later t h.now; next = h.next; flows = h.flows; tasks = h.tasks }

abbrev pub ticks : House → House
ticks h = wake (all_late h.tasks h)
  where
    wake : House → House
    wake g = all_woken g.flows g

abbrev pub small : ℕ → Bool
small n = nat_lt n 4611686018427387904

unfoldable pub is_tick : Call → Bool
is_tick (Start n b xs) = false
is_tick (Tell n w v) = false
is_tick (Cancel n) = false
is_tick (Take ks ms) = false
is_tick (Longer f s a ms) = false
is_tick (Report f s a w v) = false
is_tick (Show n) = false
is_tick (Forget n) = false
is_tick (Tick t) = true

unfoldable pub acts : Call → House → Out'
acts (Start n b xs) h = cond (not (name_ok n) || not (block_ok b) || nat_lt 4096 (size_of b) || nat_lt 16 (length xs) || not (every (λ (x : ℕ). ltb x top) xs)) (no 1 h) (starts n b xs (find (is_key n) h.flows) h)
acts (Tell n w v) h = cond (not (name_ok n) || not (word_ok w)) (no 1 h) (tells (record { name = w; value = v % top }) (find (is_key n) h.flows) h)
acts (Cancel n) h = cond (not (name_ok n)) (no 1 h) (cancels (find (is_key n) h.flows) h)
acts (Take ks ms) h = cond (nat_lt 64 (length ks) || nat_lt 86400000 ms) (no 1 h) (hands_out ms (first (keep (wanted h.now ks) h.tasks)) h)
acts (Longer f s a ms) h = cond (nat_lt 86400000 ms) (no 1 h) (longer a ms (find (is_task f s) h.tasks) h)
acts (Report f s a w v) h = reports a w v (find (is_task f s) h.tasks) h
acts (Forget n) h = cond (not (name_ok n)) (no 1 h) (forgets (find (is_key n) h.flows) h)
acts (Show n) h = cond (not (name_ok n)) (no 1 h) (shows (find (is_key n) h.flows) h)
acts (Tick t) h = cond (small t && nat_lt 0 t) (says Yes (ticks (timed t h))) (no 1 h)

-- nothing is done before a time was told
abbrev pub does : Call → House → Out'
does c h = cond (h.now == 0 && not (is_tick c)) (no 10 h) (acts c h)

-- what there is weighs: each flow with its plan, its box, and the one task that it may have
unfoldable pub weight_of : List Flow → ℕ
weight_of [] = 0
weight_of (x ∷ xs) = 16384 + 16 * x.size + weight_of xs

-- what the bytes of a line can carry
abbrev pub bytes_ok : Name → Bool
bytes_ok n = nat_lt (length n) 256 && every (λ (b : ℕ). ltb b 256) n

unfoldable pub carried : Call → Bool
carried (Start n b xs) = bytes_ok n && nat_lt (length xs) 256 && every (λ (x : ℕ). ltb x top) xs
carried (Tell n w v) = bytes_ok n && bytes_ok w && nat_lt v top
carried (Cancel n) = bytes_ok n
carried (Take ks ms) = nat_lt (length ks) 256 && every (λ (k : ℕ). ltb k 4294967296) ks && nat_lt ms 4294967296
carried (Longer f s a ms) = nat_lt f top && nat_lt s top && nat_lt a 65536 && nat_lt ms 4294967296
carried (Report f s a w v) = nat_lt f top && nat_lt s top && nat_lt a 65536 && nat_lt v top
carried (Show n) = bytes_ok n
carried (Forget n) = bytes_ok n
carried (Tick t) = nat_lt t top

-- the calls of the first landings
unfoldable pub core : Call → Bool
core (Start n b xs) = plain b
core (Tell n w v) = false
core (Cancel n) = false
core (Take ks ms) = true
core (Longer f s a ms) = false
core (Report f s a w v) = true
core (Show n) = true
core (Forget n) = true
core (Tick t) = true

-- what is left when power fails: all but the time
abbrev pub down : House → House
down h = record { now = 0; next = h.next; flows = h.flows; tasks = h.tasks }
