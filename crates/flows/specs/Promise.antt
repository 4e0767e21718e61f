-- What is promised of the whole, and of its parts. Each is a type; a proof of the type is the theorem.
-- Assumes nothing.
use Rattle.std.specs.Prelude.{◌≡◌, ℕ, ◌+◌, ◌*◌, ◌<◌, ◌≤◌, Bool, true, false, not, ◌&&◌, T, List, [], ◌∷◌, ◌==◌, ◌≢◌, nat_le, nat_lt}
use mathlib.Core.List.{Memᴰ}
use Rattle.plans.specs.Plan.{Name, Phase, Busy, Tasked, Asleep, Listens, Ended, Failed, Flow, same_name}
use Rattle.flows.specs.House.{Standing, Due, Out, Task, House, blank, Call, Start, Tell, Cancel, Take, Longer, Report, Show, Forget, Tick, Reply, No, Yes, Job, Full', does, down, weight_of, core, carried, is_flow, is_tick}
use Rattle.device.specs.Lines.{Engine, Sense, Sensible, Modest}

-- Full only for a call after which there is more, and only where it doesn't surely fit
pub data Answers (can : Call → Bool) (lines : ℕ) : Call → House → Reply → House → Type 0 where
  says_so : (c : Call) (h : House) → T (can c && carried c) → Answers can lines c h (does c h).reply (does c h).house
  not_yet : (c : Call) (h : House) → (T (can c) → ⊥) → Answers can lines c h (No 12) h
  -- what no line of bytes can carry
  not_carried : (c : Call) (h : House) → T (can c && not (carried c)) → Answers can lines c h (No 1) h
  too_full : (c : Call) (h : House) → T (can c && carried c) → weight_of h.flows < weight_of (does c h).house.flows → 64 * lines < 1048576 + 2 * weight_of (does c h).house.flows → Answers can lines c h Full' h

-- THE MAIN PROMISE. Whatever is called, whatever time is told, wherever power fails, and however much of what was stored had reached the memory by then, with 32,768 lines or more: all that the house lives through makes sense: so every flow
-- goes on as if nothing had ever fallen. can grows from landing to landing, from core of House to all calls; the promise is always this one.
abbrev pub flows : (Call → Bool) → ℕ → Sense Call Reply
flows can lines = record { State = House; start = blank; May = Answers can lines; after = down }

abbrev pub Whole : (Call → Bool) → Engine Call Reply → Type 0
Whole can e = Sensible (flows can) e × Modest e

-- the first landings show this; each later one shows Whole for more
abbrev pub CoreWhole : Engine Call Reply → Type 0
CoreWhole e = Whole core e

-- what can become of a house
pub data Moves : House → House → Type 0 where
  called : (c : Call) (h : House) → Moves h (does c h).house
  fell : (h : House) → Moves h (down h)

pub data Run : House → House → Type 0 where
  still : {h : House} → Run h h
  onward : {h g f : House} → Run h g → Moves g f → Run h f

-- 1. A flow has one task exactly while it waits for one, that of its step.
unfoldable pub is_tasked : ℕ → Phase → Bool
is_tasked s Busy = false
is_tasked s (Tasked n) = s == n
is_tasked s (Asleep u) = false
is_tasked s (Listens v w n u) = false
is_tasked s (Ended v) = false
is_tasked s Failed = false

abbrev pub OneTask : Type 0
OneTask =
    (h : House) → Run blank h → (x : Flow) → Memᴰ x h.flows →
    ((t : Task) → Memᴰ t h.tasks → t.flow ≡ x.id → T (is_tasked t.step x.phase)) ×
    ((s : ℕ) → x.phase ≡ Tasked s → (t : Task) × Memᴰ t h.tasks × (t.flow ≡ x.id) × (t.step ≡ s))

abbrev pub NoLoose : Type 0
NoLoose = (h : House) → Run blank h → (t : Task) → Memᴰ t h.tasks → (x : Flow) × Memᴰ x h.flows × (x.id ≡ t.flow)

-- 2. A try is handed out once, never more tries than allowed; and a step of a flow gets one good result at most.
pub data Handed (h : House) : (flow step attempt : ℕ) → Type 0 where
  out : (ks : List ℕ) (ms f s a k : ℕ) (xs : List ℕ) → (does (Take ks ms) h).reply ≡ Job f s a k xs → Handed h f s a

abbrev pub HandedOnce : Type 0
HandedOnce =
    (h g : House) → Run blank h → (f s a : ℕ) → (ks : List ℕ) (ms k : ℕ) (xs : List ℕ) → (does (Take ks ms) h).reply ≡ Job f s a k xs → Run (does (Take ks ms) h).house g → Handed g f s a → ⊥

abbrev pub TriesBounded : Type 0
TriesBounded = (h : House) → Run blank h → (t : Task) → Memᴰ t h.tasks → (1 ≤ t.attempt) × (t.attempt ≤ t.tries)

abbrev pub ResultOnce : Type 0
ResultOnce =
    (h g : House) → Run blank h → (f s a b v w : ℕ) → (does (Report f s a true v) h).reply ≡ Yes → Run (does (Report f s a true v) h).house g → (does (Report f s b true w) g).reply ≢ Yes

-- 3. Nothing sleeps on: after a telling of the time nobody sleeps or listens whose time has come, and no try is out whose time is over.
unfoldable pub sleeps_on : ℕ → Phase → Bool
sleeps_on now Busy = false
sleeps_on now (Tasked s) = false
sleeps_on now (Asleep u) = nat_le u now
sleeps_on now (Listens v w n u) = nat_le u now
sleeps_on now (Ended v) = false
sleeps_on now Failed = false

unfoldable pub late_on : ℕ → Standing → Bool
late_on now (Due a) = false
late_on now (Out u) = nat_lt u now

abbrev pub NobodySleepsOn : Type 0
NobodySleepsOn =
    (h : House) (t : ℕ) → Run blank h → (does (Tick t) h).reply ≡ Yes →
    ((x : Flow) → Memᴰ x h.flows → T (sleeps_on (does (Tick t) h).house.now x.phase) → (y : Flow) → Memᴰ y (does (Tick t) h).house.flows → y.id ≡ x.id → y.phase ≡ x.phase → x.steps ≢ y.steps) ×
    ((u : Task) → Memᴰ u (does (Tick t) h).house.tasks → T (late_on (does (Tick t) h).house.now u.standing) → ⊥)

-- 4. What is called of one flow changes no other; only time moves all.
unfoldable pub key_in : Call → List Name
key_in (Start n b xs) = n ∷ []
key_in (Tell n w v) = n ∷ []
key_in (Cancel n) = n ∷ []
key_in (Take ks ms) = []
key_in (Longer f s a ms) = []
key_in (Report f s a w v) = []
key_in (Show n) = n ∷ []
key_in (Forget n) = n ∷ []
key_in (Tick t) = []

abbrev pub Apart : Type 0
Apart = (h : House) (c : Call) (n : Name) → Run blank h → T (not (is_tick c)) → key_in c ≡ n ∷ [] → (x : Flow) → Memᴰ x h.flows → T (not (same_name n x.key)) → Memᴰ x (does c h).house.flows

unfoldable pub flow_in : Call → List ℕ
flow_in (Start n b xs) = []
flow_in (Tell n w v) = []
flow_in (Cancel n) = []
flow_in (Take ks ms) = []
flow_in (Longer f s a ms) = f ∷ []
flow_in (Report f s a w v) = f ∷ []
flow_in (Show n) = []
flow_in (Forget n) = []
flow_in (Tick t) = []

abbrev pub ApartByNumber : Type 0
ApartByNumber = (h : House) (c : Call) (f : ℕ) → Run blank h → flow_in c ≡ f ∷ [] →
    ((x : Flow) → Memᴰ x h.flows → T (not (is_flow f x)) → Memᴰ x (does c h).house.flows) × ((t : Task) → Memᴰ t h.tasks → T (not (f == t.flow)) → Memᴰ t (does c h).house.tasks)

abbrev pub TakeChangesNoFlow : Type 0
TakeChangesNoFlow = (h : House) (ks : List ℕ) (ms : ℕ) → (does (Take ks ms) h).house.flows ≡ h.flows
