-- The house is the sum of its flows: what a call does to each flow, it does by that flow and its task alone.
use Rattle.std.specs.Prelude.{◌≡◌, ℕ, ◌+◌, ◌%◌, ◌<◌, Bool, true, false, cond, not, ◌&&◌, ◌||◌, List, [], ◌∷◌, map, length, ◌==◌, nat_le, nat_lt}
use mathlib.Core.List.{Memᴰ}
use Rattle.plans.specs.Plan.{Name, Phase, Busy, Tasked, Asleep, Listens, Ended, Failed, Word, Flow, top, same_name, ends, heard, name_ok, word_ok, Block, Rest, size_of}
use Rattle.flows.specs.House.{Out, Task, House, keep, find, change, is_key, is_task, boxed, stands_as, is_over, listens_for, the_same, later, small, wanted, first, Call, Start, Tell, Cancel, Take, Longer, Report, Show, Forget, Tick, is_tick, does, given, sooner, Flow'}
use Rattle.flows.specs.One.{of, One, look, moved_one, with_task, wrong_one, works_one, ticked_one}
use Rattle.flows.specs.Fine.{Good}

abbrev pub boxed_one : Word → One → One
boxed_one w o = record { flow = map (boxed w) o.flow; task = o.task }

unfoldable pub told_one : ℕ → Phase → Word → Flow → One → One
told_one now Busy w x o = boxed_one w o
told_one now (Tasked s) w x o = boxed_one w o
told_one now (Asleep u) w x o = boxed_one w o
told_one now (Listens v c n u) w x o = cond (same_name n w.name) (moved_one now (heard v c w.value 1 x.box x.frames x) o) (boxed_one w o)
told_one now (Ended v) w x o = o
told_one now Failed w x o = o

unfoldable pub tells_one : ℕ → Word → List Flow → One → One
tells_one now w [] o = o
tells_one now w (x ∷ xs) o = cond (is_over x.phase) o (cond (nat_le 64 (length x.box) && not (listens_for w x.phase)) o (told_one now x.phase w x o))

unfoldable pub cancels_one : List Flow → One → One
cancels_one [] o = o
cancels_one (x ∷ xs) o = cond (is_over x.phase) o (record { flow = map (ends Failed) o.flow; task = [] })

unfoldable pub forgets_one : List Flow → One → One
forgets_one [] o = o
forgets_one (x ∷ xs) o = cond (is_over x.phase) (record { flow = []; task = o.task }) o

abbrev pub stands_one : ℕ → Task → One → One
stands_one u t o = with_task (change (is_task t.flow t.step) (stands_as (Out u)) o.task) o

unfoldable pub takes_one : ℕ → List Task → One → One
takes_one u [] o = o
takes_one u (t ∷ ts) o = stands_one u t o

unfoldable pub longer_one : ℕ → ℕ → List Task → One → One
longer_one a u [] o = o
longer_one a u (t ∷ ts) o = cond (the_same a t) (stands_one u t o) o

unfoldable pub reports_one : ℕ → ℕ → Bool → ℕ → List Task → One → One
reports_one now a well v [] o = o
reports_one now a well v (t ∷ ts) o = cond (the_same a t) (cond well (works_one now (v % top) o.flow (with_task (keep (λ (u : Task). not (is_task t.flow t.step u)) o.task) o)) (wrong_one now t o)) o

-- what a call does to a flow that is there. taken: the task that a taker gets, which is chosen among all
unfoldable pub acts_one : ℕ → List Task → Call → One → One
acts_one now taken (Start n b xs) o = o
acts_one now taken (Tell n w v) o = cond (not (name_ok n) || not (word_ok w)) o (tells_one now (record { name = w; value = v % top }) (find (is_key n) o.flow) o)
acts_one now taken (Cancel n) o = cond (not (name_ok n)) o (cancels_one (find (is_key n) o.flow) o)
acts_one now taken (Take ks ms) o = cond (nat_lt 64 (length ks) || nat_lt 86400000 ms) o (takes_one (now + ms) taken o)
acts_one now taken (Longer f s a ms) o = cond (nat_lt 86400000 ms) o (longer_one a (now + ms) (find (is_task f s) o.task) o)
acts_one now taken (Report f s a w v) o = reports_one now a w v (find (is_task f s) o.task) o
acts_one now taken (Show n) o = o
acts_one now taken (Forget n) o = cond (not (name_ok n)) o (forgets_one (find (is_key n) o.flow) o)
acts_one now taken (Tick t) o = cond (small t && nat_lt 0 t) (ticked_one (later t now) o) o

-- the task that a taker gets, if it is one of flow j
unfoldable pub taken_of : ℕ → Call → House → List Task
taken_of j (Start n b xs) h = []
taken_of j (Tell n w v) h = []
taken_of j (Cancel n) h = []
taken_of j (Take ks ms) h = keep (of j) (first (keep (wanted h.now ks) h.tasks))
taken_of j (Longer f s a ms) h = []
taken_of j (Report f s a w v) h = []
taken_of j (Show n) h = []
taken_of j (Forget n) h = []
taken_of j (Tick t) h = []

abbrev pub does_one : ℕ → List Task → Call → One → One
does_one now taken c o = cond (now == 0 && not (is_tick c)) o (acts_one now taken c o)

-- whatever is called, each flow that has a number goes on by itself
abbrev pub SumOfFlows : Type 0
SumOfFlows = (h : House) (c : Call) (j : ℕ) → Good h → j < h.next → look j (does c h).house ≡ does_one h.now (taken_of j c h) c (look j h)

-- a new flow is alone with itself too
abbrev pub new_flow : ℕ → Name → Block → List ℕ → Flow
new_flow i n b vs = record { id = i; key = n; phase = Busy; frames = Rest b ∷ []; vars = given 0 vs; steps = 0; into = 0; box = []; size = size_of b }

abbrev pub BornAlone : Type 0
BornAlone =
    (h : House) (n : Name) (b : Block) (vs : List ℕ) → Good h → (does (Start n b vs) h).reply ≡ Flow' h.next →
    look h.next (does (Start n b vs) h).house ≡ moved_one h.now (new_flow h.next n b vs) (record { flow = new_flow h.next n b vs ∷ []; task = [] })

-- in whatever order the tasks stand: a taker gets the one that is wanted and than which none that is wanted is sooner
abbrev pub TakesLeast : Type 0
TakesLeast =
    (h : House) (ks : List ℕ) → Good h → (t : Task) → Memᴰ t h.tasks → wanted h.now ks t ≡ true →
    ((u : Task) → Memᴰ u h.tasks → wanted h.now ks u ≡ true → sooner u t ≡ false) → first (keep (wanted h.now ks) h.tasks) ≡ t ∷ []
