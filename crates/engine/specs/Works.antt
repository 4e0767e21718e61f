-- The work of each call. Assumes nothing.
use Rattle.std.specs.Prelude.{ℕ, ◌+◌, ◌-◌, ◌*◌, ◌%◌, Bool, true, false, cond, not, ◌&&◌, ◌||◌, List, [], length, take, Some, None, Ok, Err, Option, Result, ◌==◌, nat_le, nat_lt}
use Rattle.plans.specs.declared.eval.Damaged.{Damaged}
use Rattle.plans.specs.Plan.{Name, size_of, name_ok}
use Rattle.plans.specs.Flat.{laid}
use Rattle.runs.specs.Carried.{phase_in, listening}
use Rattle.flows.specs.House.{Call, Start, Tell, Cancel, Take, Longer, Report, Show, Forget, Tick, is_tick, carried, Reply, No, Yes, Flow', Job, Nothing, State, Full', later, small}
use Rattle.flows.specs.Seats.{bad_start}
use Rattle.pages.specs.declared.flow.Flow.{Flow}
use Rattle.pages.specs.declared.flow.Task.{Task}
use Rattle.pages.specs.declared.flow.Untried.TheVariants as untried
use Rattle.pages.specs.Page.{damaged, decode_of, encode_of}
use Rattle.pages.specs.Events.{begun, worked_on, wrong_on, ticked_on, stirring, handed_out, wanted_task, due_task, step_in, Tried, tried_task, over_in, cancelled_of}
use Rattle.device.specs.Lines.{Work, yields, Engine}
use Rattle.device.specs.Does.{bind, loop_from}
use Rattle.store.specs.Layout.{next_of, used_of, pick_of, turn_at, id_at, blocks_for, Mind, flipped_to, at_time}
use Rattle.store.specs.Works.{rise_work, load_page, load_plan, save_page, save_entry, save_plan, flip_to}
use Rattle.store.specs.Finds.{first_slot, by_id, by_key, is_free, weight_over}
use Rattle.store.specs.Room.{marked, chosen, looked_at}
use Rattle.store.specs.Entry.{entry_of, put_entry, bumped}
use Rattle.engine.specs.declared.take.Best.{Best}

-- how many values an expression may have on its stack
abbrev pub room : ℕ
room = 4096

abbrev pub Answer : Type 0
Answer = record { reply : Reply; mind : Mind }

abbrev pub said : Reply → Mind → Work Answer
said r x = yields (record { reply = r; mind = x })

-- words of no house: an answer that has no number among the others, and is never given of memory that keeps its promises
abbrev pub lost : Mind → Work Answer
lost x = said (No 0) x

unfoldable pub by_slot : {A : Type 0} → Option ℕ → A → (ℕ → A) → A
by_slot None a f = a
by_slot (Some i) a f = f i

unfoldable pub by_flow : {A : Type 0} → Result Flow Damaged → A → (Flow → A) → A
by_flow (Err e) a f = a
by_flow (Ok x) a f = f x

unfoldable pub by_tried : {A : Type 0} → Tried → A → A → A → A
by_tried (Err untried.NoTask) a b c = a
by_tried (Err untried.NotOut) a b c = b
by_tried (Ok z) a b c = c

unfoldable pub by_task : {A : Type 0} → Option Task → A → (Task → A) → A
by_task None a f = a
by_task (Some u) a f = f u

unfoldable pub by_best : {A : Type 0} → Option Best → A → (Best → A) → A
by_best None a f = a
by_best (Some b) a f = f b

unfoldable pub by_blocks : {A : Type 0} → Option (List ℕ) → A → (List ℕ → A) → A
by_blocks None a f = a
by_blocks (Some bs) a f = f bs

-- a slot's flow, or that its page is of none
unfoldable pub open_work : Mind → (slot : ℕ) → Work (Result Flow Damaged)
open_work x i = bind (load_page x.lines x.page x.dir i) (λ ws. yields (decode_of ws))

-- a slot's flow as it is now, and then it counts
unfoldable pub shut_work : Mind → (slot : ℕ) → Flow → Work (Unit {0})
shut_work x i f = bind (save_page x.lines x.dir i (1 - pick_of x.page i) (encode_of f)) (λ z. flip_to x.word (turn_at 17 i x.page))

abbrev pub shut_mind : Mind → (slot : ℕ) → Mind
shut_mind x i = flipped_to x (turn_at 17 i x.page) x.dir

unfoldable pub changes : Mind → (slot : ℕ) → Reply → Flow → Work Answer
changes x i r f = bind (shut_work x i f) (λ z. said r (shut_mind x i))

-- the flow at a slot that was found, and what is done with it
unfoldable pub at_flow : Mind → (ℕ → Flow → Work Answer) → (slot : ℕ) → Work Answer
at_flow x f i = bind (open_work x i) (λ r. by_flow r (lost x) (f i))

unfoldable pub at_slot : Mind → (ℕ → Flow → Work Answer) → Option ℕ → Work Answer
at_slot x f s = by_slot s (said (No 2) x) (at_flow x f)

abbrev pub key_slot : Mind → Name → Option ℕ
key_slot x n = first_slot (by_key x.page x.dir n) 0 1024

abbrev pub id_slot : Mind → ℕ → Option ℕ
id_slot x j = first_slot (by_id x.page x.dir j) 0 1024

-- SHOW: the name that one listens for is in its plan
unfoldable pub show_flow : Mind → (slot : ℕ) → Flow → Work Answer
show_flow x i f = cond (listening f.place.phase) (bind (load_plan x.lines x.dir i) (λ ws. said (State (phase_in ws f.place.phase)) x)) (said (State (phase_in [] f.place.phase)) x)

-- FORGET
unfoldable pub forget_flow : Mind → (slot : ℕ) → Flow → Work Answer
forget_flow x i f = cond (over_in f.place.phase) (bind (flip_to x.word (turn_at 1 i x.page)) (λ z. said Yes (flipped_to x (turn_at 1 i x.page) x.dir))) (said (No 3) x)

-- CANCEL
unfoldable pub cancel_flow : Mind → (slot : ℕ) → Flow → Work Answer
cancel_flow x i f = cond (over_in f.place.phase) (said (No 3) x) (changes x i Yes (cancelled_of f))

-- LONGER, REPORT: of a try that is out
abbrev pub tried_by : (step attempt : ℕ) → Flow → Tried
tried_by s a f = tried_task s a (step_in f.place.phase) f.task

unfoldable pub longer_flow : (step attempt ms : ℕ) → Mind → (slot : ℕ) → Flow → Work Answer
longer_flow s a ms x i f = by_tried (tried_by s a f) (said (No 2) x) (said (No 5) x) (changes x i Yes (handed_out (x.now + ms) f))

unfoldable pub report_plan : (well : Bool) → (value : ℕ) → Mind → (slot : ℕ) → Flow → List ℕ → Work Answer
report_plan well v x i f ws = by_flow (cond well (worked_on room ws x.now v f) (wrong_on room ws x.now f)) (lost x) (changes x i Yes)

unfoldable pub report_flow : (step attempt : ℕ) → (well : Bool) → (value : ℕ) → Mind → (slot : ℕ) → Flow → Work Answer
report_flow s a well v x i f = by_tried (tried_by s a f) (said (No 2) x) (said (No 5) x) (bind (load_plan x.lines x.dir i) (report_plan well v x i f))

-- TAKE: one pass over the slots, then the best is handed out
unfoldable pub better : (slot due flow : ℕ) → Option Best → Option Best
better i d j None = Some (record { slot = i; due = d; flow = j })
better i d j (Some b) = cond (nat_lt d b.due || (d == b.due && nat_lt j b.flow)) (Some (record { slot = i; due = d; flow = j })) (Some b)

unfoldable pub look_flow : List ℕ → Mind → (slot : ℕ) → Option Best → Flow → Option Best
look_flow ks x i b f = cond (wanted_task x.now ks f.task) (better i (due_task f.task) (id_at x.dir i) b) b

-- the best so far, or that a page was of no flow
abbrev pub Looking : Type 0
Looking = Result (Option Best) Damaged

unfoldable pub if_good : Looking → (Option Best → Option Best) → Looking
if_good (Err d) f = Err d
if_good (Ok b) f = Ok (f b)

-- all slots in use are looked at, whatever was found
unfoldable pub look_turn : List ℕ → Mind → (slot : ℕ) → Looking → Work Looking
look_turn ks x i a = cond (used_of x.page i == 1) (bind (open_work x i) (λ r. yields (by_flow r damaged (λ f. if_good a (λ b. look_flow ks x i b f))))) (yields a)

abbrev pub job_of : Mind → (slot : ℕ) → Flow → Task → Reply
job_of x i f u = Job (id_at x.dir i) (step_in f.place.phase) (u.attempt % 65536) (u.kind % 4294967296) (take u.count u.args)

unfoldable pub hand_flow : (ms : ℕ) → Mind → (slot : ℕ) → Flow → Work Answer
hand_flow ms x i f = by_task f.task (lost x) (λ u. changes x i (job_of x i f u) (handed_out (x.now + ms) f))

unfoldable pub take_end : (ms : ℕ) → Mind → Looking → Work Answer
take_end ms x (Err d) = lost x
take_end ms x (Ok a) = by_best a (said Nothing x) (λ b. at_flow x (hand_flow ms x) b.slot)

unfoldable pub take_work : List ℕ → (ms : ℕ) → Mind → Work Answer
take_work ks ms x = bind (loop_from (look_turn ks x) 0 1024 (Ok None)) (take_end ms x)

-- TIME: each flow that stirs goes on, and one flip makes all of it count

-- the root page as it is to be, if some flow has changed, or that a page was of no flow
abbrev pub Changed : Type 0
Changed = Result (Option (List ℕ)) Damaged

abbrev pub root_of : Mind → Option (List ℕ) → List ℕ
root_of x None = x.page
root_of x (Some q) = q

-- the other copy of a slot's page shall count
abbrev pub turned : Mind → (slot : ℕ) → Changed → Changed
turned x i (Err d) = Err d
turned x i (Ok o) = Ok (Some (turn_at 17 i (root_of x o)))

unfoldable pub tick_save : Mind → (slot : ℕ) → Changed → Flow → Work Changed
tick_save x i a f = bind (save_page x.lines x.dir i (1 - pick_of x.page i) (encode_of f)) (λ z. yields (turned x i a))

unfoldable pub tick_plan : (time : ℕ) → Mind → (slot : ℕ) → Changed → Flow → List ℕ → Work Changed
tick_plan t x i a f ws = by_flow (ticked_on room ws t f) (yields damaged) (tick_save x i a)

unfoldable pub tick_flow : (time : ℕ) → Mind → (slot : ℕ) → Changed → Flow → Work Changed
tick_flow t x i a f = cond (stirring t f) (bind (load_plan x.lines x.dir i) (tick_plan t x i a f)) (yields a)

unfoldable pub tick_turn : (time : ℕ) → Mind → (slot : ℕ) → Changed → Work Changed
tick_turn t x i a = cond (used_of x.page i == 1) (bind (open_work x i) (λ r. by_flow r (yields damaged) (tick_flow t x i a))) (yields a)

unfoldable pub tick_end : (time : ℕ) → Mind → Changed → Work Answer
tick_end t x (Err d) = lost x
tick_end t x (Ok None) = said Yes (at_time t x)
tick_end t x (Ok (Some q)) = bind (flip_to x.word q) (λ z. said Yes (at_time t (flipped_to x q x.dir)))

unfoldable pub tick_work : (time : ℕ) → Mind → Work Answer
tick_work t x = bind (loop_from (tick_turn t x) 0 1024 (Ok None)) (tick_end t x)

-- START
unfoldable pub born_work : Mind → (slot : ℕ) → (entry dir root plan : List ℕ) → Flow → Work Answer
born_work x i es d q ws f =
    bind (bind (save_entry i es) (λ z. bind (save_plan x.lines d i ws) (λ y. save_page x.lines d i (pick_of x.page i) (encode_of f))))
    (λ z. bind (flip_to x.word q) (λ y. said (Flow' (next_of x.page)) (flipped_to x q d)))

-- by the key, the plan's size and words, and the words that it is started with
unfoldable pub start_blocks : Name → (size : ℕ) → (plan given : List ℕ) → Mind → (slot : ℕ) → (blocks : List ℕ) → Work Answer
start_blocks n size ws xs x i bs =
    by_flow (begun room ws xs x.now) (lost x)
    (born_work x i (entry_of (next_of x.page) size n bs) (put_entry i (entry_of (next_of x.page) size n bs) x.dir) (bumped (turn_at 1 i x.page)) ws)

unfoldable pub start_free : Name → (size : ℕ) → (plan given : List ℕ) → Mind → (slot : ℕ) → Work Answer
start_free n size ws xs x i =
    cond (nat_le 4611686018427387904 (next_of x.page)) (said (No 8) x)
    (cond (nat_lt (64 * x.lines) (1048576 + 2 * (weight_over x.page x.dir 0 1024 + (16384 + 16 * size)))) (said Full' x)
    (by_blocks (chosen (blocks_for size) (marked x.page x.dir (looked_at x.lines))) (lost x) (start_blocks n size ws xs x i)))

unfoldable pub start_work : Name → (size : ℕ) → (plan given : List ℕ) → Mind → Work Answer
start_work n size ws xs x =
    by_slot (key_slot x n) (by_slot (first_slot (is_free x.page) 0 1024) (said (No 8) x) (start_free n size ws xs x)) (λ i. said (Flow' (id_at x.dir i)) x)

-- ALL CALLS. `Tell` is not built yet.
unfoldable pub acts : Call → Mind → Work Answer
acts (Start n b xs) x = cond (bad_start n b xs) (said (No 1) x) (start_work n (size_of b) (laid b) xs x)
acts (Tell n w v) x = said (No 12) x
acts (Cancel n) x = cond (not (name_ok n)) (said (No 1) x) (at_slot x (cancel_flow x) (key_slot x n))
acts (Take ks ms) x = cond (nat_lt 64 (length ks) || nat_lt 86400000 ms) (said (No 1) x) (take_work ks ms x)
acts (Longer f s a ms) x = cond (nat_lt 86400000 ms) (said (No 1) x) (at_slot x (longer_flow s a ms x) (id_slot x f))
acts (Report f s a w v) x = at_slot x (report_flow s a w v x) (id_slot x f)
acts (Show n) x = cond (not (name_ok n)) (said (No 1) x) (at_slot x (show_flow x) (key_slot x n))
acts (Forget n) x = cond (not (name_ok n)) (said (No 1) x) (at_slot x (forget_flow x) (key_slot x n))
acts (Tick t) x = cond (small t && nat_lt 0 t) (tick_work (later t x.now) x) (said (No 1) x)

-- the calls that are built
unfoldable pub built : Call → Bool
built (Start n b xs) = true
built (Tell n w v) = false
built (Cancel n) = true
built (Take ks ms) = true
built (Longer f s a ms) = true
built (Report f s a w v) = true
built (Show n) = true
built (Forget n) = true
built (Tick t) = true

unfoldable pub does : Call → Mind → Work Answer
does c x = cond (built c) (cond (carried c) (cond (x.now == 0 && not (is_tick c)) (said (No 10) x) (acts c x)) (said (No 1) x)) (said (No 12) x)

abbrev pub the_engine : Engine Call Reply
the_engine = record { Mind = Mind; rises = rise_work; does = does }
