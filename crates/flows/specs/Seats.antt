-- The house as slots: each flow with its task has a slot of its own, and what a call does is said of slots.
use Rattle.std.specs.Prelude.{◌≡◌, ℕ, zero, suc, ◌+◌, ◌*◌, ◌%◌, ◌<◌, Bool, false, cond, not, ◌&&◌, ◌||◌, T, ltb, ◌⊎◌, List, [], ◌∷◌, length, ◌==◌, nat_le, nat_lt}
use Rattle.plans.specs.Plan.{Name, Block, Failed, Word, Flow, top, ends, none, every, name_ok, word_ok, block_ok, size_of}
use Rattle.flows.specs.House.{Task, House, blank, find, is_key, is_flow, is_task, is_over, listens_for, the_same, later, small, wanted, sooner, weight_of, carried, down, Call, Start, Tell, Cancel, Take, Longer, Report, Show, Forget, Tick, is_tick, Reply, No, Yes, Flow', Job, Nothing, State, Full'}
use Rattle.flows.specs.One.{One, look, moved_one, ticked_one}
use Rattle.flows.specs.Fine.{AsksOf, Fine, Good}
use Rattle.flows.specs.Summed.{new_flow, told_one, stands_one, reports_one}
use Rattle.flows.specs.Promise.{Answers}

-- what slot i < 1024 holds is `at i`; it is nobody where the slot is free
pub record Seats : Type 0 where
  pub now : ℕ
  pub next : ℕ
  pub at : ℕ → One

pub record Seated : Type 0 where
  pub reply : Reply
  pub seats : Seats

abbrev pub seat_count : ℕ
seat_count = 1024

abbrev pub nobody : One
nobody = record { flow = []; task = [] }

abbrev pub no_seats : Seats
no_seats = record { now = 0; next = 1; at = λ (i : ℕ). nobody }

abbrev pub refuse : ℕ → Seats → Seated
refuse n k = record { reply = No n; seats = k }

abbrev pub answer : Reply → Seats → Seated
answer r k = record { reply = r; seats = k }

abbrev pub put_at : ℕ → One → (ℕ → One) → ℕ → One
put_at i o f j = cond (j == i) o (f j)

abbrev pub put : ℕ → One → Seats → Seats
put i o k = record { now = k.now; next = k.next; at = put_at i o k.at }

-- FINDING A SLOT: the first of slots i, i + 1, .. i + n - 1 that passes
unfoldable pub seat_with : (One → Bool) → (i n : ℕ) → (ℕ → One) → List ℕ
seat_with p i zero f = []
seat_with p i (suc n) f = cond (p (f i)) (i ∷ []) (seat_with p (suc i) n f)

unfoldable pub flow_is : (Flow → Bool) → List Flow → Bool
flow_is p [] = false
flow_is p (x ∷ xs) = p x

abbrev pub holds_key : Name → One → Bool
holds_key n o = flow_is (is_key n) o.flow

abbrev pub holds_id : ℕ → One → Bool
holds_id j o = flow_is (is_flow j) o.flow

abbrev pub is_free : One → Bool
is_free o = none o.flow

abbrev pub key_seat : Name → Seats → List ℕ
key_seat n k = seat_with (holds_key n) 0 seat_count k.at

abbrev pub id_seat : ℕ → Seats → List ℕ
id_seat j k = seat_with (holds_id j) 0 seat_count k.at

abbrev pub free_seat : Seats → List ℕ
free_seat k = seat_with is_free 0 seat_count k.at

-- what the first n slots amount to
unfoldable pub total : (One → ℕ) → (ℕ → One) → ℕ → ℕ
total w f zero = 0
total w f (suc n) = w (f n) + total w f n

abbrev pub weight_one : One → ℕ
weight_one o = weight_of o.flow

abbrev pub length_one : One → ℕ
length_one o = length o.flow

abbrev pub weight_seats : Seats → ℕ
weight_seats k = total weight_one k.at seat_count

-- what is done at the slot that was found
unfoldable pub at_seat : (ℕ → Seats → Seated) → List ℕ → Seats → Seated
at_seat f [] k = refuse 2 k
at_seat f (i ∷ is) k = f i k

-- BY KEY
unfoldable pub shows_flow : ℕ → List Flow → Seats → Seated
shows_flow i [] k = refuse 2 k
shows_flow i (x ∷ xs) k = answer (State x.phase) k

unfoldable pub forgets_flow : ℕ → List Flow → Seats → Seated
forgets_flow i [] k = refuse 2 k
forgets_flow i (x ∷ xs) k = cond (is_over x.phase) (answer Yes (put i nobody k)) (refuse 3 k)

unfoldable pub cancels_flow : ℕ → List Flow → Seats → Seated
cancels_flow i [] k = refuse 2 k
cancels_flow i (x ∷ xs) k = cond (is_over x.phase) (refuse 3 k) (answer Yes (put i (record { flow = ends Failed x ∷ []; task = [] }) k))

unfoldable pub tells_flow : Word → ℕ → List Flow → Seats → Seated
tells_flow w i [] k = refuse 2 k
tells_flow w i (x ∷ xs) k = cond (is_over x.phase) (refuse 3 k) (cond (nat_le 64 (length x.box) && not (listens_for w x.phase)) (refuse 8 k) (answer Yes (put i (told_one k.now x.phase w x (k.at i)) k)))

abbrev pub flow_at : (ℕ → List Flow → Seats → Seated) → Name → Seats → Seated
flow_at f n k = at_seat (λ (i : ℕ) (l : Seats). f i (l.at i).flow l) (key_seat n k) k

-- BY NUMBER
unfoldable pub reports_task : ℕ → Bool → ℕ → ℕ → List Task → Seats → Seated
reports_task a well v i [] k = refuse 2 k
reports_task a well v i (t ∷ ts) k = cond (the_same a t) (answer Yes (put i (reports_one k.now a well v (t ∷ []) (k.at i)) k)) (refuse 5 k)

unfoldable pub longer_task : ℕ → ℕ → ℕ → List Task → Seats → Seated
longer_task a ms i [] k = refuse 2 k
longer_task a ms i (t ∷ ts) k = cond (the_same a t) (answer Yes (put i (stands_one (k.now + ms) t (k.at i)) k)) (refuse 5 k)

abbrev pub task_at : (ℕ → List Task → Seats → Seated) → ℕ → ℕ → Seats → Seated
task_at f j s k = at_seat (λ (i : ℕ) (l : Seats). f i (find (is_task j s) (l.at i).task) l) (id_seat j k) k

-- TAKE: the soonest that is wanted, and where it is
pub record Found : Type 0 where
  pub slot : ℕ
  pub task : Task

unfoldable pub sooned : ℕ → Task → List Found → List Found
sooned i t [] = record { slot = i; task = t } ∷ []
sooned i t (b ∷ bs) = cond (sooner t b.task) (record { slot = i; task = t } ∷ []) (b ∷ bs)

unfoldable pub better : ℕ → List ℕ → ℕ → List Task → List Found → List Found
better now ks i [] best = best
better now ks i (t ∷ ts) best = cond (wanted now ks t) (sooned i t best) best

-- among the first n slots
unfoldable pub soonest : ℕ → List ℕ → ℕ → (ℕ → One) → List Found
soonest now ks zero f = []
soonest now ks (suc n) f = better now ks n (f n).task (soonest now ks n f)

unfoldable pub hands_seat : ℕ → List Found → Seats → Seated
hands_seat ms [] k = answer Nothing k
hands_seat ms (b ∷ bs) k = answer (Job b.task.flow b.task.step b.task.attempt b.task.kind b.task.args) (put b.slot (stands_one (k.now + ms) b.task (k.at b.slot)) k)

-- TIME
abbrev pub ticks_seats : ℕ → Seats → Seats
ticks_seats t k = record { now = later t k.now; next = k.next; at = λ (i : ℕ). ticked_one (later t k.now) (k.at i) }

-- START
abbrev pub bad_start : Name → Block → List ℕ → Bool
bad_start n b xs = not (name_ok n) || not (block_ok b) || nat_lt 4096 (size_of b) || nat_lt 16 (length xs) || not (every (λ (x : ℕ). ltb x top) xs)

abbrev pub new_one : ℕ → Flow → One
new_one now x = moved_one now x (record { flow = x ∷ []; task = [] })

abbrev pub born_at : ℕ → Flow → Seats → Seats
born_at i x k = record { now = k.now; next = k.next + 1; at = put_at i (new_one k.now x) k.at }

-- does a plan of this size surely fit
abbrev pub tight : ℕ → ℕ → Seats → Bool
tight lines n k = nat_lt (64 * lines) (1048576 + 2 * (weight_seats k + (16384 + 16 * n)))

unfoldable pub starts_free : ℕ → Name → Block → List ℕ → List ℕ → Seats → Seated
starts_free lines n b xs [] k = refuse 8 k
starts_free lines n b xs (i ∷ is) k =
    cond (nat_le 4611686018427387904 k.next) (refuse 8 k)
    (cond (tight lines (size_of b) k) (answer Full' k)
    (answer (Flow' k.next) (born_at i (new_flow k.next n b xs) k)))

unfoldable pub starts_flow : List Flow → Seats → Seated
starts_flow [] k = refuse 2 k
starts_flow (x ∷ xs) k = answer (Flow' x.id) k

unfoldable pub starts_seat : ℕ → Name → Block → List ℕ → List ℕ → Seats → Seated
starts_seat lines n b xs [] k = starts_free lines n b xs (free_seat k) k
starts_seat lines n b xs (i ∷ is) k = starts_flow (k.at i).flow k

-- ALL CALLS
unfoldable pub acts_seats : ℕ → Call → Seats → Seated
acts_seats lines (Start n b xs) k = cond (bad_start n b xs) (refuse 1 k) (starts_seat lines n b xs (key_seat n k) k)
acts_seats lines (Tell n w v) k = cond (not (name_ok n) || not (word_ok w)) (refuse 1 k) (flow_at (tells_flow (record { name = w; value = v % top })) n k)
acts_seats lines (Cancel n) k = cond (not (name_ok n)) (refuse 1 k) (flow_at cancels_flow n k)
acts_seats lines (Take ks ms) k = cond (nat_lt 64 (length ks) || nat_lt 86400000 ms) (refuse 1 k) (hands_seat ms (soonest k.now ks seat_count k.at) k)
acts_seats lines (Longer f s a ms) k = cond (nat_lt 86400000 ms) (refuse 1 k) (task_at (longer_task a ms) f s k)
acts_seats lines (Report f s a w v) k = task_at (reports_task a w v) f s k
acts_seats lines (Show n) k = cond (not (name_ok n)) (refuse 1 k) (flow_at shows_flow n k)
acts_seats lines (Forget n) k = cond (not (name_ok n)) (refuse 1 k) (flow_at forgets_flow n k)
acts_seats lines (Tick t) k = cond (small t && nat_lt 0 t) (answer Yes (ticks_seats t k)) (refuse 1 k)

abbrev pub does_seats : ℕ → Call → Seats → Seated
does_seats lines c k = cond (k.now == 0 && not (is_tick c)) (refuse 10 k) (acts_seats lines c k)

abbrev pub down_seats : Seats → Seats
down_seats k = record { now = 0; next = k.next; at = k.at }

-- WHAT THE SLOTS ARE TO THE HOUSE: each holds nobody, or one flow as a look at its number shows it; each flow has a slot, and no two have the same
pub record Holds (f : ℕ → One) (h : House) : Type 0 where
  pub good : Good h
  pub each : (i : ℕ) → i < seat_count → (f i ≡ nobody) ⊎ ((x : Flow) × ((f i).flow ≡ x ∷ []) × (f i ≡ look x.id h))
  pub seated : (j : ℕ) (x : Flow) → (look j h).flow ≡ x ∷ [] → (i : ℕ) × (i < seat_count) × (f i ≡ look j h)
  pub apart : (i l : ℕ) → i < seat_count → l < seat_count → (x y : Flow) → (f i).flow ≡ x ∷ [] → (f l).flow ≡ y ∷ [] → x.id ≡ y.id → i ≡ l

pub record Sits (k : Seats) (h : House) : Type 0 where
  pub now : k.now ≡ h.now
  pub next : k.next ≡ h.next
  pub holds : Holds k.at h

-- the slots do what the house does
pub record SeatsStand : Type 0 where
  pub starts : Sits no_seats blank
  pub falls : (k : Seats) (h : House) → Sits k h → Sits (down_seats k) (down h)
  pub calls : (can : Call → Bool) (lines : ℕ) (c : Call) (k : Seats) (h : House) → Sits k h → T (can c && carried c) → (g : House) × Answers can lines c h (does_seats lines c k).reply g × Sits (does_seats lines c k).seats g
  -- only what the slots below 1,024 hold counts
  pub alike : (k l : Seats) (h : House) → Sits k h → l.now ≡ k.now → l.next ≡ k.next → ((i : ℕ) → i < seat_count → l.at i ≡ k.at i) → Sits l h
  -- as many flows, and as heavy
  pub weighs : (k : Seats) (h : House) → Sits k h → weight_of h.flows ≡ weight_seats k
  pub counts : (k : Seats) (h : House) → Sits k h → length h.flows ≡ total length_one k.at seat_count
  -- what a slot holds is as fine as in the house, and of a number that was given out
  pub fine : (k : Seats) (h : House) → Sits k h → (i : ℕ) → i < seat_count → (x : Flow) → (k.at i).flow ≡ x ∷ [] → Fine x.id (k.at i) × (x.id < k.next)
  pub asks : (k : Seats) (h : House) → Sits k h → (i : ℕ) → i < seat_count → (t : Task) (ts : List Task) → (k.at i).task ≡ t ∷ ts → (ts ≡ []) × AsksOf t
