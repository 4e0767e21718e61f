-- The main theorem. Assumes nothing.
use Rattle.std.proofs.Common.{◌≡◌, ℕ, ◌<◌, ◌≤◌, Bool, true, false, cond, not, ◌&&◌, ◌||◌, T, eqb, ltb, ◌⊎◌, List, [], ◌∷◌, length, sym, refl, ap, ◌∙◌, subst, inl, inr, arith, ltb-false, ltb-true}
use Rattle.plans.specs.Plan.{size_of, name_ok}
use Rattle.plans.specs.Flat.{laid}
use Rattle.flows.specs.House.{House, blank, down, Call, Start, Tell, Cancel, Take, Longer, Report, Show, Forget, Tick, is_tick, carried, Reply, No, Yes, later, small}
use Rattle.flows.specs.One.{ticked_one, late_all, woken_all}
use Rattle.flows.specs.Promise.{Answers, not_yet, not_carried, flows}
use Rattle.flows.specs.Seats.{Seats, Sits, nobody, no_seats, refuse, answer, down_seats, acts_seats, does_seats, bad_start, flow_at, shows_flow, forgets_flow, cancels_flow, ticks_seats, starts_seat, key_seat, hands_seat, soonest, seat_count, task_at, longer_task}
use Rattle.flows.proofs.Seats.{seats_stand}
use Rattle.pages.specs.Holds.{TasksOk}
use Rattle.pages.specs.Sound.{Small as PSmall}
use Rattle.pages.proofs.Fitting.{fitting}
use Rattle.device.specs.Lines.{Lines, Left}
use Rattle.device.specs.Safe.{Safe, s_end, Kept}
use Rattle.device.proofs.Safe.{safe_more}
use Rattle.device.proofs.Kept.{dark_sense, dark_within, light_within}
use Rattle.words.specs.Runs.{Small}
use Rattle.store.specs.Layout.{slots, dir_words, Mind}
use Rattle.store.specs.Works.{rise_work}
use Rattle.store.proofs.Rising.{rising, risen, new_mind, fresh_held, dir_read, fresh_next, fresh_none, fresh_long}
use Rattle.engine.specs.Works.{Answer, said, acts, built, does, the_engine, start_work, at_slot, key_slot, id_slot, cancel_flow, show_flow, forget_flow, longer_flow, take_work, tick_work}
use Rattle.engine.specs.Whole.{EngineWhole}
use Rattle.engine.proofs.Stands.{Stands, Fallen, stands_fallen, Carries, carries_said}
use Rattle.engine.proofs.Search.{tasks_ok}
use Rattle.engine.proofs.Rules.{Rules}
use Rattle.engine.proofs.ByKey.{at_key, show_carries, cancel_carries, forget_carries}
use Rattle.engine.proofs.ByTry.{longer_carries, report_carries}
use Rattle.engine.proofs.Takes.{take_carries}
use Rattle.engine.proofs.Ticks.{tick_carries}
use Rattle.engine.proofs.Born.{slot_dir}
use Rattle.engine.proofs.Starting.{fair_start, start_carries, or_right, and_left, and_right}

-- words' Small is the pages' own
words : (ws : List ℕ) → Small ws → PSmall ws
words [] h = tt
words (w ∷ ws) h = (h.0, words ws h.1)

rules : Rules
rules = record {
  handed = fitting.handed;
  cancelled = fitting.cancelled;
  worked = λ r ws t v f g s l c hv so fi e. fitting.worked r ws t v f g (words ws s) l c hv fi e;
  wrong = λ r ws t f g s l c so fi e. fitting.wrong r ws t f g (words ws s) l c fi e;
  ticked = λ r ws t f g s l c so fi e. fitting.ticked r ws t f g (words ws s) l c fi e;
  begun = λ r ws xs t g s l c sx lx e. fitting.begun r ws xs t g (words ws s) l c (words xs sx) e;
}

Light : ℕ → House → Mind → Lines → Type 0
Light N h x m = (k : Seats) × Sits k h × Stands N x k m

Dark : ℕ → House → Lines → Type 0
Dark N h m = (k : Seats) × Sits k h × ((x : Mind) × (x.now ≡ 0) × Stands N x k m)

nobody_stays : (t : ℕ) → ticked_one t nobody ≡ nobody
unfolding late_all woken_all
nobody_stays t = refl

clash : {A : Type 0} → true ≡ false → A
clash e = let z : ◌≡◌ {A = ℕ} 0 1 = cc in absurd (omega arith)

later_low : (t now : ℕ) → t < 4611686018427387904 → now < 4611686018427387904 → later t now < 4611686018427387904
later_low t now ht hn = elim (ltb now t) as (λ b. cond b t now < 4611686018427387904) [ true ↦ ht | false ↦ hn ]

module _ {N : ℕ} {x : Mind} {k : Seats} {m : Lines} (big : 32768 ≤ N) (most : N ≤ 1099511627776) (st : Stands N x k m) where
  long : length x.dir ≡ dir_words
  long = st.agrees.long

  no : (n : ℕ) → Carries N k (refuse n k) (said (No n) x) m
  no n = carries_said N x k m (No n) (refuse n k) st long refl refl

  acts_carries : (c : Call) → built c ≡ true → carried c ≡ true → ((i : ℕ) → i < slots → TasksOk ((acts_seats N c k).seats.at i).task) → Carries N k (acts_seats N c k) (acts c x) m
  unfolding acts_seats acts built carried
  acts_carries (Start n b xs) e f ok = go (bad_start n b xs) refl ok
    where
      go : (t : Bool) → bad_start n b xs ≡ t → ((i : ℕ) → i < slots → TasksOk ((cond t (refuse 1 k) (starts_seat N n b xs (key_seat n k) k)).seats.at i).task)
          → Carries N k (cond t (refuse 1 k) (starts_seat N n b xs (key_seat n k) k)) (cond t (said (No 1) x) (start_work n (size_of b) (laid b) xs x)) m
      go true t good = no 1
      go false t good = start_carries big most st rules n b xs (fair_start n b xs t) good
  acts_carries (Tell n w v) e f ok = clash (sym e)
  acts_carries (Cancel n) e f ok =
      elim (not (name_ok n)) as (λ t. Carries N k (cond t (refuse 1 k) (flow_at cancels_flow n k)) (cond t (said (No 1) x) (at_slot x (cancel_flow x) (key_slot x n))) m) [
        | true ↦ no 1
        | false ↦ at_key big st long n cancels_flow (cancel_flow x) (λ i u. cancel_carries big st long rules i u)
      ]
  acts_carries (Take ks ms) e f ok = go (ltb 64 (length ks) || ltb 86400000 ms) refl
    where
      go : (t : Bool) → (ltb 64 (length ks) || ltb 86400000 ms) ≡ t → Carries N k (cond t (refuse 1 k) (hands_seat ms (soonest k.now ks seat_count k.at) k)) (cond t (said (No 1) x) (take_work ks ms x)) m
      go true t = no 1
      go false t = take_carries big st long rules ks ms (ltb-false _ _ (or_right _ _ t))
  acts_carries (Longer j s a ms) e f ok = go (ltb 86400000 ms) refl
    where
      go : (t : Bool) → ltb 86400000 ms ≡ t → Carries N k (cond t (refuse 1 k) (task_at (longer_task a ms) j s k)) (cond t (said (No 1) x) (at_slot x (longer_flow s a ms x) (id_slot x j))) m
      go true t = no 1
      go false t = longer_carries big st long rules j s a ms (ltb-false _ _ t)
  acts_carries (Report j s a w v) e f ok = report_carries big st long rules j s a w v (ltb-true _ _ (and_right _ _ f)) ok
  acts_carries (Show n) e f ok =
      elim (not (name_ok n)) as (λ t. Carries N k (cond t (refuse 1 k) (flow_at shows_flow n k)) (cond t (said (No 1) x) (at_slot x (show_flow x) (key_slot x n))) m) [
        | true ↦ no 1
        | false ↦ at_key big st long n shows_flow (show_flow x) (λ i u. show_carries big st long i u)
      ]
  acts_carries (Forget n) e f ok =
      elim (not (name_ok n)) as (λ t. Carries N k (cond t (refuse 1 k) (flow_at forgets_flow n k)) (cond t (said (No 1) x) (at_slot x (forget_flow x) (key_slot x n))) m) [
        | true ↦ no 1
        | false ↦ at_key big st long n forgets_flow (forget_flow x) (λ i u. forget_carries big st long i u)
      ]
  acts_carries (Tick t) e f ok = go (small t && ltb 0 t) refl ok
    where
      go : (b : Bool) → (small t && ltb 0 t) ≡ b → ((i : ℕ) → i < slots → TasksOk ((cond b (answer Yes (ticks_seats t k)) (refuse 1 k)).seats.at i).task)
          → Carries N k (cond b (answer Yes (ticks_seats t k)) (refuse 1 k)) (cond b (tick_work (later t x.now) x) (said (No 1) x)) m
      go false b good = no 1
      go true b good =
          subst (λ n. Carries N k (answer Yes (record { now = later t k.now; next = k.next; at = λ (i : ℕ). ticked_one (later t k.now) (k.at i) })) (tick_work (later t n) x) m) st.agrees.now
          (tick_carries big st long rules (later t k.now) (later_low t k.now (ltb-true _ _ (and_left _ _ b)) (let c = st.agrees.clock in let q = st.agrees.now in omega arith)) good (nobody_stays (later t k.now)))

  does_carries : (c : Call) → built c ≡ true → carried c ≡ true → ((i : ℕ) → i < slots → TasksOk ((does_seats N c k).seats.at i).task)
      → Carries N k (does_seats N c k) (cond (eqb x.now 0 && not (is_tick c)) (said (No 10) x) (acts c x)) m
  does_carries c e f ok =
      subst (λ n. Carries N k (does_seats N c k) (cond (eqb n 0 && not (is_tick c)) (said (No 10) x) (acts c x)) m) st.agrees.now
      (go (eqb k.now 0 && not (is_tick c)) ok)
    where
      go : (t : Bool) → ((i : ℕ) → i < slots → TasksOk ((cond t (refuse 10 k) (acts_seats N c k)).seats.at i).task) → Carries N k (cond t (refuse 10 k) (acts_seats N c k)) (cond t (said (No 10) x) (acts c x)) m
      go true good = no 10
      go false good = acts_carries c e f good

truth : (a b : Bool) → a ≡ true → b ≡ true → T (a && b)
truth true true e f = tt
truth true false e f = clash (sym f)
truth false b e f = clash (sym e)

kept : (N : ℕ) → 32768 ≤ N → N ≤ 1099511627776 → Kept N the_engine (flows built N) (Dark N) (Light N)
unfolding Light Dark does
kept N big most = record {
  starts = (
    no_seats,
    seats_stand.starts,
    (
      new_mind N,
      refl,
      record {
        image = (fresh_held N).0;
        page = λ i. [];
        plan = λ i. [];
        at = (fresh_held N).1;
        shows = (fresh_held N).2;
        agrees = record { now = refl; clock = omega arith; next = fresh_next; long = fresh_long; used = λ i u. absurd (fresh_none i u); free = λ i h z. refl };
      },
    ),
  );
  rising = λ s m d. up s m d.0 d.1 d.2.0 d.2.1 d.2.2;
  resting = λ s x m o l z. (down_seats l.0, seats_stand.falls l.0 s l.1, stands_fallen N x l.0 m o l.2 z);
  doing = λ c s x m l. doing c s x m l.0 l.1 l.2 (built c) refl (carried c) refl;
}
  where
    up : (s : House) (m : Lines) (k : Seats) → Sits k s → (x : Mind) → x.now ≡ 0 → Stands N x k m
        → Safe N (λ y n. Light N s y n) (λ n. (o : Lines) → Left n o → Dark N (down s) o) (rise_work N) m
    up s m k sits x none st =
        rising N x st.image st.page st.plan m big st.at st.shows (λ o l. (down_seats k, seats_stand.falls k s sits, stands_fallen N x k m o st l))
        (λ sh long. (
          k,
          sits,
          record {
            image = st.image;
            page = st.page;
            plan = st.plan;
            at = st.at;
            shows = sh;
            agrees = record {
              now = st.agrees.now ∙ none;
              clock = omega arith;
              next = st.agrees.next;
              long = long;
              used = λ i u. slot_dir x.dir (risen N x st.image).dir (k.at i) (st.page i) (st.plan i) i st.agrees.long long u.0
                  (λ c h. dir_read st.image i c u.0 h ∙ st.shows.body.entries i u c h) (st.agrees.used i u);
              free = st.agrees.free;
            };
          },
        ))

    fell : (s : House) (k : Seats) (o : Lines) → Sits k s → Fallen N k o → Dark N (down s) o
    fell s k o sits f = (down_seats k, seats_stand.falls k s sits, f)

    End : Call → House → Answer → Lines → Type 0
    End c s y n = (t : House) × Answers built N c s y.reply t × Light N t y.mind n

    Amid : Call → House → Lines → Type 0
    Amid c s n = (o : Lines) → Left n o → Dark N (down s) o ⊎ ((t : House) × (r : Reply) × Answers built N c s r t × Dark N (down t) o)

    stays : (c : Call) (s : House) (x : Mind) (m : Lines) (k : Seats) → Sits k s → Stands N x k m → (r : Reply) → Answers built N c s r s → Safe N (λ y n. End c s y n) (λ n. Amid c s n) (said r x) m
    stays c s x m k sits st r a = s_end (λ o l. inl (fell s k o sits (stands_fallen N x k m o st l))) (s, a, (k, sits, st))

    goes : (c : Call) (s : House) (x : Mind) (m : Lines) (k : Seats) → Sits k s → Stands N x k m → built c ≡ true → carried c ≡ true
        → Safe N (λ y n. End c s y n) (λ n. Amid c s n) (cond (eqb x.now 0 && not (is_tick c)) (said (No 10) x) (acts c x)) m
    goes c s x m k sits st e f =
        safe_more
        (λ y n r p. (g, subst (λ v. Answers built N c s v g) (sym p.0) ans, ((does_seats N c k).seats, sits2, p.1)))
        (λ n r o l. elim (r o l) [ inl d ↦ inl (fell s k o sits d) | inr d ↦ inr (g, (does_seats N c k).reply, ans, fell g (does_seats N c k).seats o sits2 d) ])
        (does_carries big most st c e f (λ i h. tasks_ok (does_seats N c k).seats g sits2 i h))
      where
        g : House
        g = (seats_stand.calls built N c k s sits (truth (built c) (carried c) e f)).0

        ans : Answers built N c s (does_seats N c k).reply g
        ans = (seats_stand.calls built N c k s sits (truth (built c) (carried c) e f)).1

        sits2 : Sits (does_seats N c k).seats g
        sits2 = (seats_stand.calls built N c k s sits (truth (built c) (carried c) e f)).2

    doing : (c : Call) (s : House) (x : Mind) (m : Lines) (k : Seats) → Sits k s → Stands N x k m → (p : Bool) → built c ≡ p → (q : Bool) → carried c ≡ q
        → Safe N (λ y n. End c s y n) (λ n. Amid c s n) (cond p (cond q (cond (eqb x.now 0 && not (is_tick c)) (said (No 10) x) (acts c x)) (said (No 1) x)) (said (No 12) x)) m
    doing c s x m k sits st false e q f = stays c s x m k sits st (No 12) (not_yet c s (λ t. subst T e t))
    doing c s x m k sits st true e false f = stays c s x m k sits st (No 1) (not_carried c s (truth (built c) (not (carried c)) e (ap not f)))
    doing c s x m k sits st true e true f = goes c s x m k sits st e f

pub engine_whole : EngineWhole
engine_whole = (
  λ N big most es f. dark_sense N the_engine (flows built N) (Dark N) (Light N) (kept N big most) f blank (kept N big most).starts,
  λ N big most. (
    λ m d. dark_within N the_engine (flows built N) (Dark N) (Light N) (kept N big most) m d,
    λ x m c l. light_within N the_engine (flows built N) (Dark N) (Light N) (kept N big most) x m c l,
  ),
)
