-- What time does to a flow with its task is what it does to the house. Assumes nothing.
use Rattle.std.proofs.Common.{◌≡◌, ℕ, Bool, true, false, cond, ◌&&◌, ltb, leb, List, [], ◌∷◌, length, set, Some, None, Ok, Err, Option, Result, sym, refl, ap, ◌∙◌, subst, arith, length-set}
use Rattle.std.proofs.lemmas.Bool.{cond-true, cond-false, and_from, lt-ltb}
use Rattle.plans.specs.declared.eval.Damaged.{Damaged}
use Rattle.plans.specs.Plan.{Flow as Meant, Phase as MeantPhase, Tasked as tasked_p, goes_on, heard}
use Rattle.flows.specs.House.{Task as Job, is_late}
use Rattle.flows.specs.One.{One, moved_one, wrong_one, late_all, woken_one, woken_all, ticked_one}
use Rattle.runs.specs.declared.step.Phase.{Phase}
use Rattle.runs.specs.declared.step.Phase.TheVariants.{Busy, Tasked, Asleep, Listens, Ended, Failed}
use Rattle.runs.specs.declared.step.Place.{Place}
use Rattle.runs.specs.Alike.{is_calm}
use Rattle.runs.specs.Machine.{FlatFlow, Is}
use Rattle.runs.specs.Decode.{code_in}
use Rattle.runs.specs.Steps.{gone_to}
use Rattle.runs.specs.Carried.{phase_in, flow_in}
use Rattle.runs.proofs.Tidings.{wakes_in, heard_in}
use Rattle.pages.specs.declared.flow.Standing.{Standing}
use Rattle.pages.specs.declared.flow.Standing.TheVariants.{Due, Out}
use Rattle.pages.specs.declared.flow.Task.{Task}
use Rattle.pages.specs.declared.flow.Flow.{Flow}
use Rattle.pages.specs.Page.{damaged}
use Rattle.pages.specs.Sound.{PhaseOk}
use Rattle.pages.specs.Events.{ran_on, wrong_on, late_for, late_task, wakes_at, wakes_on, then_wakes, ticked_on, stirs_at, stirring, step_in}
use Rattle.pages.specs.Holds.{standing_of, job_of, jobs_of, Holds, HeldBy, TasksOk, alone, TicksAs, StaysAs}
use Rattle.pages.proofs.Good.{Wants}
use Rattle.pages.proofs.Held.{phase_is, TaskedOk, ran_held}
use Rattle.pages.proofs.Means.{pair, holds_as, held_pair, none_in, is_free, wrong_at}

-- waking -------------------------------------------------------------------------

wakes_at_lem : (room : ℕ) (ws : List ℕ) (t : ℕ) (f : Flow) (y : FlatFlow) (x : Meant) (p : Phase) → f.place.phase ≡ p → Holds room ws f y (pair x y.id (step_in f.place.phase) f.task) → Is (code_in room ws) (flow_in ws f.place f.vars y) x
    → TaskedOk (woken_one t (phase_in ws p) x (pair x y.id (step_in f.place.phase) f.task))
    → HeldBy room ws (wakes_at room ws t p f) y (woken_one t (phase_in ws p) x (pair x y.id (step_in f.place.phase) f.task))
unfolding phase_in woken_one wakes_at is_free
wakes_at_lem room ws t f y x Busy e h is ok = subst (λ (q : One). HeldBy room ws (ran_on room ws t f.place f.vars) y (moved_one t x q)) (sym lone) (ran_held room ws t f.place f.vars y x x (record { vars = h.sound.vars; into = h.sound.into; phase = h.sound.phase; wants = subst (λ (q : Phase). Wants q []) (sym e) tt }) h.box is (subst (λ (q : One). TaskedOk (moved_one t x q)) lone ok))
  where
    lone : pair x y.id (step_in f.place.phase) f.task ≡ alone x
    lone = ap (pair x y.id (step_in f.place.phase)) (none_in f Busy e refl h.sound)
wakes_at_lem room ws t f y x (Tasked s) e h is ok = h
wakes_at_lem room ws t f y x (Asleep u) e h is ok = go (leb u t) ok
  where
    W : One
    W = pair x y.id (step_in f.place.phase) f.task

    lone : W ≡ alone x
    lone = ap (pair x y.id (step_in f.place.phase)) (none_in f (Asleep u) e refl h.sound)

    p : Place
    p = gone_to f.place.here f.place

    x' : Meant
    x' = goes_on x.frames x.vars x

    go : (b : Bool) → TaskedOk (cond b (moved_one t x' W) W) → HeldBy room ws (cond b (ran_on room ws t p f.vars) (Ok f)) y (cond b (moved_one t x' W) W)
    go false kept = h
    go true kept = subst (λ (q : One). HeldBy room ws (ran_on room ws t p f.vars) y (moved_one t x' q)) (sym lone) (ran_held room ws t p f.vars y x' x (record { vars = h.sound.vars; into = h.sound.into; phase = tt; wants = tt }) h.box (wakes_in f.place p refl room ws f.vars x y (ap (λ (q : Phase). is_calm (phase_in ws q)) e) is) (subst (λ (q : One). TaskedOk (moved_one t x' q)) lone kept))
wakes_at_lem room ws t f y x (Listens v w n u) e h is ok = go (leb u t) ok
  where
    W : One
    W = pair x y.id (step_in f.place.phase) f.task

    lone : W ≡ alone x
    lone = ap (pair x y.id (step_in f.place.phase)) (none_in f (Listens v w n u) e refl h.sound)

    p : Place
    p = gone_to f.place.here f.place

    vs : List ℕ
    vs = set (set f.vars v 0) w 0

    x' : Meant
    x' = heard v w 0 0 x.box x.frames x

    low : PhaseOk (Listens v w n u)
    low = subst (λ (q : Phase). PhaseOk q) e h.sound.phase

    both : (ltb v 64 && ltb w 64) ≡ true
    both = and_from _ _ (lt-ltb v 64 low.0) (lt-ltb w 64 low.1)

    long : length vs ≡ 64
    long = length-set (set f.vars v 0) w 0 ∙ length-set f.vars v 0 ∙ h.sound.vars

    go : (b : Bool) → TaskedOk (cond b (moved_one t x' W) W) → HeldBy room ws (cond b (cond (ltb v 64 && ltb w 64) (ran_on room ws t p vs) damaged) (Ok f)) y (cond b (moved_one t x' W) W)
    go false kept = h
    go true kept =
        subst (λ (r : Result Flow Damaged). HeldBy room ws r y (moved_one t x' W)) (sym (cond-true _ _ _ both))
        (subst (λ (q : One). HeldBy room ws (ran_on room ws t p vs) y (moved_one t x' q)) (sym lone)
        (ran_held room ws t p vs y x' x (record { vars = long; into = h.sound.into; phase = tt; wants = tt }) h.box (heard_in f.place p v w 0 0 f.vars h.sound.vars low.0 low.1 refl room ws x y (ap (λ (q : Phase). is_calm (phase_in ws q)) e) is) (subst (λ (q : One). TaskedOk (moved_one t x' q)) lone kept)))
wakes_at_lem room ws t f y x (Ended v) e h is ok = h
wakes_at_lem room ws t f y x Failed e h is ok = h

wakes_held : (room : ℕ) (ws : List ℕ) (t : ℕ) (f : Flow) (y : FlatFlow) (o : One) → Holds room ws f y o → TaskedOk (woken_all t o.flow o) → HeldBy room ws (wakes_on room ws t f) y (woken_all t o.flow o)
unfolding woken_all
wakes_held room ws t f y o h ok = subst (λ (q : One). HeldBy room ws (wakes_on room ws t f) y q) (sym whole) (wakes_at_lem room ws t f y h.x f.place.phase refl (held_pair room ws f y o f.task refl h) h.is (subst TaskedOk whole ok))
  where
    W : One
    W = pair h.x y.id (step_in f.place.phase) f.task

    whole : woken_all t o.flow o ≡ woken_one t (phase_in ws f.place.phase) h.x W
    whole = ap (λ (q : One). woken_all t q.flow q) (holds_as room ws f y o f.task refl h) ∙ ap (λ (q : MeantPhase). woken_one t q h.x W) (phase_is room ws f.place f.vars y h.x h.is)

-- who waits for a task does not wake
tasked_rests : (t : ℕ) (o : One) (x : Meant) (k : ℕ) → o.flow ≡ x ∷ [] → x.phase ≡ tasked_p k → woken_all t o.flow o ≡ o
unfolding woken_all woken_one
tasked_rests t o x k e q = ap (λ (l : List Meant). woken_all t l o) e ∙ ap (λ (p : MeantPhase). woken_one t p x o) q

-- time ---------------------------------------------------------------------------

late_is : (t : ℕ) (s : Standing) → is_late t (standing_of s) ≡ late_for t s
unfolding is_late
late_is t (Due a) = refl
late_is t (Out u) = refl

then_held : (room : ℕ) (ws : List ℕ) (t : ℕ) (r : Result Flow Damaged) (y : FlatFlow) (o : One) → HeldBy room ws r y o → TaskedOk (woken_all t o.flow o) → HeldBy room ws (then_wakes room ws t r) y (woken_all t o.flow o)
unfolding then_wakes
then_held room ws t (Ok g) y o h ok = wakes_held room ws t g y o h ok
then_held room ws t (Err d) y o h ok = h

pub ticked_held : (room : ℕ) (ws : List ℕ) (t : ℕ) (f : Flow) → TicksAs room ws t f (ticked_on room ws t f)
unfolding ticked_on late_all
ticked_held room ws t f y o h ok = at_task f.task refl
  where
    s : ℕ
    s = step_in f.place.phase

    x : Meant
    x = h.x

    at_task : (m : Option Task) → f.task ≡ m → HeldBy room ws (ticked_on room ws t f) y (ticked_one t o)
    at_task None q =
        let whole : ticked_one t o ≡ woken_all t (x ∷ []) (pair x y.id s None) = ap (ticked_one t) (holds_as room ws f y o None q h) in
        subst (λ (p : One). HeldBy room ws (ticked_on room ws t f) y p) (sym whole)
        (subst (λ (r : Result Flow Damaged). HeldBy room ws r y (woken_all t (x ∷ []) (pair x y.id s None))) (sym (cond-false _ _ _ (ap (late_task t) q)))
        (wakes_held room ws t f y (pair x y.id s None) (held_pair room ws f y o None q h) (λ z k a b. subst (λ (p : One). TasksOk p.task) whole ok)))
    at_task (Some u) q =
        subst (λ (p : One). HeldBy room ws (ticked_on room ws t f) y p) (sym whole)
        (subst (λ (c : Bool). HeldBy room ws (cond c (then_wakes room ws t (wrong_on room ws t f)) (wakes_on room ws t f)) y (woken_all t (cond (late_for t u.standing) (wrong_one t j W) W).flow (cond (late_for t u.standing) (wrong_one t j W) W))) (sym (ap (late_task t) q))
        (go (late_for t u.standing) (subst (λ (p : One). TasksOk p.task) whole ok)))
      where
        j : Job
        j = job_of y.id s u

        W : One
        W = pair x y.id s (Some u)

        whole : ticked_one t o ≡ woken_all t (cond (late_for t u.standing) (wrong_one t j W) W).flow (cond (late_for t u.standing) (wrong_one t j W) W)
        whole = ap (ticked_one t) (holds_as room ws f y o (Some u) q h) ∙ ap (λ (b : Bool). woken_all t (cond b (wrong_one t j W) W).flow (cond b (wrong_one t j W) W)) (late_is t u.standing)

        go : (b : Bool) → TasksOk (woken_all t (cond b (wrong_one t j W) W).flow (cond b (wrong_one t j W) W)).task → HeldBy room ws (cond b (then_wakes room ws t (wrong_on room ws t f)) (wakes_on room ws t f)) y (woken_all t (cond b (wrong_one t j W) W).flow (cond b (wrong_one t j W) W))
        go false kept = wakes_held room ws t f y W (held_pair room ws f y o (Some u) q h) (λ z k a b. kept)
        go true kept = then_held room ws t (wrong_on room ws t f) y (wrong_one t j W) (wrong_at room ws t f y o u q h (λ z k a b. subst (λ (p : One). TasksOk p.task) (tasked_rests t (wrong_one t j W) z k a b) kept)) (λ z k a b. kept)

-- who does not stir ----------------------------------------------------------------

stays_on : (room : ℕ) (ws : List ℕ) (t : ℕ) (p : Phase) (f : Flow) → stirs_at t p ≡ false → wakes_at room ws t p f ≡ Ok f
unfolding wakes_at
stays_on room ws t Busy f e = let z : ◌≡◌ {A = ℕ} 0 1 = cc in absurd (omega arith)
stays_on room ws t (Tasked s) f e = refl
stays_on room ws t (Asleep u) f e = cond-false _ _ _ e
stays_on room ws t (Listens v w n u) f e = cond-false _ _ _ e
stays_on room ws t (Ended v) f e = refl
stays_on room ws t Failed f e = refl

stays_one : (ws : List ℕ) (t : ℕ) (p : Phase) (x : Meant) (o : One) → stirs_at t p ≡ false → woken_one t (phase_in ws p) x o ≡ o
unfolding woken_one phase_in
stays_one ws t Busy x o e = let z : ◌≡◌ {A = ℕ} 0 1 = cc in absurd (omega arith)
stays_one ws t (Tasked s) x o e = refl
stays_one ws t (Asleep u) x o e = cond-false _ _ _ e
stays_one ws t (Listens v w n u) x o e = cond-false _ _ _ e
stays_one ws t (Ended v) x o e = refl
stays_one ws t Failed x o e = refl

late_stays : (t : ℕ) (x : Meant) (i s : ℕ) (m : Option Task) → late_task t m ≡ false → late_all t (jobs_of i s m) (pair x i s m) ≡ pair x i s m
unfolding late_all
late_stays t x i s None e = refl
late_stays t x i s (Some u) e = cond-false _ _ _ (late_is t u.standing ∙ e)

not_late : (b c : Bool) → cond b true c ≡ false → (b ≡ false) × (c ≡ false)
not_late true c e = let z : ◌≡◌ {A = ℕ} 0 1 = cc in absurd (omega arith)
not_late false c e = (refl, e)

pub stays_held : (t : ℕ) (f : Flow) → StaysAs t f (stirring t f)
unfolding ticked_on woken_all
stays_held t f e room ws = (cond-false _ _ _ parts.0 ∙ stays_on room ws t f.place.phase f parts.1, rests)
  where
    parts : (late_task t f.task ≡ false) × (stirs_at t f.place.phase ≡ false)
    parts = not_late (late_task t f.task) (stirs_at t f.place.phase) e

    rests : (y : FlatFlow) (o : One) → Holds room ws f y o → ticked_one t o ≡ o
    rests y o h =
        let W : One = pair h.x y.id (step_in f.place.phase) f.task in
        let same : o ≡ W = holds_as room ws f y o f.task refl h in
        ap (ticked_one t) same
        ∙ ap (λ (q : One). woken_all t q.flow q) (late_stays t h.x y.id (step_in f.place.phase) f.task parts.0)
        ∙ ap (λ (q : MeantPhase). woken_one t q h.x W) (phase_is room ws f.place f.vars y h.x h.is)
        ∙ stays_one ws t f.place.phase h.x W parts.1
        ∙ sym same
