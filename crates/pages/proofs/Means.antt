-- Each event on a flow with its task is the house's. Assumes nothing.
use Rattle.std.proofs.Common.{◌≡◌, ℕ, ◌<◌, Bool, true, false, cond, not, ◌&&◌, eqb, ltb, List, [], ◌∷◌, length, set, Some, None, Ok, Err, Option, Result, sym, refl, ap, ◌∙◌, subst, ap₂, arith, length-set}
use Rattle.std.proofs.lemmas.Bool.{cond-true, and_from, eq-eqb, lt-ltb}
use Rattle.plans.specs.declared.eval.Damaged.{Damaged}
use Rattle.plans.specs.Plan.{Flow as Meant, at, goes_on, broken}
use Rattle.flows.specs.House.{Task as Job, change, keep, is_task, again as again_job}
use Rattle.flows.specs.One.{One, with_task as with_jobs, moved_one, works_one, fails_one, wrong_one}
use Rattle.runs.specs.declared.step.Phase.{Phase}
use Rattle.runs.specs.declared.step.Phase.TheVariants.{Busy, Tasked, Asleep, Listens, Ended, Failed}
use Rattle.runs.specs.declared.step.Place.{Place}
use Rattle.runs.specs.declared.event.Task.{Task as Found}
use Rattle.runs.specs.Machine.{FlatFlow, Is}
use Rattle.runs.specs.Decode.{code_in}
use Rattle.runs.specs.Units.{statement_at}
use Rattle.runs.specs.Steps.{Out as Ways, Went, gone_to, fails_to}
use Rattle.runs.specs.Carried.{phase_in, flow_in}
use Rattle.runs.specs.Events.{task_in, with_task as found}
use Rattle.runs.proofs.Tidings.{result_in, broken_in}
use Rattle.pages.specs.declared.flow.Task.{Task}
use Rattle.pages.specs.declared.flow.Flow.{Flow}
use Rattle.pages.specs.Sound.{TaskOk, Agree, Sound}
use Rattle.pages.specs.Events.{then_runs, worked_on, failed_on, again, with_task, wrong_task, wrong_on, step_in}
use Rattle.pages.specs.Holds.{job_of, jobs_of, Holds, HeldBy, TasksOk, alone, WorksAs, WrongAs}
use Rattle.pages.proofs.Codes.{fair_ok, agreed_task}
use Rattle.pages.proofs.Good.{Good}
use Rattle.pages.proofs.Held.{phase_is, TaskedOk, ran_held}

-- a flow and the task that it may have
abbrev pub pair : Meant → (id step : ℕ) → Option Task → One
pair x i s m = record { flow = x ∷ []; task = jobs_of i s m }

pub holds_as : (room : ℕ) (ws : List ℕ) (f : Flow) (y : FlatFlow) (o : One) (m : Option Task) → f.task ≡ m → (h : Holds room ws f y o) → o ≡ pair h.x y.id (step_in f.place.phase) m
holds_as room ws f y o m e h = λ i. record { flow = h.flow i; task = (h.task ∙ ap (jobs_of y.id (step_in f.place.phase)) e) i }

pub held_pair : (room : ℕ) (ws : List ℕ) (f : Flow) (y : FlatFlow) (o : One) (m : Option Task) → f.task ≡ m → (h : Holds room ws f y o) → Holds room ws f y (pair h.x y.id (step_in f.place.phase) m)
held_pair room ws f y o m e h = record { x = h.x; flow = refl; is = h.is; box = h.box; task = ap (jobs_of y.id (step_in f.place.phase)) (sym e); sound = h.sound }

pub tasked_of : (p : Phase) (u : Task) → Agree p (Some u) → (k : ℕ) × (p ≡ Tasked k)
tasked_of Busy u a = absurd a
tasked_of (Tasked s) u a = (s, refl)
tasked_of (Asleep t) u a = absurd a
tasked_of (Listens v w n t) u a = absurd a
tasked_of (Ended v) u a = absurd a
tasked_of Failed u a = absurd a

unfoldable pub is_free : Phase → Bool
is_free Busy = true
is_free (Tasked s) = false
is_free (Asleep u) = true
is_free (Listens v w n u) = true
is_free (Ended v) = true
is_free Failed = true

free_none : (p : Phase) (m : Option Task) → is_free p ≡ true → Agree p m → m ≡ None
unfolding is_free
free_none p None e a = refl
free_none Busy (Some u) e a = absurd a
free_none (Tasked s) (Some u) e a = let z : ◌≡◌ {A = ℕ} 0 1 = cc in absurd (omega arith)
free_none (Asleep t) (Some u) e a = absurd a
free_none (Listens v w n t) (Some u) e a = absurd a
free_none (Ended v) (Some u) e a = absurd a
free_none Failed (Some u) e a = absurd a

pub none_in : (f : Flow) (p : Phase) → f.place.phase ≡ p → is_free p ≡ true → Sound f → f.task ≡ None
none_in f p e b s = free_none p f.task b (subst (λ (q : Phase). Agree q f.task) e s.task)

-- a result -----------------------------------------------------------------------

pub worked_held : (room : ℕ) (ws : List ℕ) (t v : ℕ) (f : Flow) → WorksAs room ws t v f (worked_on room ws t v f)
unfolding worked_on works_one then_runs found
worked_held room ws t v f k y o e h ok =
    subst (λ (q : One). HeldBy room ws (worked_on room ws t v f) y (works_one t v q.flow (with_jobs [] q))) (sym eqn)
    (subst (λ (r : Result Flow Damaged). HeldBy room ws r y (moved_one t x' (alone x))) (sym (cond-true _ _ _ (lt-ltb f.place.into 64 h.sound.into))) (go (task_in (statement_at ws f.place.here)) refl))
  where
    x : Meant
    x = h.x

    x' : Meant
    x' = goes_on x.frames (at x.into v x.vars) x

    vs : List ℕ
    vs = set f.vars f.place.into v

    eqn : o ≡ pair x y.id (step_in f.place.phase) f.task
    eqn = holds_as room ws f y o f.task refl h

    kept : TaskedOk (moved_one t x' (alone x))
    kept = λ z n a b. subst (λ (q : One). TasksOk (works_one t v q.flow (with_jobs [] q)).task) eqn ok

    F : ℕ → Option ℕ → Ways
    F = λ next way. Went (gone_to next f.place) vs []

    go : (m : Option Found) → task_in (statement_at ws f.place.here) ≡ m → HeldBy room ws (then_runs room ws t (found m F)) y (moved_one t x' (alone x))
    go None q = result_in ws f.place v f.vars [] (Err (record {})) h.sound.vars h.sound.into (ap (λ (m : Option Found). found m F) q) room k x y e h.is
    go (Some u) q =
        ran_held room ws t (gone_to u.next f.place) vs y x' x (record { vars = length-set f.vars f.place.into v ∙ h.sound.vars; into = h.sound.into; phase = tt; wants = tt }) h.box
        (result_in ws f.place v f.vars vs (Ok (gone_to u.next f.place)) h.sound.vars h.sound.into (ap (λ (m : Option Found). found m F) q) room k x y e h.is) kept

-- a failure ----------------------------------------------------------------------

fails_into : (way : Option ℕ) (p : Place) (vs : List ℕ) → length vs ≡ 64 → p.into < 64 → Good (fails_to way p) vs []
unfolding fails_to
fails_into None p vs l i = record { vars = l; into = i; phase = tt; wants = tt }
fails_into (Some a) p vs l i = record { vars = l; into = i; phase = tt; wants = tt }

failed_held : (room : ℕ) (ws : List ℕ) (t k : ℕ) (f : Flow) (y : FlatFlow) (x : Meant) → f.place.phase ≡ Tasked k → Is (code_in room ws) (flow_in ws f.place f.vars y) x → y.box ≡ [] → Sound f → TaskedOk (moved_one t (broken x.frames x) (alone x)) → HeldBy room ws (failed_on room ws t f) y (moved_one t (broken x.frames x) (alone x))
unfolding failed_on then_runs found
failed_held room ws t k f y x e is empty s ok = go (task_in (statement_at ws f.place.here)) refl
  where
    F : List ℕ → ℕ → Option ℕ → Ways
    F vs = λ next way. Went (fails_to way f.place) vs []

    go : (m : Option Found) → task_in (statement_at ws f.place.here) ≡ m → HeldBy room ws (then_runs room ws t (found m (F f.vars))) y (moved_one t (broken x.frames x) (alone x))
    go None q = broken_in ws f.place (Err (record {})) (ap (λ (m : Option Found). found m (F [])) q) room k f.vars x y e is
    go (Some u) q =
        ran_held room ws t (fails_to u.way f.place) f.vars y (broken x.frames x) x (fails_into u.way f.place f.vars s.vars s.into) empty
        (broken_in ws f.place (Ok (fails_to u.way f.place)) (ap (λ (m : Option Found). found m (F [])) q) room k f.vars x y e is) ok

-- a try that went wrong ------------------------------------------------------------

same_task : (i s : ℕ) → (eqb i i && eqb s s) ≡ true
same_task i s = and_from _ _ (eq-eqb i i refl) (eq-eqb s s refl)

pub change_one : (g : Job → Job) (j : Job) → change (is_task j.flow j.step) g (j ∷ []) ≡ g j ∷ []
unfolding change
change_one g j = cond-true _ _ _ (same_task j.flow j.step)

pub keep_none : (j : Job) → keep (λ (u : Job). not (is_task j.flow j.step u)) (j ∷ []) ≡ []
unfolding keep
keep_none j = ap (λ (b : Bool). cond (not b) (j ∷ []) []) (same_task j.flow j.step)

pub wrong_at : (room : ℕ) (ws : List ℕ) (t : ℕ) (f : Flow) (y : FlatFlow) (o : One) (u : Task) → f.task ≡ Some u → (h : Holds room ws f y o)
    → TaskedOk (wrong_one t (job_of y.id (step_in f.place.phase) u) (pair h.x y.id (step_in f.place.phase) (Some u)))
    → HeldBy room ws (wrong_on room ws t f) y (wrong_one t (job_of y.id (step_in f.place.phase) u) (pair h.x y.id (step_in f.place.phase) (Some u)))
unfolding wrong_task fails_one phase_in
wrong_at room ws t f y o u e h ok =
    subst (λ (r : Result Flow Damaged). HeldBy room ws r y (wrong_one t j W)) (sym left)
    (subst (λ (q : One). HeldBy room ws (cond b (Ok (with_task (Some (again t u)) f)) (failed_on room ws t f)) y q) (sym right) (go b refl (subst TaskedOk right ok)))
  where
    x : Meant
    x = h.x

    i : ℕ
    i = y.id

    s : ℕ
    s = step_in f.place.phase

    j : Job
    j = job_of i s u

    W : One
    W = pair x i s (Some u)

    b : Bool
    b = ltb u.attempt u.tries

    agreed : Agree f.place.phase (Some u)
    agreed = subst (λ (m : Option Task). Agree f.place.phase m) e h.sound.task

    good : TaskOk u
    good = agreed_task f.place.phase u agreed

    k : ℕ
    k = (tasked_of f.place.phase u agreed).0

    at_k : f.place.phase ≡ Tasked k
    at_k = (tasked_of f.place.phase u agreed).1

    left : wrong_on room ws t f ≡ cond b (Ok (with_task (Some (again t u)) f)) (failed_on room ws t f)
    left = ap (wrong_task room ws t f) e ∙ cond-true _ _ _ (fair_ok u good)

    A : One
    A = record { flow = x ∷ []; task = again_job t j ∷ [] }

    B : One
    B = moved_one t (broken x.frames x) (alone x)

    right : wrong_one t j W ≡ cond b A B
    right = ap₂ (λ (c d : List Job). cond b (with_jobs c W) (fails_one t (x ∷ []) (with_jobs d W))) (change_one (again_job t) j) (keep_none j)

    go : (c : Bool) → b ≡ c → TaskedOk (cond c A B) → HeldBy room ws (cond c (Ok (with_task (Some (again t u)) f)) (failed_on room ws t f)) y (cond c A B)
    go true q kept =
        let bounds = kept x k refl (phase_is room ws f.place f.vars y x h.is ∙ ap (phase_in ws) at_k) in
        record {
          x = x;
          flow = refl;
          is = h.is;
          box = h.box;
          task = refl;
          sound = record {
            vars = h.sound.vars;
            into = h.sound.into;
            phase = h.sound.phase;
            task = subst (λ (p : Phase). Agree p (Some (again t u))) (sym at_k) (record { args = good.args; full = good.full; count = good.count; first = bounds.0.first; attempt = bounds.0.attempt; tries = good.tries; pause = good.pause; kind = good.kind });
          };
        }
    go false q kept = failed_held room ws t k f y x at_k h.is h.box h.sound kept

pub wrong_held : (room : ℕ) (ws : List ℕ) (t : ℕ) (f : Flow) → WrongAs room ws t f (wrong_on room ws t f)
wrong_held room ws t f j y o e h ok = go f.task refl
  where
    go : (m : Option Task) → f.task ≡ m → HeldBy room ws (wrong_on room ws t f) y (wrong_one t j o)
    go None q = let z : ◌≡◌ {A = ℕ} 0 1 = cc (h.task, e, ap (jobs_of y.id (step_in f.place.phase)) q) in absurd (omega arith)
    go (Some u) q =
        let n : job_of y.id (step_in f.place.phase) u ≡ j = cc (h.task, e, ap (jobs_of y.id (step_in f.place.phase)) q) in
        let eqn : o ≡ pair h.x y.id (step_in f.place.phase) (Some u) = holds_as room ws f y o (Some u) q h in
        let whole : wrong_one t j o ≡ wrong_one t (job_of y.id (step_in f.place.phase) u) (pair h.x y.id (step_in f.place.phase) (Some u)) = ap₂ (λ (a : Job) (b : One). wrong_one t a b) (sym n) eqn in
        subst (λ (p : One). HeldBy room ws (wrong_on room ws t f) y p) (sym whole) (wrong_at room ws t f y o u q h (λ z c a b. subst (λ (p : One). TasksOk p.task) whole ok))
