-- What is asked of a flow with its task, and what changes it without its plan, as the house has it. Assumes nothing.
use Rattle.std.proofs.Common.{◌≡◌, ℕ, Bool, true, false, cond, ◌&&◌, ◌||◌, eqb, List, [], ◌∷◌, Some, None, Option, sym, refl, ap, ◌∙◌, subst, ap₂, arith}
use Rattle.std.proofs.lemmas.Bool.{eq-eqb}
use Rattle.plans.specs.Plan.{Failed as failed_p, ends}
use Rattle.flows.specs.House.{Task as Job, Out as out_job, step_of, stands_as as stands_job, some, find, is_task, is_out, is_over, is_due, wanted, due_at}
use Rattle.flows.specs.One.{One}
use Rattle.flows.specs.Summed.{stands_one, cancels_one}
use Rattle.runs.specs.declared.step.Phase.{Phase}
use Rattle.runs.specs.declared.step.Phase.TheVariants.{Busy, Tasked, Asleep, Listens, Ended, Failed}
use Rattle.runs.specs.Machine.{FlatFlow}
use Rattle.runs.specs.Decode.{code_in}
use Rattle.runs.specs.Steps.{ended_as}
use Rattle.runs.specs.Carried.{phase_in, flow_in}
use Rattle.runs.proofs.Told.{ends_alike}
use Rattle.pages.specs.declared.flow.Standing.{Standing}
use Rattle.pages.specs.declared.flow.Standing.TheVariants.{Due, Out}
use Rattle.pages.specs.declared.flow.Task.{Task}
use Rattle.pages.specs.declared.flow.Flow.{Flow}
use Rattle.pages.specs.Sound.{TaskOk, Agree}
use Rattle.pages.specs.Events.{stands_as, out_task, handed_out, due_for, one_of, wanted_task, due_since, due_task, step_in, out_now, tried_task, tried_no_task, tried_not_out, tried_out, over_in, cancelled_of}
use Rattle.pages.specs.Holds.{standing_of, job_of, jobs_of, Holds, HandedAs, WantedAs, DueAs, StepAs, tried_in, TriedAs, OverAs, CancelledAs}
use Rattle.pages.proofs.Codes.{agreed_task}
use Rattle.pages.proofs.Held.{phase_is}
use Rattle.pages.proofs.Means.{pair, holds_as, held_pair, tasked_of, change_one}

-- the task of a flow that has one
pub record Has (f : Flow) (i : ℕ) (j : Job) : Type 0 where
  pub u : Task
  pub is : f.task ≡ Some u
  pub job : j ≡ job_of i (step_in f.place.phase) u

has_one : (room : ℕ) (ws : List ℕ) (f : Flow) (y : FlatFlow) (o : One) (j : Job) → o.task ≡ j ∷ [] → Holds room ws f y o → Has f y.id j
has_one room ws f y o j e h = go f.task refl
  where
    go : (m : Option Task) → f.task ≡ m → Has f y.id j
    go None q = let z : ◌≡◌ {A = ℕ} 0 1 = cc (h.task, e, ap (jobs_of y.id (step_in f.place.phase)) q) in absurd (omega arith)
    go (Some u) q = record { u = u; is = q; job = cc (h.task, e, ap (jobs_of y.id (step_in f.place.phase)) q) }

-- handed out
pub handed_held : (until : ℕ) (f : Flow) → HandedAs until f (handed_out until f)
handed_held until f room ws j y o e h = subst (λ (p : One). Holds room ws (handed_out until f) y p) (sym whole) held
  where
    t : Has f y.id j
    t = has_one room ws f y o j e h

    u : Task
    u = t.u

    s : ℕ
    s = step_in f.place.phase

    new : One
    new = record { flow = h.x ∷ []; task = job_of y.id s (stands_as (Out until) u) ∷ [] }

    whole : stands_one until j o ≡ new
    whole =
        ap₂ (λ (a : Job) (p : One). stands_one until a p) t.job (holds_as room ws f y o (Some u) t.is h)
        ∙ ap (λ (l : List Job). record { flow = h.x ∷ []; task = l }) (change_one (stands_job (out_job until)) (job_of y.id s u))

    agreed : Agree f.place.phase (Some u)
    agreed = subst (λ (m : Option Task). Agree f.place.phase m) t.is h.sound.task

    good : TaskOk u
    good = agreed_task f.place.phase u agreed

    handed : out_task until f.task ≡ Some (stands_as (Out until) u)
    handed = ap (out_task until) t.is

    held : Holds room ws (handed_out until f) y new
    held = record {
      x = h.x;
      flow = refl;
      is = h.is;
      box = h.box;
      task = ap (jobs_of y.id s) (sym handed);
      sound = record {
        vars = h.sound.vars;
        into = h.sound.into;
        phase = h.sound.phase;
        task = subst (λ (m : Option Task). Agree f.place.phase m) (sym handed) (subst (λ (p : Phase). Agree p (Some (stands_as (Out until) u))) (sym (tasked_of f.place.phase u agreed).1) (record { args = good.args; full = good.full; count = good.count; first = good.first; attempt = good.attempt; tries = good.tries; pause = good.pause; kind = good.kind }));
      };
    }

-- wanted
one_some : (k : ℕ) (ks : List ℕ) → one_of k ks ≡ some (eqb k) ks
unfolding one_of some
one_some k [] = refl
one_some k (x ∷ xs) = go (eqb k x) (one_some k xs)
  where
    go : (b : Bool) → one_of k xs ≡ some (eqb k) xs → cond b true (one_of k xs) ≡ (b || some (eqb k) xs)
    go true h = refl
    go false h = h

due_is : (t : ℕ) (s : Standing) → due_for t s ≡ is_due t (standing_of s)
unfolding is_due
due_is t (Due a) = refl
due_is t (Out u) = refl

and_is : (b c : Bool) → cond b c false ≡ (b && c)
and_is true c = refl
and_is false c = refl

wanted_is : (t : ℕ) (ks : List ℕ) (i s : ℕ) (u : Task) → wanted_task t ks (Some u) ≡ wanted t ks (job_of i s u)
wanted_is t ks i s u = and_is (due_for t u.standing) (one_of u.kind ks) ∙ ap₂ (λ (a b : Bool). a && b) (due_is t u.standing) (one_some u.kind ks)

pub wanted_held : (t : ℕ) (ks : List ℕ) (f : Flow) → WantedAs t ks f (wanted_task t ks f.task)
wanted_held t ks f room ws y o h = (one, none)
  where
    one : (j : Job) → o.task ≡ j ∷ [] → wanted_task t ks f.task ≡ wanted t ks j
    one j e = let a = has_one room ws f y o j e h in ap (wanted_task t ks) a.is ∙ wanted_is t ks y.id (step_in f.place.phase) a.u ∙ ap (wanted t ks) (sym a.job)

    none : o.task ≡ [] → wanted_task t ks f.task ≡ false
    none e = go f.task refl
      where
        go : (m : Option Task) → f.task ≡ m → wanted_task t ks m ≡ false
        go None q = refl
        go (Some u) q = let z : ◌≡◌ {A = ℕ} 0 1 = cc (h.task, e, ap (jobs_of y.id (step_in f.place.phase)) q) in absurd (omega arith)

since_is : (s : Standing) → due_since s ≡ due_at (standing_of s)
unfolding due_at
since_is (Due a) = refl
since_is (Out u) = refl

pub due_held : (f : Flow) → DueAs f (due_task f.task)
due_held f room ws j y o e h = let a = has_one room ws f y o j e h in ap due_task a.is ∙ since_is a.u.standing ∙ ap (λ (t : Job). due_at t.standing) (sym a.job)

-- a try
pub out_is : (s : Standing) → out_now s ≡ is_out (standing_of s)
unfolding is_out
out_is (Due a) = refl
out_is (Out u) = refl

tried_is : (a i s k : ℕ) (u : Task) → tried_task s a k (Some u) ≡ tried_in a (find (is_task i s) (job_of i k u ∷ []))
unfolding find
tried_is a i s k u = go (eqb s k) ∙ ap (λ (b : Bool). tried_in a (cond (b && eqb s k) (job_of i k u ∷ []) [])) (sym (eq-eqb i i refl))
  where
    nested : (c d : Bool) → cond c (cond d tried_out tried_not_out) tried_not_out ≡ cond (c && d) tried_out tried_not_out
    nested true d = refl
    nested false d = refl

    go : (b : Bool) → cond b (cond (eqb a u.attempt) (cond (out_now u.standing) tried_out tried_not_out) tried_not_out) tried_no_task ≡ tried_in a (cond (true && b) (job_of i k u ∷ []) [])
    go true = nested (eqb a u.attempt) (out_now u.standing) ∙ ap (λ (d : Bool). cond (eqb a u.attempt && d) tried_out tried_not_out) (out_is u.standing)
    go false = refl

pub tried_held : (s a : ℕ) (f : Flow) → TriedAs s a f (tried_task s a (step_in f.place.phase) f.task)
unfolding find
tried_held s a f room ws y o h = go f.task ∙ ap (λ (l : List Job). tried_in a (find (is_task y.id s) l)) (sym h.task)
  where
    go : (m : Option Task) → tried_task s a (step_in f.place.phase) m ≡ tried_in a (find (is_task y.id s) (jobs_of y.id (step_in f.place.phase) m))
    go None = refl
    go (Some u) = tried_is a y.id s (step_in f.place.phase) u

-- its step
pub step_held : (p : Phase) → StepAs p (step_in p)
unfolding step_of phase_in
step_held Busy ws = refl
step_held (Tasked s) ws = refl
step_held (Asleep u) ws = refl
step_held (Listens v w n u) ws = refl
step_held (Ended v) ws = refl
step_held Failed ws = refl

-- over
pub over_held : (p : Phase) → OverAs p (over_in p)
unfolding is_over phase_in
over_held Busy ws = refl
over_held (Tasked s) ws = refl
over_held (Asleep u) ws = refl
over_held (Listens v w n u) ws = refl
over_held (Ended v) ws = refl
over_held Failed ws = refl

pub cancelled_held : (f : Flow) → CancelledAs f (cancelled_of f)
unfolding cancels_one phase_in
cancelled_held f room ws y o h = subst (λ (p : One). Holds room ws (cancelled_of f) y p) (sym whole) (go (over_in f.place.phase))
  where
    W : One
    W = pair h.x y.id (step_in f.place.phase) f.task

    off : One
    off = record { flow = ends failed_p h.x ∷ []; task = [] }

    g : Flow
    g = record { place = ended_as Failed f.place; vars = f.vars; task = None }

    whole : cancels_one o.flow o ≡ cond (over_in f.place.phase) W off
    whole =
        ap (λ (p : One). cancels_one p.flow p) (holds_as room ws f y o f.task refl h)
        ∙ ap (λ (b : Bool). cond b W off) (ap is_over (phase_is room ws f.place f.vars y h.x h.is) ∙ sym (over_held f.place.phase ws))

    go : (b : Bool) → Holds room ws (cond b f g) y (cond b W off)
    go true = held_pair room ws f y o f.task refl h
    go false = record { x = ends failed_p h.x; flow = refl; is = ends_alike (code_in room ws) (flow_in ws f.place f.vars y) h.x h.is; box = h.box; task = refl; sound = record { vars = h.sound.vars; into = h.sound.into; phase = tt; task = tt } }
