-- What the house does at a report, by what was found. Assumes nothing.
use Rattle.std.proofs.Common.{◌≡◌, ℕ, ◌%◌, Bool, true, false, cond, not, ◌&&◌, eqb, List, [], ◌∷◌, Some, None, Option, sym, refl, ap, ◌∙◌, subst, arith}
use Rattle.std.proofs.lemmas.Bool.{cond-true, cond-false, and_from, and_left, and_right, eq-eqb, eqb-true}
use Rattle.plans.specs.Plan.{top}
use Rattle.flows.specs.House.{Task as Job, find, keep, is_task, the_same}
use Rattle.flows.specs.One.{One, with_task as with_jobs, works_one, wrong_one}
use Rattle.flows.specs.Summed.{longer_one, reports_one}
use Rattle.runs.specs.declared.step.Phase.TheVariants.{Tasked}
use Rattle.runs.specs.Machine.{FlatFlow}
use Rattle.pages.specs.declared.flow.Task.{Task}
use Rattle.pages.specs.declared.flow.Flow.{Flow}
use Rattle.pages.specs.Sound.{TaskOk, Agree}
use Rattle.pages.specs.Events.{step_in, out_now, tried_task, tried_no_task, tried_not_out, tried_out}
use Rattle.pages.specs.Holds.{job_of, jobs_of, Holds, TasksOk}
use Rattle.pages.specs.Reports.{tried_of, TryOut, TryStays, Tries}
use Rattle.pages.proofs.Codes.{agreed_task}
use Rattle.pages.proofs.Means.{tasked_of, keep_none}
use Rattle.pages.proofs.Asked.{out_is}

-- the tests that an answer tells
out_tells : (b c d : Bool) → cond b (cond c (cond d tried_out tried_not_out) tried_not_out) tried_no_task ≡ tried_out → (b ≡ true) × (c ≡ true) × (d ≡ true)
out_tells true true true e = (refl, refl, refl)
out_tells true true false e = let z : ◌≡◌ {A = ℕ} 0 1 = cc in absurd (omega arith)
out_tells true false d e = let z : ◌≡◌ {A = ℕ} 0 1 = cc in absurd (omega arith)
out_tells false c d e = let z : ◌≡◌ {A = ℕ} 0 1 = cc in absurd (omega arith)

not_tells : (b c d : Bool) → cond b (cond c (cond d tried_out tried_not_out) tried_not_out) tried_no_task ≡ tried_not_out → (b ≡ true) × ((c && d) ≡ false)
not_tells true true true e = let z : ◌≡◌ {A = ℕ} 0 1 = cc in absurd (omega arith)
not_tells true true false e = (refl, refl)
not_tells true false d e = (refl, refl)
not_tells false c d e = let z : ◌≡◌ {A = ℕ} 0 1 = cc in absurd (omega arith)

no_tells : (b c d : Bool) → cond b (cond c (cond d tried_out tried_not_out) tried_not_out) tried_no_task ≡ tried_no_task → b ≡ false
no_tells true true true e = let z : ◌≡◌ {A = ℕ} 0 1 = cc in absurd (omega arith)
no_tells true true false e = let z : ◌≡◌ {A = ℕ} 0 1 = cc in absurd (omega arith)
no_tells true false d e = let z : ◌≡◌ {A = ℕ} 0 1 = cc in absurd (omega arith)
no_tells false c d e = refl

module _ (room : ℕ) (ws : List ℕ) (f : Flow) (y : FlatFlow) (o : One) (s a : ℕ) (h : Holds room ws f y o) where
  k : ℕ
  k = step_in f.place.phase

  job : Task → Job
  job u = job_of y.id k u

  jobs : (m : Option Task) → f.task ≡ m → o.task ≡ jobs_of y.id k m
  unfolding k
  jobs m e = h.task ∙ ap (jobs_of y.id (step_in f.place.phase)) e

  found : (u : Task) → f.task ≡ Some u → eqb s k ≡ true → find (is_task y.id s) o.task ≡ job u ∷ []
  unfolding find k job
  found u e b = ap (find (is_task y.id s)) (jobs (Some u) e) ∙ cond-true _ _ _ (and_from _ _ (eq-eqb y.id y.id refl) b)

  same : (u : Task) (c : Bool) → (eqb a u.attempt && out_now u.standing) ≡ c → the_same a (job u) ≡ c
  unfolding job k
  same u c e = ap (λ (d : Bool). eqb a u.attempt && d) (sym (out_is u.standing)) ∙ e

  reports_same : (u : Task) → f.task ≡ Some u → the_same a (job u) ≡ true → (t v : ℕ) (well : Bool) → reports_one t a well v (job u ∷ []) o ≡ cond well (works_one t (v % top) o.flow (with_jobs [] o)) (wrong_one t (job u) o)
  unfolding reports_one job k
  reports_same u e b t v well =
      cond-true _ _ _ b
      ∙ ap (λ (l : List Job). cond well (works_one t (v % top) o.flow (with_jobs l o)) (wrong_one t (job u) o)) (ap (keep (λ (w : Job). not (is_task y.id (step_in f.place.phase) w))) (jobs (Some u) e) ∙ keep_none (job u))

  out_at : (m : Option Task) → f.task ≡ m → tried_of s a f ≡ tried_out → TryOut f y o s a
  unfolding k longer_one job
  out_at None e q = let z : ◌≡◌ {A = ℕ} 0 1 = cc (ap (tried_task s a (step_in f.place.phase)) e, q) in absurd (omega arith)
  out_at (Some u) e q =
      let r = out_tells (eqb s k) (eqb a u.attempt) (out_now u.standing) (sym (ap (tried_task s a (step_in f.place.phase)) e) ∙ q) in
      let agreed : Agree f.place.phase (Some u) = subst (λ (m : Option Task). Agree f.place.phase m) e h.sound.task in
      let at_n : f.place.phase ≡ Tasked (tasked_of f.place.phase u agreed).0 = (tasked_of f.place.phase u agreed).1 in
      let n : (tasked_of f.place.phase u agreed).0 ≡ s = sym (ap step_in at_n) ∙ sym (eqb-true s (step_in f.place.phase) r.0) in
      let b : the_same a (job u) ≡ true = same u true (and_from _ _ r.1 r.2) in
      record {
        job = job u;
        phase = at_n ∙ ap Tasked n;
        task = jobs (Some u) e;
        reports = λ t v well. ap (λ (l : List Job). reports_one t a well v l o) (found u e r.0) ∙ reports_same u e b t v well;
        longer = λ until. ap (λ (l : List Job). longer_one a until l o) (found u e r.0) ∙ cond-true _ _ _ b;
      }

  not_at : (m : Option Task) → f.task ≡ m → tried_of s a f ≡ tried_not_out → TryStays y o s a
  unfolding k longer_one reports_one
  not_at None e q = let z : ◌≡◌ {A = ℕ} 0 1 = cc (ap (tried_task s a (step_in f.place.phase)) e, q) in absurd (omega arith)
  not_at (Some u) e q =
      let r = not_tells (eqb s k) (eqb a u.attempt) (out_now u.standing) (sym (ap (tried_task s a (step_in f.place.phase)) e) ∙ q) in
      let b : the_same a (job u) ≡ false = same u false r.1 in
      record {
        reports = λ t v well. ap (λ (l : List Job). reports_one t a well v l o) (found u e r.0) ∙ cond-false _ _ _ b;
        longer = λ until. ap (λ (l : List Job). longer_one a until l o) (found u e r.0) ∙ cond-false _ _ _ b;
      }

  no_at : (m : Option Task) → f.task ≡ m → tried_of s a f ≡ tried_no_task → find (is_task y.id s) o.task ≡ []
  unfolding k find
  no_at None e q = ap (find (is_task y.id s)) (jobs None e)
  no_at (Some u) e q =
      let b = no_tells (eqb s k) (eqb a u.attempt) (out_now u.standing) (sym (ap (tried_task s a (step_in f.place.phase)) e) ∙ q) in
      ap (find (is_task y.id s)) (jobs (Some u) e) ∙ cond-false _ _ _ (and_right (eqb y.id y.id) _ b)

  others_at : (i : ℕ) (m : Option Task) → f.task ≡ m → eqb i y.id ≡ false → find (is_task i s) o.task ≡ []
  unfolding k find
  others_at i None e q = ap (find (is_task i s)) (jobs None e)
  others_at i (Some u) e q = ap (find (is_task i s)) (jobs (Some u) e) ∙ cond-false _ _ _ (and_left (eqb i y.id) _ q)

  bounded_at : (m : Option Task) → f.task ≡ m → TasksOk o.task
  unfolding k
  bounded_at None e = subst TasksOk (sym (jobs None e)) tt
  bounded_at (Some u) e =
      let good : TaskOk u = agreed_task f.place.phase u (subst (λ (m : Option Task). Agree f.place.phase m) e h.sound.task) in
      subst TasksOk (sym (jobs (Some u) e)) (record { first = good.first; attempt = good.attempt; tries = good.tries; pause = good.pause; kind = good.kind }, tt)

pub tries_stand : Tries
tries_stand = record {
  out = λ room ws f y o s a h. out_at room ws f y o s a h f.task refl;
  not_out = λ room ws f y o s a h. not_at room ws f y o s a h f.task refl;
  no_task = λ room ws f y o s a h. no_at room ws f y o s a h f.task refl;
  others = λ room ws f y o i s h. others_at room ws f y o s 0 h i f.task refl;
  bounded = λ room ws f y o h. bounded_at room ws f y o 0 0 h f.task refl;
}
