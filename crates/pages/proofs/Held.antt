-- A run of a flow is the house's. Assumes nothing.
use Rattle.std.proofs.Common.{◌≡◌, ℕ, zero, suc, ◌+◌, ◌-◌, ◌≤◌, List, [], ◌∷◌, ◌++◌, length, get_or, sym, refl, ap, ◌∙◌, subst, inl, arith, length-append, length-take-le}
use Rattle.std.proofs.lemmas.Bool.{cond-true, cond-false, eq-eqb, ne_eqb}
use Rattle.plans.specs.Plan.{Flow as Meant, Wish as Wished, Moved, Busy as busy_p, Tasked as tasked_p, still, moves}
use Rattle.plans.specs.Eval.{look}
use Rattle.flows.specs.House.{Due as due_job, wished, step_of, given}
use Rattle.flows.specs.One.{One, settled_one, moved_one}
use Rattle.runs.specs.declared.step.Phase.{Phase}
use Rattle.runs.specs.declared.step.Phase.TheVariants.{Busy, Tasked, Asleep, Listens, Ended, Failed}
use Rattle.runs.specs.declared.step.Place.{Place}
use Rattle.runs.specs.Machine.{FlatFlow, Is}
use Rattle.runs.specs.Decode.{code_in, flat_at}
use Rattle.runs.specs.Steps.{at_first, fill, Out as Ways, Lost, Went, moves_w}
use Rattle.runs.specs.Carried.{phase_in, flow_in, Meets}
use Rattle.runs.proofs.Loops.{moves_on}
use Rattle.runs.proofs.Stands.{begins_alike}
use Rattle.pages.specs.Page.{zeros}
use Rattle.pages.specs.Sound.{TaskOk, Agree}
use Rattle.pages.specs.Events.{wish_task, task_from, settled, ran_on, first_vars, begun, step_in}
use Rattle.pages.specs.Holds.{jobs_of, HeldBy, TasksOk, new_of, alone, BeginsAs}
use Rattle.runs.proofs.Filled.{drop_zeros, fill_long, fill_take}
use Rattle.pages.proofs.Turns.{vars_filled}
use Rattle.pages.proofs.Good.{Wants, Good, GoodOut, moves_good}

-- what a place says of the meaning's flow
module _ (room : ℕ) (ws : List ℕ) (p : Place) (vs : List ℕ) (y : FlatFlow) (x : Meant) where
  pub id_is : Is (code_in room ws) (flow_in ws p vs y) x → x.id ≡ y.id
  id_is k = ap (λ (z : Meant). z.id) k.same

  pub phase_is : Is (code_in room ws) (flow_in ws p vs y) x → x.phase ≡ phase_in ws p.phase
  phase_is k = ap (λ (z : Meant). z.phase) k.same

pub step_is : (ws : List ℕ) (q : Phase) → step_of (phase_in ws q) ≡ step_in q
unfolding step_of phase_in
step_is ws Busy = refl
step_is ws (Tasked s) = refl
step_is ws (Asleep u) = refl
step_is ws (Listens v w n u) = refl
step_is ws (Ended v) = refl
step_is ws Failed = refl

-- wishes
wants_one : (p : Phase) (w : Wished) → Wants p (w ∷ []) → length w.args ≤ 16
wants_one Busy w k = absurd k
wants_one (Tasked s) w k = k
wants_one (Asleep u) w k = absurd k
wants_one (Listens v c n u) w k = absurd k
wants_one (Ended v) w k = absurd k
wants_one Failed w k = absurd k

wants_few : (p : Phase) (w v : Wished) (ws : List Wished) → Wants p (w ∷ v ∷ ws) → ⊥
wants_few Busy w v ws k = k
wants_few (Tasked s) w v ws k = k
wants_few (Asleep u) w v ws k = k
wants_few (Listens a c n u) w v ws k = k
wants_few (Ended a) w v ws k = k
wants_few Failed w v ws k = k

wished_jobs : (t i s : ℕ) (p : Phase) (w : List Wished) → Wants p w → wished t i s w ≡ jobs_of i s (task_from t w)
unfolding wished task_from
wished_jobs t i s p [] k = refl
wished_jobs t i s p (w ∷ []) k = ap (λ (a : List ℕ). record { flow = i; step = s; kind = w.kind; args = a; attempt = 1; tries = w.tries; pause = w.pause; standing = due_job t } ∷ []) (sym (fill_take w.args (wants_one p w k)))
wished_jobs t i s p (w ∷ v ∷ ws) k = absurd (wants_few p w v ws k)

wish_ok : (t i s : ℕ) (w : Wished) → length w.args ≤ 16 → TasksOk (wished t i s (w ∷ [])) → TaskOk (wish_task t w)
unfolding wished
wish_ok t i s w l h = record { args = ap fill (sym (fill_take w.args l)); full = fill_long w.args; count = l; first = omega arith; attempt = h.0.attempt; tries = h.0.tries; pause = h.0.pause; kind = h.0.kind }

agree_from : (t i s : ℕ) (p : Phase) (w : List Wished) → Wants p w → ((k : ℕ) → p ≡ Tasked k → TasksOk (wished t i s w)) → Agree p (task_from t w)
unfolding task_from
agree_from t i s Busy [] k h = tt
agree_from t i s Busy (w ∷ ws) k h = k
agree_from t i s (Tasked a) [] k h = k
agree_from t i s (Tasked a) (w ∷ []) k h = wish_ok t i s w k (h a refl)
agree_from t i s (Tasked a) (w ∷ v ∷ ws) k h = absurd k
agree_from t i s (Asleep a) [] k h = tt
agree_from t i s (Asleep a) (w ∷ ws) k h = k
agree_from t i s (Listens a c n u) [] k h = tt
agree_from t i s (Listens a c n u) (w ∷ ws) k h = k
agree_from t i s (Ended a) [] k h = tt
agree_from t i s (Ended a) (w ∷ ws) k h = k
agree_from t i s Failed [] k h = tt
agree_from t i s Failed (w ∷ ws) k h = k

-- the bounds, where it waits for a task
abbrev pub TaskedOk : One → Type 0
TaskedOk o = (x : Meant) (k : ℕ) → o.flow ≡ x ∷ [] → x.phase ≡ tasked_p k → TasksOk o.task

pub ran_held : (room : ℕ) (ws : List ℕ) (t : ℕ) (p : Place) (vs : List ℕ) (y : FlatFlow) (x z : Meant) → Good p vs [] → y.box ≡ [] → Is (code_in room ws) (flow_in ws p vs y) x → TaskedOk (moved_one t x (alone z)) → HeldBy room ws (ran_on room ws t p vs) y (moved_one t x (alone z))
unfolding settled phase_in
ran_held room ws t p vs y x z g empty k ok = go (moves_w room ws t 1000 p vs) (moves_on room ws t 1000 p vs y x g.vars (inl empty) k) (moves_good room ws t 1000 p vs g)
  where
    m : Moved
    m = moves 1000 t (still x)

    go : (o : Ways) → Meets room ws y o m → GoodOut o → HeldBy room ws (settled t o) y (settled_one t x.id m (alone z))
    go Lost h b = h
    go (Went q us w) h b =
        let i : x.id ≡ y.id = id_is room ws p vs y x k in
        let ph : m.flow.phase ≡ phase_in ws q.phase = phase_is room ws q us y m.flow h.flow in
        let s : step_of m.flow.phase ≡ step_in q.phase = ap step_of ph ∙ step_is ws q.phase in
        let e : wished t x.id (step_of m.flow.phase) m.wish ≡ wished t y.id (step_in q.phase) w = λ j. wished t (i j) (s j) (h.wish j) in
        record {
          x = m.flow;
          flow = refl;
          is = h.flow;
          box = empty;
          task = e ∙ wished_jobs t y.id (step_in q.phase) q.phase w b.wants;
          sound = record { vars = b.vars; into = b.into; phase = b.phase; task = agree_from t y.id (step_in q.phase) q.phase w b.wants (λ n r. subst TasksOk e (ok m.flow n refl (ph ∙ ap (phase_in ws) r))) };
        }

-- a new flow's variables
given_at : (xs : List ℕ) (k j : ℕ) → given k xs (k + j) ≡ get_or xs j 0
unfolding given
given_at [] k zero = refl
given_at [] k (suc j) = refl
given_at (x ∷ xs) k zero = cond-true _ _ _ (eq-eqb (k + 0) k (omega arith))
given_at (x ∷ xs) k (suc j) =
    let e : k + suc j ≡ suc k + j = omega arith in
    cond-false _ _ _ (ne_eqb (k + suc j) k (λ q. omega arith)) ∙ ap (given (suc k) xs) e ∙ given_at xs (suc k) j

zeros_at : (n v : ℕ) → get_or (zeros n) v 0 ≡ 0
zeros_at zero zero = refl
zeros_at zero (suc v) = refl
zeros_at (suc n) zero = refl
zeros_at (suc n) (suc v) = zeros_at n v

padded_at : (xs : List ℕ) (n v : ℕ) → get_or (xs ++ zeros n) v 0 ≡ get_or xs v 0
padded_at [] n zero = zeros_at n 0
padded_at [] n (suc v) = zeros_at n (suc v)
padded_at (x ∷ xs) n zero = refl
padded_at (x ∷ xs) n (suc v) = padded_at xs n v

given_look : (xs : List ℕ) → length xs ≤ 64 → given 0 xs ≡ look (first_vars xs)
given_look xs h = λ i v. at v i
  where
    at : (v : ℕ) → given 0 xs v ≡ get_or (first_vars xs) v 0
    at v =
        let z : v ≡ 0 + v = omega arith in
        ap (given 0 xs) z ∙ given_at xs 0 v ∙ sym (padded_at xs (64 - length xs) v)
        ∙ ap (λ (l : List ℕ). get_or l v 0) (ap (λ (l : List ℕ). xs ++ l) (sym (drop_zeros (length xs) 64)) ∙ vars_filled xs h)

first_long : (xs : List ℕ) → length (first_vars xs) ≡ 64
unfolding first_vars
first_long xs = length-take-le 64 (xs ++ zeros 64) (omega (arith, length-append xs (zeros 64)))

pub begun_held : (room : ℕ) (ws xs : List ℕ) (t : ℕ) → length xs ≤ 64 → BeginsAs room ws xs t (begun room ws xs t)
unfolding phase_in
begun_held room ws xs t h b y e ok fits empty size kept =
    ran_held room ws t at_first (first_vars xs) y (new_of b xs y) (new_of b xs y) (record { vars = first_long xs; into = omega arith; phase = tt; wants = tt }) empty is (λ x k f q. kept)
  where
    same : flat_at 0 (new_of b xs y) ≡ flow_in ws at_first (first_vars xs) y
    same = λ i. record { id = y.id; key = y.key; phase = busy_p; here = 0; vars = given_look xs h i; steps = 0; into = 0; box = sym empty i; size = sym size i }

    is : Is (code_in room ws) (flow_in ws at_first (first_vars xs) y) (new_of b xs y)
    is = subst (λ (f : FlatFlow). Is (code_in room ws) f (new_of b xs y)) same (subst (λ (l : List ℕ). Is (code_in room l) (flat_at 0 (new_of b xs y)) (new_of b xs y)) (sym e) (begins_alike b room (new_of b xs y) ok fits refl refl))
