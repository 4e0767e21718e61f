-- The promises.
use Rattle.std.proofs.Common.{◌≡◌, ℕ, ◌+◌, ◌%◌, ◌<◌, ◌≤◌, Bool, true, false, cond, not, ◌&&◌, ◌||◌, T, eqb, ltb, ◌⊎◌, List, [], ◌∷◌, length, sym, refl, ap, ◌∙◌, subst, inl, inr, arith}
use mathlib.Core.List.{Memᴰ}
use lib.Dec.{eqb_refl}
use Rattle.std.proofs.lemmas.Bool.Decides.{nat_tests}
use Rattle.plans.specs.Plan.{Phase, Tasked, Flow, top}
use Rattle.flows.specs.House.{Standing, Due, Out, Task, House, keep, find, change, first, is_flow, is_task, stands_as, is_out, is_due, wanted, the_same, with_tasks, works, hands_out, reports, Take, Report, No, Yes, Job, Nothing, no, acts, does, is_tick, went_wrong}
use Rattle.flows.specs.One.{of, One, look, with_task, works_one, frames_ok}
use Rattle.flows.specs.Fine.{waits_task, Fine, absent, calm, tasked, Later, After, Good}
use Rattle.flows.specs.Promise.{OneTask, NoLoose, TriesBounded, ResultOnce, HandedOnce, Handed, out, TakeChangesNoFlow, is_tasked}
use Rattle.flows.proofs.Lists.{bool, find_mem, keep_mem, keep_keep, keep_change_same, same_head, not_nil, eqb_same}
use Rattle.flows.proofs.Going.{fine_tries, goes_works, drop_self, change_self}
use Rattle.flows.proofs.Kept.{flow_at_lem, task_at_lem, first_mem, run_good, run_onward, does_onward, fine_flow, works_here, id_below}

-- TAKE changes no flow
hands_flows : (ms : ℕ) (ts : List Task) (h : House) → (hands_out ms ts h).house.flows ≡ h.flows
unfolding hands_out
hands_flows ms [] h = refl
hands_flows ms (t ∷ ts) h = refl

pub take_changes_no_flow : TakeChangesNoFlow
unfolding acts is_tick
take_changes_no_flow h ks ms = go (eqb h.now 0) (ltb 64 (length ks) || ltb 86400000 ms)
  where
    go : (b c : Bool) → (cond (b && true) (no 10 h) (cond c (no 1 h) (hands_out ms (first (keep (wanted h.now ks) h.tasks)) h))).house.flows ≡ h.flows
    go true c = refl
    go false true = refl
    go false false = hands_flows ms _ h

-- what is known of a task that stands in the house
pub record Known (h : House) (t : Task) : Type 0 where
  pub flow : Flow
  pub stands : find (is_flow t.flow) h.flows ≡ flow ∷ []
  pub waits : flow.phase ≡ Tasked t.step
  pub begun : t.step < flow.steps

pub known : (h : House) (t : Task) → Good h → Memᴰ t h.tasks → Known h t
known h t a m = go (a.fine t.flow)
  where
    e : keep (of t.flow) h.tasks ≡ t ∷ []
    e = task_at_lem h t a m

    go : Fine t.flow (look t.flow h) → Known h t
    go (absent p q) = not_nil _ t (sym q ∙ e)
    go (calm x p q r s u) = not_nil _ t (sym q ∙ e)
    go (tasked x t' s p q r b c d f g i k l) =
        let z : t' ≡ t = same_head _ _ (sym q ∙ e) in
        let w : s ≡ t.step = sym g ∙ ap (λ (u : Task). u.step) z in
        record { flow = x; stands = p; waits = c ∙ ap Tasked w; begun = subst (λ (n : ℕ). n < x.steps) w d }

pub tries_bounded : TriesBounded
tries_bounded h r t m = let b = fine_tries t.flow t (look t.flow h) ((run_good h r).fine t.flow) (task_at_lem h t (run_good h r) m) in (b.0, b.1)

pub no_loose : NoLoose
no_loose h r t m =
    let k = known h t (run_good h r) m in
    let f = find_mem (is_flow t.flow) h.flows k.flow [] k.stands in
    (k.flow, f.0, sym (eqb_same t.flow k.flow.id f.1))

pub one_task : OneTask
unfolding is_tasked waits_task
one_task h r x m = (has, needs')
  where
    a : Good h
    a = run_good h r

    fx : find (is_flow x.id) h.flows ≡ x ∷ []
    fx = flow_at_lem h x a m

    has : (t : Task) → Memᴰ t h.tasks → t.flow ≡ x.id → T (is_tasked t.step x.phase)
    has t n e =
        let k = known h t a n in
        let z : k.flow ≡ x = same_head _ _ (sym k.stands ∙ ap (λ (i : ℕ). find (is_flow i) h.flows) e ∙ fx) in
        subst (λ (p : Phase). T (is_tasked t.step p)) (sym k.waits ∙ ap (λ (y : Flow). y.phase) z) (eqb_refl t.step)

    needs' : (s : ℕ) → x.phase ≡ Tasked s → (t : Task) × Memᴰ t h.tasks × (t.flow ≡ x.id) × (t.step ≡ s)
    needs' s e = go (a.fine x.id)
      where
        go : Fine x.id (look x.id h) → (t : Task) × Memᴰ t h.tasks × (t.flow ≡ x.id) × (t.step ≡ s)
        go (absent p q) = not_nil _ x (sym p ∙ fx)
        go (calm y p q b c d) = let z : y ≡ x = same_head _ _ (sym p ∙ fx) in let w : false ≡ true = sym d ∙ ap (λ (f : Flow). waits_task f.phase) z ∙ ap waits_task e in let v : ◌≡◌ {A = ℕ} 0 1 = cc in absurd (omega arith)
        go (tasked y t s' p q b c d f g i k l n) =
            let z : y ≡ x = same_head _ _ (sym p ∙ fx) in
            let w : Tasked s' ≡ Tasked s = sym d ∙ ap (λ (f : Flow). f.phase) z ∙ e in
            let v : s' ≡ s = cc in
            (t, (keep_mem (of x.id) h.tasks t (rw q (Memᴰ.head refl))).0, g, i ∙ v)

-- A STEP GETS ONE GOOD RESULT
no_yes : (B : Type 0) (k : ℕ) → No k ≡ Yes → B
no_yes B k e = let z : ◌≡◌ {A = ℕ} 0 1 = cc in absurd (omega arith)

pub record Reported (h : House) (f s a : ℕ) (well : Bool) (v : ℕ) : Type 0 where
  pub task : Task
  pub stands : Memᴰ task h.tasks
  pub flow_is_lem : task.flow ≡ f
  pub step_is : task.step ≡ s
  pub house : (does (Report f s a well v) h).house ≡ cond well (works (v % top) (find (is_flow task.flow) h.flows) (with_tasks (keep (λ (u : Task). not (is_task task.flow task.step u)) h.tasks) h)) (went_wrong task h)

pub reported : (h : House) (f s a : ℕ) (well : Bool) (v : ℕ) → (does (Report f s a well v) h).reply ≡ Yes → Reported h f s a well v
unfolding acts is_tick reports
reported h f s a well v e = go (bool (eqb h.now 0)) (find (is_task f s) h.tasks) refl
  where
    go : (eqb h.now 0 ≡ true) ⊎ (eqb h.now 0 ≡ false) → (ts : List Task) → find (is_task f s) h.tasks ≡ ts → Reported h f s a well v
    go (inl n) ts q = no_yes _ 10 (rw n at e)
    go (inr n) [] q = no_yes _ 2 (rw (n, q) at e)
    go (inr n) (t ∷ ts) q = at (bool (the_same a t))
      where
        m : Memᴰ t h.tasks × (is_task f s t ≡ true) × (ts ≡ [])
        m = find_mem (is_task f s) h.tasks t ts q

        at : (the_same a t ≡ true) ⊎ (the_same a t ≡ false) → Reported h f s a well v
        at (inr z) = no_yes _ 5 (rw (n, q, z) at e)
        at (inl z) = let i : is_task f s t ≡ true = m.1 in record { task = t; stands = m.0; flow_is_lem = grind (arith, nat_tests); step_is = grind (arith, nat_tests); house = rw (n, q, z) refl }

-- step s of this flow is over
pub record Over (s : ℕ) (o : One) : Type 0 where
  pub flow : (x : Flow) → o.flow ≡ x ∷ [] → s < x.steps
  pub task : (t : Task) → o.task ≡ t ∷ [] → s < t.step

over_after : (s : ℕ) (o p : One) → Over s o → After o p → Over s p
over_after s o p a b = record { flow = λ y e. (let r = b.flow y e in let l = a.flow r.0 r.1 in omega (arith, r.3)); task = λ u e. at u (b.task u e) }
  where
    at : (u : Task) → ((x : Flow) × (o.flow ≡ x ∷ []) × (x.steps ≤ u.step)) ⊎ ((t : Task) × (o.task ≡ t ∷ []) × (t.step ≡ u.step) × Later t u) → s < u.step
    at u (inl r) = let l = a.flow r.0 r.1 in omega (arith, r.2)
    at u (inr r) = let l = a.task r.0 r.1 in rw (← r.2) l

-- after a good result the step is over
result_over : (h : House) (f s a v : ℕ) → Good h → (does (Report f s a true v) h).reply ≡ Yes → Over s (look f (does (Report f s a true v) h).house) × (f < h.next)
unfolding keep
result_over h f s a v g e = (over_after s o (look f (does (Report f s a true v) h).house) begun after, below)
  where
    r : Reported h f s a true v
    r = reported h f s a true v e

    t : Task
    t = r.task

    k : Known h t
    k = known h t g r.stands

    x : Flow
    x = k.flow

    full : One
    full = look t.flow h

    o : One
    o = with_task [] (look f h)

    p : Task → Bool
    p u = not (is_task t.flow t.step u)

    ft : find (is_flow f) h.flows ≡ x ∷ []
    ft = subst (λ (i : ℕ). find (is_flow i) h.flows ≡ x ∷ []) r.flow_is_lem k.stands

    begun : Over s o
    begun = record { flow = λ y q. (let z : x ≡ y = same_head _ _ (sym ft ∙ q) in subst (λ (w : Flow). s < w.steps) z (subst (λ (n : ℕ). n < x.steps) r.step_is k.begun)); task = λ u q. not_nil _ u q }

    fx : (x.id ≡ t.flow) × (frames_ok x.frames ≡ true) × (waits_task x.phase ≡ false → full.task ≡ [])
    fx = fine_flow t.flow x full (g.fine t.flow) k.stands

    dropped : keep p full.task ≡ []
    dropped = rw (task_at_lem h t g r.stands) (drop_self t)

    after₀ : After (with_task [] full) (works_one h.now (v % top) full.flow (with_task (keep p full.task) full))
    after₀ = (goes_works t.flow h.now (v % top) x (with_task [] full) (with_task (keep p full.task) full) k.stands k.stands dropped fx.0 fx.1).1

    after₁ : After (with_task [] full) (look t.flow (does (Report f s a true v) h).house)
    after₁ = subst (λ (q : One). After (with_task [] full) q) (sym (ap (look t.flow) r.house ∙ works_here (v % top) t.flow full.flow h.flows (with_tasks (keep p h.tasks) h) refl ∙ ap (λ (ts : List Task). works_one h.now (v % top) full.flow (with_task ts full)) (keep_keep (of t.flow) p h.tasks))) after₀

    after : After o (look f (does (Report f s a true v) h).house)
    after = subst (λ (i : ℕ). After (with_task [] (look i h)) (look i (does (Report f s a true v) h).house)) r.flow_is_lem after₁

    below : f < h.next
    below = subst (λ (i : ℕ). i < h.next) (fx.0 ∙ r.flow_is_lem) (id_below h x g (find_mem (is_flow f) h.flows x [] ft).0)

pub result_once : ResultOnce
result_once h g r f s a b v w e q e' =
    let h' : House = (does (Report f s a true v) h).house in
    let gh = run_good h r in
    let step1 = does_onward (Report f s a true v) h gh in
    let ov = result_over h f s a v gh e in
    let on = run_onward q step1.good in
    let after = on.after f (omega (arith, ov.1, step1.grows)) in
    let over = over_after s (look f h') (look f g) ov.0 after in
    let r2 = reported g f s b true w e' in
    let l : s < r2.task.step = over.task r2.task (subst (λ (i : ℕ). keep (of i) g.tasks ≡ r2.task ∷ []) r2.flow_is_lem (task_at_lem g r2.task on.good r2.stands)) in
    omega (arith, r2.step_is)

-- A TRY IS HANDED OUT ONCE
pub record Took (h : House) (ks : List ℕ) (ms f s a : ℕ) : Type 0 where
  pub task : Task
  pub stands : Memᴰ task h.tasks
  pub due : is_due h.now task.standing ≡ true
  pub flow_is_lem : task.flow ≡ f
  pub step_is : task.step ≡ s
  pub try_is : task.attempt ≡ a
  pub house : (does (Take ks ms) h).house ≡ with_tasks (change (is_task task.flow task.step) (stands_as (Out (h.now + ms))) h.tasks) h

no_job : (B : Type 0) (n f s a k : ℕ) (xs : List ℕ) → No n ≡ Job f s a k xs → B
no_job B n f s a k xs e = let z : ◌≡◌ {A = ℕ} 0 1 = cc in absurd (omega arith)

nothing_job : (B : Type 0) (f s a k : ℕ) (xs : List ℕ) → Nothing ≡ Job f s a k xs → B
nothing_job B f s a k xs e = let z : ◌≡◌ {A = ℕ} 0 1 = cc in absurd (omega arith)

pub took : (h : House) (ks : List ℕ) (ms f s a k : ℕ) (xs : List ℕ) → (does (Take ks ms) h).reply ≡ Job f s a k xs → Took h ks ms f s a
unfolding acts is_tick hands_out
took h ks ms f s a k xs e = go (bool (eqb h.now 0)) (bool (ltb 64 (length ks) || ltb 86400000 ms)) (first (keep (wanted h.now ks) h.tasks)) refl
  where
    go : (eqb h.now 0 ≡ true) ⊎ (eqb h.now 0 ≡ false) → ((ltb 64 (length ks) || ltb 86400000 ms) ≡ true) ⊎ ((ltb 64 (length ks) || ltb 86400000 ms) ≡ false) → (ts : List Task) → first (keep (wanted h.now ks) h.tasks) ≡ ts → Took h ks ms f s a
    go (inl n) c ts q = no_job _ 10 f s a k xs (rw n at e)
    go (inr n) (inl c) ts q = no_job _ 1 f s a k xs (rw (n, c) at e)
    go (inr n) (inr c) [] q = nothing_job _ f s a k xs (rw (n, c, q) at e)
    go (inr n) (inr c) (t ∷ ts) q =
        let j : Job t.flow t.step t.attempt t.kind t.args ≡ Job f s a k xs = rw (n, c, q) at e in
        let m = keep_mem (wanted h.now ks) h.tasks t (first_mem (keep (wanted h.now ks) h.tasks) t ts q) in
        let w : wanted h.now ks t ≡ true = m.1 in
        record { task = t; stands = m.0; due = grind arith; flow_is_lem = cc; step_is = cc; try_is = cc; house = rw (n, c, q) refl }

-- try a of step s was handed out
abbrev Since : ℕ → ℕ → Task → Type 0
Since s a u = (s < u.step) ⊎ ((u.step ≡ s) × ((a < u.attempt) ⊎ ((u.attempt ≡ a) × (is_out u.standing ≡ true))))

pub record Beyond (s a : ℕ) (o : One) : Type 0 where
  pub flow : (x : Flow) → o.flow ≡ x ∷ [] → s < x.steps
  pub task : (t : Task) → o.task ≡ t ∷ [] → Since s a t

since_later : (s a : ℕ) (t u : Task) → t.step ≡ u.step → Later t u → Since s a t → Since s a u
since_later s a t u e l (inl k) = inl (rw (← e) k)
since_later s a t u e (inl l) (inr (k, inl m)) = inr (sym e ∙ k, inl (omega arith))
since_later s a t u e (inr l) (inr (k, inl m)) = inr (sym e ∙ k, inl (rw (← l.0) m))
since_later s a t u e (inl l) (inr (k, inr m)) = inr (sym e ∙ k, inl (rw (← m.0) l))
since_later s a t u e (inr l) (inr (k, inr m)) = inr (sym e ∙ k, inr (sym l.0 ∙ m.0, l.1 m.1))

beyond_after : (s a : ℕ) (o p : One) → Beyond s a o → After o p → Beyond s a p
beyond_after s a o p b c = record { flow = λ y e. (let r = c.flow y e in let l = b.flow r.0 r.1 in omega (arith, r.3)); task = λ u e. at u (c.task u e) }
  where
    at : (u : Task) → ((x : Flow) × (o.flow ≡ x ∷ []) × (x.steps ≤ u.step)) ⊎ ((t : Task) × (o.task ≡ t ∷ []) × (t.step ≡ u.step) × Later t u) → Since s a u
    at u (inl r) = let l = b.flow r.0 r.1 in inl (omega (arith, r.2))
    at u (inr r) = since_later s a r.0 u r.2 r.3 (b.task r.0 r.1)

took_beyond : (h : House) (ks : List ℕ) (ms f s a : ℕ) → Good h → Took h ks ms f s a → Beyond s a (look f (does (Take ks ms) h).house) × (f < h.next)
unfolding is_out
took_beyond h ks ms f s a g r = (subst (λ (i : ℕ). Beyond s a (look i (does (Take ks ms) h).house)) r.flow_is_lem at, below)
  where
    t : Task
    t = r.task

    k : Known h t
    k = known h t g r.stands

    st : Task → Task
    st u = stands_as (Out (h.now + ms)) u

    g' : House
    g' = with_tasks (change (is_task t.flow t.step) st h.tasks) h

    ts : (look t.flow g').task ≡ st t ∷ []
    ts = keep_change_same (of t.flow) (is_task t.flow t.step) st h.tasks (λ v f. grind (arith, nat_tests)) (λ v f. grind (arith, nat_tests)) ∙ ap (change (is_task t.flow t.step) st) (task_at_lem h t g r.stands) ∙ change_self st t

    begun : s < k.flow.steps
    begun = subst (λ (n : ℕ). n < k.flow.steps) r.step_is k.begun

    at' : Beyond s a (look t.flow g')
    at' = record { flow = λ y q. subst (λ (x : Flow). s < x.steps) (same_head _ _ (sym k.stands ∙ q)) begun; task = λ u q. subst (Since s a) (same_head _ _ (sym ts ∙ q)) (inr (r.step_is, inr (r.try_is, refl))) }

    at : Beyond s a (look t.flow (does (Take ks ms) h).house)
    at = subst (λ (w : House). Beyond s a (look t.flow w)) (sym r.house) at'

    m : Memᴰ k.flow h.flows × (is_flow t.flow k.flow ≡ true) × (◌≡◌ {A = List Flow} [] [])
    m = find_mem (is_flow t.flow) h.flows k.flow [] k.stands

    below : f < h.next
    below = subst (λ (i : ℕ). i < h.next) (sym (eqb_same t.flow k.flow.id m.1) ∙ r.flow_is_lem) (id_below h k.flow g m.0)

due_not_out : (now : ℕ) (d : Standing) → is_due now d ≡ true → is_out d ≡ true → ⊥
unfolding is_due is_out
due_not_out now (Due x) e f = let z : ◌≡◌ {A = ℕ} 0 1 = cc in omega arith
due_not_out now (Out x) e f = let z : ◌≡◌ {A = ℕ} 0 1 = cc in omega arith

unhand : {h : House} {f s a : ℕ} → Handed h f s a → (ks : List ℕ) × (ms : ℕ) × Took h ks ms f s a
unhand {h} (out ks ms f s a k xs e) = (ks, ms, took h ks ms f s a k xs e)

pub handed_once : HandedOnce
handed_once h g r f s a ks ms k xs e q hd =
    let gh = run_good h r in
    let step1 = does_onward (Take ks ms) h gh in
    let b = took_beyond h ks ms f s a gh (took h ks ms f s a k xs e) in
    let on = run_onward q step1.good in
    let after = on.after f (omega (arith, b.1, step1.grows)) in
    let c = beyond_after s a (look f (does (Take ks ms) h).house) (look f g) b.0 after in
    let r2 = (unhand hd).2 in
    never r2.task r2.step_is r2.try_is r2.due (c.task r2.task (subst (λ (i : ℕ). keep (of i) g.tasks ≡ r2.task ∷ []) r2.flow_is_lem (task_at_lem g r2.task on.good r2.stands)))
  where
    never : (t : Task) → t.step ≡ s → t.attempt ≡ a → is_due g.now t.standing ≡ true → Since s a t → ⊥
    never t u v d (inl l) = omega arith
    never t u v d (inr (l, inl m)) = omega arith
    never t u v d (inr (l, inr m)) = due_not_out g.now t.standing d m.1
