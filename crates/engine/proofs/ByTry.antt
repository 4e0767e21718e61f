-- Longer and report. Assumes nothing.
use Rattle.std.proofs.Common.{◌≡◌, ℕ, ◌+◌, ◌%◌, ◌<◌, ◌≤◌, Bool, true, false, cond, List, [], ◌∷◌, length, Ok, Err, Result, sym, refl, ap, ◌∙◌, subst, inl, arith, eq-eqb}
use Rattle.plans.specs.declared.eval.Damaged.{Damaged}
use Rattle.flows.specs.One.{One}
use Rattle.runs.specs.Machine.{FlatFlow}
use Rattle.pages.specs.declared.flow.Flow.{Flow}
use Rattle.pages.specs.Sound.{Fits}
use Rattle.pages.specs.Holds.{Holds, HeldBy, TasksOk}
use Rattle.device.specs.Lines.{Lines, Work}
use Rattle.device.specs.Does.{bind}
use Rattle.store.specs.Layout.{slots, dir_words, id_at, Mind}
use Rattle.store.specs.Works.{load_plan}
use Rattle.store.specs.Shows.{Used}
use Rattle.engine.proofs.Stands.{who, Stands, stands_fallen, Ever, Carries, carries_said, plan_then, change_carries}
use Rattle.engine.proofs.Rules.{Rules}
use Rattle.plans.specs.Plan.{top}
use Rattle.flows.specs.House.{No, Yes, Task as Job, find, is_task, the_same}
use Rattle.flows.specs.One.{with_task, works_one, wrong_one}
use Rattle.flows.specs.Summed.{stands_one, reports_one, longer_one}
use Rattle.flows.specs.Seats.{Seats, Seated, put, answer, refuse, reports_task, longer_task, task_at}
use Rattle.pages.specs.Events.{Tried, tried_no_task, tried_not_out, tried_out}
use Rattle.pages.specs.Events.{handed_out, worked_on, wrong_on}
use Rattle.pages.specs.Holds.{tried_in}
use Rattle.pages.specs.Reports.{TryOut}
use Rattle.pages.proofs.Asked.{handed_held, tried_held}
use Rattle.pages.proofs.Means.{worked_held, wrong_held}
use Rattle.pages.proofs.Reports.{tries_stand}
use Rattle.engine.specs.Works.{room, Answer, said, lost, by_flow, by_tried, at_slot, id_slot, changes, tried_by, longer_flow, report_plan, report_flow}
use Rattle.engine.proofs.ByKey.{at_id}

-- what a try is, by the tasks that it is looked for in
data Found (a : ℕ) (l : List Job) : Tried → Type 0 where
  no_task_lem : l ≡ [] → Found a l tried_no_task
  not_out_lem : (t : Job) (ts : List Job) → l ≡ t ∷ ts → the_same a t ≡ false → Found a l tried_not_out
  is_out_lem : (t : Job) (ts : List Job) → l ≡ t ∷ ts → the_same a t ≡ true → Found a l tried_out

found : (a : ℕ) (l : List Job) → Found a l (tried_in a l)
found a [] = no_task_lem refl
found a (t ∷ ts) = go (the_same a t) refl
  where
    go : (b : Bool) → the_same a t ≡ b → Found a (t ∷ ts) (cond b tried_out tried_not_out)
    go true e = is_out_lem t ts refl e
    go false e = not_out_lem t ts refl e

put_here : (k : Seats) (i : ℕ) (o : One) → (put i o k).at i ≡ o
put_here k i o = ap (λ t. cond t o (k.at i)) (eq-eqb i i refl)

module _ {N : ℕ} {x : Mind} {k : Seats} {m : Lines} (big : 32768 ≤ N) (st : Stands N x k m) (long : length x.dir ≡ dir_words) (rules : Rules) where
  calm : (n : Seats) → Ever N k n m
  calm n o l = inl (stands_fallen N x k m o st l)

  longer_at : (s a ms i : ℕ) (u : Used x.page i) (l : List Job) → find (is_task (id_at x.dir i) s) (k.at i).task ≡ l → ms ≤ 86400000
      → (r : Tried) → tried_by s a (st.agrees.used i u).flow ≡ r → Found a l r
      → Carries N k (longer_task a ms i l k) (by_tried r (said (No 2) x) (said (No 5) x) (changes x i Yes (handed_out (x.now + ms) (st.agrees.used i u).flow))) m
  unfolding longer_task by_tried longer_one
  longer_at s a ms i u l e small r t (no_task_lem z) = subst (λ l. Carries N k (longer_task a ms i l k) (said (No 2) x) m) (sym z) (carries_said N x k m (No 2) (refuse 2 k) st long refl refl)
  longer_at s a ms i u l e small r t (not_out_lem j js z b) =
      subst (λ l. Carries N k (longer_task a ms i l k) (said (No 5) x) m) (sym z)
      (subst (λ b. Carries N k (cond b (answer Yes (put i (stands_one (k.now + ms) j (k.at i)) k)) (refuse 5 k)) (said (No 5) x) m) (sym b) (carries_said N x k m (No 5) (refuse 5 k) st long refl refl))
  longer_at s a ms i u l e small r t (is_out_lem j js z b) =
      subst (λ l. Carries N k (longer_task a ms i l k) w m) (sym z)
      (subst (λ b. Carries N k (cond b (answer Yes (put i (stands_one (k.now + ms) j (k.at i)) k)) (refuse 5 k)) w m) (sym b)
      (change_carries big st i u Yes (handed_out (x.now + ms) f) (stands_one (k.now + ms) j (k.at i)) long
      (subst (Holds room (st.plan i) (handed_out (x.now + ms) f) y) same (handed_held (x.now + ms) f room (st.plan i) out.job y (k.at i) out.task h))
      (rules.handed f (x.now + ms) (st.agrees.used i u).fits (let c = st.agrees.clock in omega arith))))
    where
      f : Flow
      f = (st.agrees.used i u).flow

      w : Work Answer
      w = changes x i Yes (handed_out (x.now + ms) f)

      y : FlatFlow
      y = who x.dir i

      h : Holds room (st.plan i) f (who x.dir i) (k.at i)
      h = (st.agrees.used i u).holds

      out : TryOut f (who x.dir i) (k.at i) s a
      out = tries_stand.out room (st.plan i) f (who x.dir i) (k.at i) s a h t

      same : stands_one (x.now + ms) out.job (k.at i) ≡ stands_one (k.now + ms) j (k.at i)
      same =
          sym (out.longer (x.now + ms)) ∙ ap (λ l. longer_one a (x.now + ms) l (k.at i)) (e ∙ z)
          ∙ ap (λ b. cond b (stands_one (x.now + ms) j (k.at i)) (k.at i)) b
          ∙ ap (λ n. stands_one (n + ms) j (k.at i)) (sym st.agrees.now)

  pub longer_carries : (j s a ms : ℕ) → ms ≤ 86400000 → Carries N k (task_at (longer_task a ms) j s k) (at_slot x (longer_flow s a ms x) (id_slot x j)) m
  unfolding longer_flow
  longer_carries j s a ms small =
      at_id big st long j (λ (i : ℕ) (l : Seats). longer_task a ms i (find (is_task j s) (l.at i).task) l) (longer_flow s a ms x)
      (λ i u id z.
      let f = (st.agrees.used i u).flow in
      let e : find (is_task (id_at x.dir i) s) (k.at i).task ≡ find (is_task j s) (k.at i).task = ap (λ n. find (is_task n s) (k.at i).task) id in
      let r = tried_held s a f room (st.plan i) (who x.dir i) (k.at i) (st.agrees.used i u).holds ∙ ap (tried_in a) e in
      longer_at s a ms i u (find (is_task j s) (k.at i).task) e small (tried_by s a f) refl (subst (Found a (find (is_task j s) (k.at i).task)) (sym r) (found a (find (is_task j s) (k.at i).task))))

  -- what came out of a plan's words is held; so it is no damage
  held_flow : (i : ℕ) (u : Used x.page i) (r : Result Flow Damaged) (o : One) → HeldBy room (st.plan i) r (who x.dir i) o
      → ((g : Flow) → r ≡ Ok g → Fits g) → Carries N k (answer Yes (put i o k)) (by_flow r (lost x) (changes x i Yes)) m
  unfolding by_flow
  held_flow i u (Ok g) o h fits = change_carries big st i u Yes g o long h (fits g refl)
  held_flow i u (Err e) o h fits = absurd h

  report_at : (s a : ℕ) (well : Bool) (v i : ℕ) (u : Used x.page i) (l : List Job) → find (is_task (id_at x.dir i) s) (k.at i).task ≡ l → v < top
      → ((j : ℕ) → j < slots → TasksOk ((reports_task a well v i l k).seats.at j).task)
      → (r : Tried) → tried_by s a (st.agrees.used i u).flow ≡ r → Found a l r
      → Carries N k (reports_task a well v i l k) (by_tried r (said (No 2) x) (said (No 5) x) (bind (load_plan x.lines x.dir i) (report_plan well v x i (st.agrees.used i u).flow))) m
  unfolding reports_task by_tried report_plan reports_one
  report_at s a well v i u l e small ok r t (no_task_lem z) = subst (λ l. Carries N k (reports_task a well v i l k) (said (No 2) x) m) (sym z) (carries_said N x k m (No 2) (refuse 2 k) st long refl refl)
  report_at s a well v i u l e small ok r t (not_out_lem j js z b) =
      subst (λ l. Carries N k (reports_task a well v i l k) (said (No 5) x) m) (sym z)
      (subst (λ b. Carries N k (cond b (answer Yes (put i (reports_one k.now a well v (j ∷ []) (k.at i)) k)) (refuse 5 k)) (said (No 5) x) m) (sym b) (carries_said N x k m (No 5) (refuse 5 k) st long refl refl))
  report_at s a well v i u l e small ok r t (is_out_lem j js z b) =
      subst (λ l. Carries N k (reports_task a well v i l k) (bind (load_plan x.lines x.dir i) (report_plan well v x i f)) m) (sym z)
      (subst (λ b. Carries N k (cond b (answer Yes (put i o1 k)) (refuse 5 k)) (bind (load_plan x.lines x.dir i) (report_plan well v x i f)) m) (sym b)
      (plan_then big st i u (report_plan well v x i f) (calm (put i o1 k))
      (subst (λ o. Carries N k (answer Yes (put i o k)) (report_plan well v x i f (st.plan i)) m) (sym same) (by well same))))
    where
      f : Flow
      f = (st.agrees.used i u).flow

      h : Holds room (st.plan i) f (who x.dir i) (k.at i)
      h = (st.agrees.used i u).holds

      out : TryOut f (who x.dir i) (k.at i) s a
      out = tries_stand.out room (st.plan i) f (who x.dir i) (k.at i) s a h t

      o1 : One
      o1 = reports_one k.now a well v (j ∷ []) (k.at i)

      over : v % top ≡ v
      over = omega arith

      now : k.now ≡ x.now
      now = st.agrees.now

      after : Bool → One
      after w = cond w (works_one x.now v (k.at i).flow (with_task [] (k.at i))) (wrong_one x.now out.job (k.at i))

      same : o1 ≡ after well
      same =
          ap (λ n. reports_one n a well v (j ∷ []) (k.at i)) now
          ∙ sym (ap (λ l. reports_one x.now a well v l (k.at i)) (e ∙ z))
          ∙ out.reports x.now v well
          ∙ ap (λ w. cond well (works_one x.now w (k.at i).flow (with_task [] (k.at i))) (wrong_one x.now out.job (k.at i))) over

      whole : (reports_task a well v i l k).seats.at i ≡ o1
      whole = ap (λ l. (reports_task a well v i l k).seats.at i) z ∙ ap (λ b. (cond b (answer Yes (put i o1 k)) (refuse 5 k)).seats.at i) b ∙ put_here k i o1

      good : TasksOk o1.task
      good = subst (λ (o : One). TasksOk o.task) whole (ok i u.0)

      few : length (st.plan i) ≤ 16384
      few = let q = (st.agrees.used i u).long in omega arith

      clock : x.now ≤ 4611686018427387904
      clock = let c = st.agrees.clock in omega arith

      by : (w : Bool) → o1 ≡ after w → Carries N k (answer Yes (put i (after w) k)) (by_flow (cond w (worked_on room (st.plan i) x.now v f) (wrong_on room (st.plan i) x.now f)) (lost x) (changes x i Yes)) m
      by true q =
          held_flow i u (worked_on room (st.plan i) x.now v f) (after true)
          (worked_held room (st.plan i) x.now v f s (who x.dir i) (k.at i) out.phase h (subst (λ (o : One). TasksOk o.task) q good))
          (λ g eq. rules.worked room (st.plan i) x.now v f g (st.agrees.used i u).small few clock small h.sound (st.agrees.used i u).fits eq)
      by false q =
          held_flow i u (wrong_on room (st.plan i) x.now f) (after false)
          (wrong_held room (st.plan i) x.now f out.job (who x.dir i) (k.at i) out.task h (subst (λ (o : One). TasksOk o.task) q good))
          (λ g eq. rules.wrong room (st.plan i) x.now f g (st.agrees.used i u).small few clock h.sound (st.agrees.used i u).fits eq)

  pub report_carries : (j s a : ℕ) (well : Bool) (v : ℕ) → v < top → ((i : ℕ) → i < slots → TasksOk ((task_at (reports_task a well v) j s k).seats.at i).task)
      → Carries N k (task_at (reports_task a well v) j s k) (at_slot x (report_flow s a well v x) (id_slot x j)) m
  unfolding report_flow
  report_carries j s a well v small ok =
      at_id big st long j (λ (i : ℕ) (l : Seats). reports_task a well v i (find (is_task j s) (l.at i).task) l) (report_flow s a well v x)
      (λ i u id z.
      let f = (st.agrees.used i u).flow in
      let e : find (is_task (id_at x.dir i) s) (k.at i).task ≡ find (is_task j s) (k.at i).task = ap (λ n. find (is_task n s) (k.at i).task) id in
      let r = tried_held s a f room (st.plan i) (who x.dir i) (k.at i) (st.agrees.used i u).holds ∙ ap (tried_in a) e in
      report_at s a well v i u (find (is_task j s) (k.at i).task) e small (λ n hn. subst (λ (q : Seated). TasksOk (q.seats.at n).task) (sym z) (ok n hn))
      (tried_by s a f) refl (subst (Found a (find (is_task j s) (k.at i).task)) (sym r) (found a (find (is_task j s) (k.at i).task))))
