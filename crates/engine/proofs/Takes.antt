-- Take. Assumes nothing.
use Rattle.std.proofs.Common.{◌≡◌, ℕ, suc, ◌+◌, ◌%◌, ◌<◌, ◌≤◌, Bool, true, false, cond, ◌&&◌, ◌||◌, eqb, ltb, ◌⊎◌, List, [], ◌∷◌, length, take, Some, None, Ok, Option, sym, refl, ap, ◌∙◌, subst, inl, inr, add-one, arith, eq-eqb, ne_eqb}
use Rattle.runs.specs.declared.step.Phase.{Phase}
use Rattle.runs.specs.declared.step.Phase.TheVariants as phases
use Rattle.flows.specs.One.{One}
use Rattle.pages.specs.declared.flow.Flow.{Flow}
use Rattle.pages.specs.Page.{damaged}
use Rattle.pages.specs.Sound.{TaskOk, Agree}
use Rattle.pages.specs.Holds.{Holds}
use Rattle.device.specs.Lines.{Lines, yields}
use Rattle.device.specs.Does.{bind}
use Rattle.device.specs.Safe.{Safe, s_end}
use Rattle.device.proofs.Safe.{safe_bind, safe_more}
use Rattle.store.specs.Layout.{dir_words, used_of, id_at, Mind}
use Rattle.store.specs.Shows.{Used}
use Rattle.engine.proofs.Stands.{who, Stands, stands_fallen, Ever, Carries, carries_said, open_then, change_carries}
use Rattle.engine.proofs.Rules.{Rules}
use Rattle.flows.specs.House.{Job, Nothing, Task as Todo, wanted, sooner, due_at}
use Rattle.flows.specs.Summed.{stands_one}
use Rattle.flows.specs.Seats.{Seats, Seated, put, answer, Found, sooned, better as betterFound, soonest, hands_seat}
use Rattle.pages.specs.declared.flow.Task.{Task}
use Rattle.pages.specs.Events.{handed_out, wanted_task, due_task, step_in}
use Rattle.pages.specs.Holds.{job_of as todoOf, tasks_of}
use Rattle.pages.proofs.Asked.{handed_held, wanted_held, due_held}
use Rattle.device.proofs.Loops.{safe_loop}
use Rattle.engine.specs.declared.take.Best.{Best}
use Rattle.engine.specs.Works.{room, said, lost, by_flow, by_task, by_best, at_flow, open_work, changes, better, Looking, if_good, look_flow, look_turn, job_of, hand_flow, take_end, take_work}
use Rattle.engine.proofs.Search.{used_or}

-- a task that is there is one of a phase that waits for it
task_ok : (p : Phase) (o : Option Task) (t : Task) → o ≡ Some t → Agree p o → TaskOk t
task_ok p None t e a = let z : ◌≡◌ {A = ℕ} 0 1 = cc in absurd (omega arith)
task_ok p (Some u) t e a = let q : u ≡ t = cc in subst TaskOk q (of p a)
  where
    of : (p : Phase) → Agree p (Some u) → TaskOk u
    of phases.Busy a = absurd a
    of (phases.Tasked s) a = a
    of (phases.Asleep v) a = absurd a
    of (phases.Listens v w n c) a = absurd a
    of (phases.Ended v) a = absurd a
    of phases.Failed a = absurd a

data Matches (x : Mind) (k : Seats) : Option Best → List Found → Type 0 where
  m_none : Matches x k None []
  m_some : (b : Best) (g : Found) → b.slot ≡ g.slot → b.due ≡ due_at g.task.standing → b.flow ≡ g.task.flow → Used x.page g.slot → (k.at g.slot).task ≡ g.task ∷ [] → Matches x k (Some b) (g ∷ [])

-- a slot's flow has a task or none
data Has (x : Mind) (i : ℕ) (f : Flow) (o : One) : Type 0 where
  has_none : f.task ≡ None → o.task ≡ [] → Has x i f o
  has_one : (u : Task) → f.task ≡ Some u → o.task ≡ todoOf (id_at x.dir i) (step_in f.place.phase) u ∷ [] → Has x i f o

has : (x : Mind) (i : ℕ) (ws : List ℕ) (f : Flow) (o : One) → Holds room ws f (who x.dir i) o → Has x i f o
has x i ws f o h = go f.task refl
  where
    go : (u : Option Task) → f.task ≡ u → Has x i f o
    go None e = has_none e (h.task ∙ ap (λ u. tasks_of (id_at x.dir i) (record { place = f.place; vars = f.vars; task = u })) e)
    go (Some u) e = has_one u e (h.task ∙ ap (λ u. tasks_of (id_at x.dir i) (record { place = f.place; vars = f.vars; task = u })) e)

module _ {N : ℕ} {x : Mind} {k : Seats} {m : Lines} (big : 32768 ≤ N) (st : Stands N x k m) (long : length x.dir ≡ dir_words) (rules : Rules) (ks : List ℕ) (ms : ℕ) (small : ms ≤ 86400000) where
  now : k.now ≡ x.now
  now = st.agrees.now

  -- the memory is as it was, and the best so far is the house's
  record Looked (i : ℕ) (a : Looking) (n : Lines) : Type 0 where
    pub here : n ≡ m
    pub found : Option Best
    pub good : a ≡ Ok found
    pub best : Matches x k found (soonest k.now ks i k.at)

  one_better : (i : ℕ) (u : Used x.page i) (t : Todo) (d : ℕ) (b : Option Best) (l : List Found) → (k.at i).task ≡ t ∷ [] → d ≡ due_at t.standing → t.flow ≡ id_at x.dir i
      → Matches x k b l → Matches x k (better i d (id_at x.dir i) b) (sooned i t l)
  unfolding better sooned
  one_better i u t d b l e due id m_none = m_some (record { slot = i; due = d; flow = id_at x.dir i }) (record { slot = i; task = t }) refl due (sym id) u e
  one_better i u t d b l e due id (m_some c g s1 s2 s3 s4 s5) =
      subst (λ v. Matches x k (cond v new (Some c)) (cond (sooner t g.task) (record { slot = i; task = t } ∷ []) (g ∷ []))) (sym same) (go (sooner t g.task))
    where
      new : Option Best
      new = Some (record { slot = i; due = d; flow = id_at x.dir i })

      same : (ltb d c.due || (eqb d c.due && ltb (id_at x.dir i) c.flow)) ≡ sooner t g.task
      same =
          ap (λ d. ltb d c.due || (eqb d c.due && ltb (id_at x.dir i) c.flow)) due
          ∙ ap (λ e. ltb (due_at t.standing) e || (eqb (due_at t.standing) e && ltb (id_at x.dir i) c.flow)) s2
          ∙ ap (λ e. ltb (due_at t.standing) (due_at g.task.standing) || (eqb (due_at t.standing) (due_at g.task.standing) && ltb (id_at x.dir i) e)) s3
          ∙ ap (λ e. ltb (due_at t.standing) (due_at g.task.standing) || (eqb (due_at t.standing) (due_at g.task.standing) && ltb e g.task.flow)) (sym id)

      go : (v : Bool) → Matches x k (cond v new (Some c)) (cond v (record { slot = i; task = t } ∷ []) (g ∷ []))
      go true = m_some (record { slot = i; due = d; flow = id_at x.dir i }) (record { slot = i; task = t }) refl due (sym id) u e
      go false = m_some c g s1 s2 s3 s4 s5

  looked_flow : (i : ℕ) (u : Used x.page i) (a : Option Best) (l : List Found) → Matches x k a l
      → Matches x k (look_flow ks x i a (st.agrees.used i u).flow) (betterFound k.now ks i (k.at i).task l)
  unfolding look_flow betterFound
  looked_flow i u a l b = go (has x i (st.plan i) f (k.at i) h)
    where
      f : Flow
      f = (st.agrees.used i u).flow

      h : Holds room (st.plan i) f (who x.dir i) (k.at i)
      h = (st.agrees.used i u).holds

      todo : Task → Todo
      todo t = todoOf (id_at x.dir i) (step_in f.place.phase) t

      b1 : Option Best
      b1 = better i (due_task f.task) (id_at x.dir i) a

      Fine : Bool → List Found → Type 0
      Fine v g = Matches x k (cond v b1 a) g

      go : Has x i f (k.at i) → Fine (wanted_task x.now ks f.task) (betterFound k.now ks i (k.at i).task l)
      go (has_none e z) =
          subst (λ v. Fine v (betterFound k.now ks i (k.at i).task l)) (sym ((wanted_held x.now ks f room (st.plan i) (who x.dir i) (k.at i) h).1 z))
          (subst (λ ts. Fine false (betterFound k.now ks i ts l)) (sym z) b)
      go (has_one t e z) =
          subst (λ ts. Fine (wanted_task x.now ks f.task) (betterFound k.now ks i ts l)) (sym z)
          (subst (λ v. Fine v (cond (wanted k.now ks (todo t)) (sooned i (todo t) l) l))
          (ap (λ n. wanted n ks (todo t)) now ∙ sym ((wanted_held x.now ks f room (st.plan i) (who x.dir i) (k.at i) h).0 (todo t) z))
          (by (wanted k.now ks (todo t))))
        where
          by : (v : Bool) → Fine v (cond v (sooned i (todo t) l) l)
          by true = one_better i u (todo t) (due_task f.task) a l z (due_held f room (st.plan i) (todo t) (who x.dir i) (k.at i) z h) refl b
          by false = b

  calm : (n : Seats) → Ever N k n m
  calm n o l = inl (stands_fallen N x k m o st l)

  turn : (l : Seats) (i : ℕ) (a : Looking) (n : Lines) → i < 1024 → Looked i a n → Safe N (λ b o. Looked (i + 1) b o) (λ o. Ever N k l o) (look_turn ks x i a) n
  unfolding look_turn by_flow if_good soonest betterFound
  turn l i a n hi w = subst (λ n. Safe N (λ b o. Looked (i + 1) b o) (λ o. Ever N k l o) (look_turn ks x i a) n) (sym w.here)
      (subst (λ a. Safe N (λ b o. Looked (i + 1) b o) (λ o. Ever N k l o) (look_turn ks x i a) m) (sym w.good) (go (used_or x.page i hi)))
    where
      next : soonest k.now ks (suc i) k.at ≡ soonest k.now ks (i + 1) k.at
      next = ap (λ j. soonest k.now ks j k.at) (sym (add-one i))

      ends : (b : Option Best) → Matches x k b (betterFound k.now ks i (k.at i).task (soonest k.now ks i k.at)) → Looked (i + 1) (Ok b) m
      ends b e = record { here = refl; found = b; good = refl; best = subst (Matches x k b) next e }

      go : Used x.page i ⊎ (used_of x.page i ≡ 0)
          → Safe N (λ b o. Looked (i + 1) b o) (λ o. Ever N k l o) (cond (eqb (used_of x.page i) 1) (bind (open_work x i) (λ r. yields (by_flow r damaged (λ f. if_good (Ok w.found) (λ b. look_flow ks x i b f))))) (yields (Ok w.found))) m
      go (inl u) =
          subst (λ v. Safe N (λ b o. Looked (i + 1) b o) (λ o. Ever N k l o) (cond v (bind (open_work x i) (λ r. yields (by_flow r damaged (λ f. if_good (Ok w.found) (λ b. look_flow ks x i b f))))) (yields (Ok w.found))) m) (sym (eq-eqb _ _ u.1))
          (open_then big st i u (λ r. yields (by_flow r damaged (λ f. if_good (Ok w.found) (λ b. look_flow ks x i b f)))) (calm l)
          (s_end (calm l) (ends _ (looked_flow i u w.found (soonest k.now ks i k.at) w.best))))
      go (inr z) =
          subst (λ v. Safe N (λ b o. Looked (i + 1) b o) (λ o. Ever N k l o) (cond v (bind (open_work x i) (λ r. yields (by_flow r damaged (λ f. if_good (Ok w.found) (λ b. look_flow ks x i b f))))) (yields (Ok w.found))) m) (sym (ne_eqb (used_of x.page i) 1 (λ e. omega arith)))
          (s_end (calm l) (ends w.found (subst (λ (o : One). Matches x k w.found (betterFound k.now ks i o.task (soonest k.now ks i k.at))) (sym (st.agrees.free i hi z)) w.best)))

  hand : (g : Found) (b : Best) → b.slot ≡ g.slot → Used x.page g.slot → (k.at g.slot).task ≡ g.task ∷ [] → Carries N k (hands_seat ms (g ∷ []) k) (at_flow x (hand_flow ms x) b.slot) m
  unfolding hands_seat at_flow by_flow hand_flow by_task
  hand g b e u z =
      subst (λ i. Carries N k (hands_seat ms (g ∷ []) k) (at_flow x (hand_flow ms x) i) m) (sym e)
      (open_then big st g.slot u (λ r. by_flow r (lost x) (hand_flow ms x g.slot)) (calm (hands_seat ms (g ∷ []) k).seats) (go (has x g.slot (st.plan g.slot) f (k.at g.slot) h)))
    where
      i : ℕ
      i = g.slot

      f : Flow
      f = (st.agrees.used g.slot u).flow

      h : Holds room (st.plan g.slot) f (who x.dir g.slot) (k.at g.slot)
      h = (st.agrees.used g.slot u).holds

      f2 : Flow
      f2 = handed_out (x.now + ms) f

      go : Has x g.slot f (k.at g.slot) → Carries N k (hands_seat ms (g ∷ []) k) (by_task f.task (lost x) (λ t. changes x g.slot (job_of x g.slot f t) f2)) m
      go (has_none q w) = let bad : ◌≡◌ {A = ℕ} 0 1 = cc in absurd (omega arith)
      go (has_one t q w) =
          subst (λ o. Carries N k (hands_seat ms (g ∷ []) k) (by_task o (lost x) (λ t. changes x g.slot (job_of x g.slot f t) f2)) m) (sym q)
          (subst (λ v. Carries N k (answer (Job v.flow v.step v.attempt v.kind v.args) (put i (stands_one (k.now + ms) v (k.at i)) k)) (changes x i (job_of x i f t) f2) m) same
          (subst (λ r. Carries N k (answer r (put i (stands_one (k.now + ms) todo (k.at i)) k)) (changes x i (job_of x i f t) f2) m) cut
          (change_carries big st i u (job_of x i f t) f2 (stands_one (k.now + ms) todo (k.at i)) long
          (subst (λ n. Holds room (st.plan i) f2 (who x.dir i) (stands_one (n + ms) todo (k.at i))) (sym now) (handed_held (x.now + ms) f room (st.plan i) todo (who x.dir i) (k.at i) w h))
          (rules.handed f (x.now + ms) (st.agrees.used i u).fits (let c = st.agrees.clock in omega arith)))))
        where
          fine : TaskOk t
          fine = task_ok f.place.phase f.task t q h.sound.task

          cut : job_of x i f t ≡ Job (id_at x.dir i) (step_in f.place.phase) t.attempt t.kind (take t.count t.args)
          cut =
              ap (λ a. Job (id_at x.dir i) (step_in f.place.phase) a (t.kind % 4294967296) (take t.count t.args)) {x = t.attempt % 65536} {y = t.attempt} (omega (arith, fine.attempt, fine.tries))
              ∙ ap (λ a. Job (id_at x.dir i) (step_in f.place.phase) t.attempt a (take t.count t.args)) {x = t.kind % 4294967296} {y = t.kind} (omega (arith, fine.kind))

          todo : Todo
          todo = todoOf (id_at x.dir i) (step_in f.place.phase) t

          same : todo ≡ g.task
          same = let p = sym w ∙ z in cc

  nothing_reply : Nothing ≡ (hands_seat ms [] k).reply
  unfolding hands_seat
  nothing_reply = refl

  nothing_seats : k ≡ (hands_seat ms [] k).seats
  unfolding hands_seat
  nothing_seats = refl

  pub take_carries : Carries N k (hands_seat ms (soonest k.now ks 1024 k.at) k) (take_work ks ms x) m
  unfolding take_work take_end by_best soonest
  take_carries =
      safe_bind (take_end ms x)
      (safe_more (λ a n e w. subst (λ n. Carries N k target (take_end ms x a) n) (sym w.here) (subst (λ a. Carries N k target (take_end ms x a) m) (sym w.good) (go w.found (soonest k.now ks 1024 k.at) w.best))) (λ n e. e)
      (safe_loop (look_turn ks x) 1024 Looked (λ o. Ever N k target.seats o) (λ i a n w. subst (Ever N k target.seats) (sym w.here) (calm target.seats)) (turn target.seats) 0 1024 (Ok None) m (omega arith)
      (record { here = refl; found = None; good = refl; best = m_none })))
    where
      target : Seated
      target = hands_seat ms (soonest k.now ks 1024 k.at) k

      go : (b : Option Best) (l : List Found) → Matches x k b l
          → Carries N k (hands_seat ms l k) (by_best b (said Nothing x) (λ b. at_flow x (hand_flow ms x) b.slot)) m
      go b l m_none = carries_said N x k m Nothing (hands_seat ms [] k) st long nothing_reply nothing_seats
      go b l (m_some c g s1 s2 s3 s4 s5) = hand g c s1 s4 s5
