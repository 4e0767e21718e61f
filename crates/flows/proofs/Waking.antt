-- Nobody sleeps on.
use Rattle.std.proofs.Common.{◌≡◌, ℕ, ◌<◌, Bool, true, false, cond, not, ◌&&◌, T, eqb, ltb, leb, ◌⊎◌, List, [], ◌∷◌, ◌++◌, map, sym, refl, ap, ◌∙◌, subst, inl, inr, arith}
use mathlib.Core.List.{Memᴰ}
use Rattle.plans.specs.Plan.{Phase, Busy, Tasked, Asleep, Listens, Ended, Failed, Flow, Wish, Moved, goes_on, still, heard, moves, broken}
use Rattle.flows.specs.House.{Standing, Due, Out, Task, House, keep, find, change, is_flow, is_task, is_late, again, wished, step_of, ticks, timed, small, Tick, No, Yes, no, says, acts, does, is_tick}
use Rattle.flows.specs.One.{One, look, moved_one, fails_one, with_task, wrong_one, late_all, woken_one, woken_all, ticked_one, frames_ok}
use Rattle.flows.specs.Fine.{waits_task, Fine, absent, calm, tasked, Good}
use Rattle.flows.specs.Promise.{NobodySleepsOn, sleeps_on, late_on}
use Rattle.flows.proofs.Lists.{bool, same_head, not_nil}
use Rattle.flows.proofs.Asc.{asc_uniq}
use Rattle.flows.proofs.Moving.{Agrees, Moving, moves_moving}
use Rattle.flows.proofs.Sum.{ticks_look, ticks_now}
use Rattle.flows.proofs.Going.{goes_late, goes_on_lem, drop_self, change_self}
use Rattle.flows.proofs.Kept.{flow_at_lem, task_at_lem, run_good, does_onward, fine_flow}

-- who went on by himself, and waits by the clock, has begun a new step
sleepy : Phase → Bool
sleepy Busy = false
sleepy (Tasked s) = false
sleepy (Asleep u) = true
sleepy (Listens v w n u) = true
sleepy (Ended v) = false
sleepy Failed = false

agrees_sleepy : (base : ℕ) (p : Phase) (n : ℕ) (ws : List Wish) → Agrees base p n ws → sleepy p ≡ true → base < n
unfolding sleepy
agrees_sleepy base Busy n ws a e = let z : ◌≡◌ {A = ℕ} 0 1 = cc in absurd (omega arith)
agrees_sleepy base (Tasked s) n ws a e = let z : ◌≡◌ {A = ℕ} 0 1 = cc in absurd (omega arith)
agrees_sleepy base (Asleep u) n ws a e = a.1
agrees_sleepy base (Listens v w m u) n ws a e = a.1
agrees_sleepy base (Ended v) n ws a e = let z : ◌≡◌ {A = ℕ} 0 1 = cc in absurd (omega arith)
agrees_sleepy base Failed n ws a e = let z : ◌≡◌ {A = ℕ} 0 1 = cc in absurd (omega arith)

moved_awake : (now : ℕ) (x₀ x y : Flow) (o : One) → o.flow ≡ x₀ ∷ [] → Moving x₀.steps x₀ (still x) → (moved_one now x o).flow ≡ y ∷ [] → sleepy y.phase ≡ true → x₀.steps < y.steps
moved_awake now x₀ x y o e a k w =
    let m : Moved = moves 1000 now (still x) in
    let f1 : (moved_one now x o).flow ≡ m.flow ∷ [] = ap (λ (ys : List Flow). map (λ (z : Flow). m.flow) ys) e in
    let z : m.flow ≡ y = same_head _ _ (sym f1 ∙ k) in
    let b = moves_moving 1000 x₀.steps now x₀ (still x) a in
    subst (λ (f : Flow). x₀.steps < f.steps) z (agrees_sleepy x₀.steps m.flow.phase m.flow.steps m.wish b.agrees (ap (λ (f : Flow). sleepy f.phase) z ∙ w))

T_true : (b : Bool) → T b → b ≡ true
T_true true t = refl
T_true false t = absurd t

sleeper_wakes : (j now : ℕ) (x y : Flow) (o : One) → Fine j o → o.flow ≡ x ∷ [] → T (sleeps_on now x.phase) → (ticked_one now o).flow ≡ y ∷ [] → y.phase ≡ x.phase → x.steps < y.steps
unfolding late_all woken_all woken_one sleeps_on sleepy waits_task
sleeper_wakes j now x y o f e s k q = go x.phase refl s
  where
    fr : frames_ok x.frames ≡ true
    fr = (fine_flow j x o f e).1

    alone : waits_task x.phase ≡ false → ticked_one now o ≡ woken_one now x.phase x o
    alone w = let t = (fine_flow j x o f e).2 w in ap (λ (ts : List Task). woken_all now (late_all now ts o).flow (late_all now ts o)) t ∙ ap (λ (xs : List Flow). woken_all now xs o) e

    go : (p : Phase) → x.phase ≡ p → T (sleeps_on now p) → x.steps < y.steps
    go Busy c s' = absurd s'
    go (Tasked n) c s' = absurd s'
    go (Asleep u) c s' =
        let w : ticked_one now o ≡ moved_one now (goes_on x.frames x.vars x) o = alone (rw c refl) ∙ rw (c, T_true (leb u now) s') refl in
        moved_awake now x (goes_on x.frames x.vars x) y o e (goes_on_lem x.frames x.vars x fr) (ap (λ (p : One). p.flow) (sym w) ∙ k) (ap sleepy (q ∙ c))
    go (Listens v c' n u) c s' =
        let z : Flow = heard v c' 0 0 x.box x.frames x in
        let w : ticked_one now o ≡ moved_one now z o = alone (rw c refl) ∙ rw (c, T_true (leb u now) s') refl in
        moved_awake now x z y o e (record { id = refl; key = refl; size = refl; frames = fr; agrees = (refl, omega arith) }) (ap (λ (p : One). p.flow) (sym w) ∙ k) (ap sleepy (q ∙ c))
    go (Ended v) c s' = absurd s'
    go Failed c s' = absurd s'

-- no try is out for too long
abbrev Timely : ℕ → One → Type 0
Timely now o = (u : Task) → o.task ≡ u ∷ [] → is_late now u.standing ≡ false

wished_due : (late now i s : ℕ) (ws : List Wish) (u : Task) (us : List Task) → wished now i s ws ≡ u ∷ us → is_late late u.standing ≡ false
unfolding wished is_late
wished_due late now i s [] u us e = let z : ◌≡◌ {A = ℕ} 0 1 = cc in absurd (omega arith)
wished_due late now i s (w ∷ ws) u us e = let t : Task = record { flow = i; step = s; kind = w.kind; args = w.args; attempt = 1; tries = w.tries; pause = w.pause; standing = Due now } in let z : t ≡ u = cc in subst (λ (v : Task). is_late late v.standing ≡ false) z refl

moved_timely : (now : ℕ) (x : Flow) (o : One) → o.task ≡ [] → Timely now (moved_one now x o)
moved_timely now x o e u k = let m : Moved = moves 1000 now (still x) in wished_due now now x.id (step_of m.flow.phase) m.wish u [] (ap (λ (ts : List Task). ts ++ wished now x.id (step_of m.flow.phase) m.wish) (sym e) ∙ k)

fails_timely : (now : ℕ) (xs : List Flow) (o : One) → o.task ≡ [] → Timely now (fails_one now xs o)
unfolding fails_one
fails_timely now [] o e u k = not_nil _ u (sym e ∙ k)
fails_timely now (x ∷ xs) o e u k = moved_timely now (broken x.frames x) o e u k

wrong_timely : (now : ℕ) (t : Task) (o : One) → o.task ≡ t ∷ [] → Timely now (wrong_one now t o)
unfolding is_late
wrong_timely now t o e = go (ltb t.attempt t.tries)
  where
    p : Task → Bool
    p u = not (is_task t.flow t.step u)

    go : (b : Bool) → Timely now (cond b (with_task (change (is_task t.flow t.step) (again now) o.task) o) (fails_one now o.flow (with_task (keep p o.task) o)))
    go true u k = let z : again now t ≡ u = same_head _ _ (sym (ap (change (is_task t.flow t.step) (again now)) e ∙ change_self (again now) t) ∙ k) in subst (λ (v : Task). is_late now v.standing ≡ false) z refl
    go false u k = fails_timely now o.flow (with_task (keep p o.task) o) (ap (keep p) e ∙ drop_self t) u k

late_timely : (j now : ℕ) (o : One) → Fine j o → Timely now (late_all now o.task o)
unfolding late_all
late_timely j now o f = go f
  where
    none : o.task ≡ [] → Timely now (late_all now o.task o)
    none e = subst (λ (ts : List Task). Timely now (late_all now ts o)) (sym e) (λ u k. not_nil _ u (sym e ∙ k))

    one : (t : Task) → o.task ≡ t ∷ [] → (is_late now t.standing ≡ true) ⊎ (is_late now t.standing ≡ false) → Timely now (late_all now (t ∷ []) o)
    one t e (inl l) = rw l (wrong_timely now t o e)
    one t e (inr l) = rw l (λ u k. subst (λ (v : Task). is_late now v.standing ≡ false) (same_head _ _ (sym e ∙ k)) l)

    go : Fine j o → Timely now (late_all now o.task o)
    go (absent a b) = none b
    go (calm x a b p d e) = none b
    go (tasked x t s a b p d e g k m n q z) = subst (λ (ts : List Task). Timely now (late_all now ts o)) (sym b) (one t b (bool (is_late now t.standing)))

woken_timely : (j now : ℕ) (o : One) → Fine j o → Timely now o → Timely now (woken_all now o.flow o)
unfolding woken_all woken_one waits_task
woken_timely j now o f y = go f
  where
    at' : (xs : List Flow) → o.flow ≡ xs → Timely now (woken_all now xs o) → Timely now (woken_all now o.flow o)
    at' xs e g = subst (λ (ys : List Flow). Timely now (woken_all now ys o)) (sym e) g

    if : (b : Bool) (x : Flow) → o.task ≡ [] → Timely now (cond b (moved_one now x o) o)
    if true x e = moved_timely now x o e
    if false x e = y

    wake : (x : Flow) → o.task ≡ [] → (p : Phase) → Timely now (woken_one now p x o)
    wake x b Busy = moved_timely now x o b
    wake x b (Tasked s) = y
    wake x b (Asleep u) = if (leb u now) _ b
    wake x b (Listens v s n u) = if (leb u now) _ b
    wake x b (Ended v) = y
    wake x b Failed = y

    go : Fine j o → Timely now (woken_all now o.flow o)
    go (absent a b) = at' [] a y
    go (calm x a b c d e) = at' (x ∷ []) a (wake x b x.phase)
    go (tasked x t s a b p d e g k m n q z) = at' (x ∷ []) a (rw e y)

ticked_timely : (j now : ℕ) (o : One) → Fine j o → Timely now (ticked_one now o)
ticked_timely j now o f = woken_timely j now (late_all now o.task o) (goes_late j now o f).0 (late_timely j now o f)

late_on_lem : (now : ℕ) (d : Standing) → T (late_on now d) → is_late now d ≡ true
unfolding late_on is_late
late_on_lem now (Due a) t = absurd t
late_on_lem now (Out u) t = T_true (ltb u now) t

no_yes : (B : Type 0) (k : ℕ) → No k ≡ Yes → B
no_yes B k e = let z : ◌≡◌ {A = ℕ} 0 1 = cc in absurd (omega arith)

told_time : (h : House) (t : ℕ) → (does (Tick t) h).reply ≡ Yes → (does (Tick t) h).house ≡ ticks (timed t h)
unfolding acts is_tick
told_time h t = go (eqb h.now 0) (small t && ltb 0 t)
  where
    go : (b c : Bool) → (cond (b && false) (no 10 h) (cond c (says Yes (ticks (timed t h))) (no 1 h))).reply ≡ Yes → (cond (b && false) (no 10 h) (cond c (says Yes (ticks (timed t h))) (no 1 h))).house ≡ ticks (timed t h)
    go true true e = refl
    go true false e = no_yes _ 1 e
    go false true e = refl
    go false false e = no_yes _ 1 e

pub nobody_sleeps_on : NobodySleepsOn
nobody_sleeps_on h t r e = (awake, prompt)
  where
    a : Good h
    a = run_good h r

    g : House
    g = (does (Tick t) h).house

    b : Good g
    b = (does_onward (Tick t) h a).good

    H : House
    H = timed t h

    is : g ≡ ticks H
    is = told_time h t e

    nw : g.now ≡ H.now
    nw = ap (λ (k : House). k.now) is ∙ ticks_now H

    lk : (j : ℕ) → look j g ≡ ticked_one H.now (look j h)
    lk j = ap (look j) is ∙ ticks_look j H (asc_uniq h.next _ a.ids)

    awake : (x : Flow) → Memᴰ x h.flows → T (sleeps_on g.now x.phase) → (y : Flow) → Memᴰ y g.flows → y.id ≡ x.id → y.phase ≡ x.phase → x.steps ≡ y.steps → ⊥
    awake x m s y n i p q =
        let fy : (look x.id g).flow ≡ y ∷ [] = subst (λ (k : ℕ). find (is_flow k) g.flows ≡ y ∷ []) i (flow_at_lem g y b n) in
        let l : x.steps < y.steps = sleeper_wakes x.id H.now x y (look x.id h) (a.fine x.id) (flow_at_lem h x a m) (subst (λ (k : ℕ). T (sleeps_on k x.phase)) nw s) (ap (λ (o : One). o.flow) (sym (lk x.id)) ∙ fy) p in
        omega arith

    prompt : (u : Task) → Memᴰ u g.tasks → T (late_on g.now u.standing) → ⊥
    prompt u m s =
        let k = ticked_timely u.flow H.now (look u.flow h) (a.fine u.flow) u (ap (λ (o : One). o.task) (sym (lk u.flow)) ∙ task_at_lem g u b m) in
        let l = late_on_lem H.now u.standing (subst (λ (n : ℕ). T (late_on n u.standing)) nw s) in
        let w : true ≡ false = sym l ∙ k in
        let z : ◌≡◌ {A = ℕ} 0 1 = cc in omega arith
