-- One flow goes on well.
use Rattle.std.proofs.Common.{◌≡◌, ℕ, ◌<◌, ◌≤◌, Bool, true, false, cond, not, ltb, leb, ◌⊎◌, List, [], ◌∷◌, map, sym, refl, ap, ◌∙◌, subst, inl, inr, arith}
use Rattle.std.proofs.lemmas.Bool.Decides.{nat_tests}
use Rattle.plans.specs.Plan.{Frame, Phase, Busy, Tasked, Asleep, Listens, Ended, Failed, Flow, Wish, Moved, at, goes_on, still, broken, heard, moves}
use Rattle.flows.specs.House.{Due, Out, Task, keep, change, is_task, wished, step_of, again, stands_as, is_late, is_out}
use Rattle.flows.specs.One.{One, moved_one, fails_one, with_task, wrong_one, works_one, late_all, woken_one, woken_all, ticked_one, frames_ok}
use Rattle.flows.specs.Fine.{waits_task, AsksOf, Fine, absent, calm, tasked, Later, After, Goes}
use Rattle.flows.proofs.Lists.{bool, same_head, not_nil, eqb_self}
use Rattle.flows.proofs.Moving.{Agrees, Moving, broken_moving, moves_moving}

pub after_refl : (o : One) → After o o
after_refl o = record { flow = λ y e. (y, e, refl, omega arith); task = λ u e. inr (u, e, refl, inr (refl, λ k. k)) }

later_trans : (t u v : Task) → Later t u → Later u v → Later t v
later_trans t u v (inl a) (inl b) = inl (omega arith)
later_trans t u v (inl a) (inr b) = inl (rw (← b.0) a)
later_trans t u v (inr a) (inl b) = inl (rw a.0 b)
later_trans t u v (inr a) (inr b) = inr (a.0 ∙ b.0, λ k. b.1 (a.1 k))

pub after_trans : (o p q : One) → After o p → After p q → After o q
after_trans o p q a b = record { flow = fl; task = ta }
  where
    fl : (y : Flow) → q.flow ≡ y ∷ [] → (x : Flow) × (o.flow ≡ x ∷ []) × (x.key ≡ y.key) × (x.steps ≤ y.steps)
    fl z e =
        let m = b.flow z e in
        let n = a.flow m.0 m.1 in
        (n.0, n.1, n.2 ∙ m.2, omega (arith, m.3, n.3))

    R : Task → Type 0
    R u = ((x : Flow) × (o.flow ≡ x ∷ []) × (x.steps ≤ u.step)) ⊎ ((t : Task) × (o.task ≡ t ∷ []) × (t.step ≡ u.step) × Later t u)

    on : (u v : Task) → u.step ≡ v.step → Later u v → R u → R v
    on u v s l (inl r) = inl (r.0, r.1, rw (← s) r.2)
    on u v s l (inr r) = inr (r.0, r.1, r.2 ∙ s, later_trans r.0 u v r.3 l)

    from : (v : Task) → ((y : Flow) × (p.flow ≡ y ∷ []) × (y.steps ≤ v.step)) ⊎ ((u : Task) × (p.task ≡ u ∷ []) × (u.step ≡ v.step) × Later u v) → R v
    from v (inl r) = let n = a.flow r.0 r.1 in inl (n.0, n.1, omega (arith, n.3, r.2))
    from v (inr r) = on r.0 v r.2 r.3 (a.task r.0 r.1)

    ta : (u : Task) → q.task ≡ u ∷ [] → R u
    ta v e = from v (b.task v e)

pub goes_refl : (j : ℕ) (o : One) → Fine j o → Goes j o o
goes_refl j o f = (f, after_refl o)

pub goes_at : (j : ℕ) (o p q : One) → q ≡ p → Goes j o p → Goes j o q
goes_at j o p q e g = rw e g

-- a flow that goes on by itself, its task gone, if it had one
pub goes_moved : (j now : ℕ) (x₀ x : Flow) (o p : One) → o.flow ≡ x₀ ∷ [] → p.flow ≡ x₀ ∷ [] → p.task ≡ [] → x₀.id ≡ j → Moving x₀.steps x₀ (still x) → Goes j o (moved_one now x p)
unfolding wished waits_task step_of
goes_moved j now x₀ x o p eo ef et ej a = go m.flow.phase refl b.agrees
  where
    m : Moved
    m = moves 1000 now (still x)

    b : Moving x₀.steps x₀ m
    b = moves_moving 1000 x₀.steps now x₀ (still x) a

    r : One
    r = moved_one now x p

    f1 : r.flow ≡ m.flow ∷ []
    f1 = ap (λ (ys : List Flow). map (λ (y : Flow). m.flow) ys) ef

    t1 : r.task ≡ wished now x.id (step_of m.flow.phase) m.wish
    t1 = rw et refl

    fl : x₀.steps ≤ m.flow.steps → (y : Flow) → r.flow ≡ y ∷ [] → (z : Flow) × (o.flow ≡ z ∷ []) × (z.key ≡ y.key) × (z.steps ≤ y.steps)
    fl l y e = let q : m.flow ≡ y = same_head _ _ (sym f1 ∙ e) in (x₀, eo, sym b.key ∙ ap (λ (z : Flow). z.key) q, subst (λ (z : Flow). x₀.steps ≤ z.steps) q l)

    rests : waits_task m.flow.phase ≡ false → m.wish ≡ [] → x₀.steps ≤ m.flow.steps → Goes j o r
    rests w e l =
        let t2 : r.task ≡ [] = t1 ∙ rw e refl in
        (calm m.flow f1 t2 (b.id ∙ ej) b.frames w, record { flow = fl l; task = λ u k. not_nil _ u (sym t2 ∙ k) })

    go : (ph : Phase) → m.flow.phase ≡ ph → Agrees x₀.steps ph m.flow.steps m.wish → Goes j o r
    go Busy e g = rests (rw e refl) g.0 g.1
    go (Tasked s) e g =
        let w : Wish = g.0 in
        let t : Task = record { flow = x.id; step = s; kind = w.kind; args = w.args; attempt = 1; tries = w.tries; pause = w.pause; standing = Due now } in
        let t2 : r.task ≡ t ∷ [] = t1 ∙ rw (g.1, e) refl in
        let l : x₀.steps ≤ m.flow.steps = omega (arith, g.2, g.3) in
        let lu : (u : Task) → t ≡ u → x₀.steps ≤ u.step = λ u q. subst (λ (z : Task). x₀.steps ≤ z.step) q g.3 in
        (tasked m.flow t s f1 t2 (b.id ∙ ej) b.frames e g.2 (a.id ∙ ej) refl (omega arith) g.4 g.5, record { flow = fl l; task = λ u k. inl (x₀, eo, lu u (same_head _ _ (sym t2 ∙ k))) })
    go (Asleep u) e g = rests (rw e refl) g.0 (omega (arith, g.1))
    go (Listens v w n u) e g = rests (rw e refl) g.0 (omega (arith, g.1))
    go (Ended v) e g = rests (rw e refl) g.0 g.1
    go Failed e g = rests (rw e refl) g.0 g.1

task_self : (t : Task) → is_task t.flow t.step t ≡ true
task_self t = rw (eqb_self t.flow, eqb_self t.step) refl

pub change_self : (g : Task → Task) (t : Task) → change (is_task t.flow t.step) g (t ∷ []) ≡ g t ∷ []
unfolding change
change_self g t = rw (task_self t) refl

pub drop_self : (t : Task) → keep (λ (u : Task). not (is_task t.flow t.step u)) (t ∷ []) ≡ []
unfolding keep
drop_self t = rw (task_self t) refl

pub goes_on_lem : (f : List Frame) (v : ℕ → ℕ) (x : Flow) → frames_ok f ≡ true → Moving x.steps x (still (goes_on f v x))
goes_on_lem f v x k = record { id = refl; key = refl; size = refl; frames = k; agrees = (refl, omega arith) }

pub goes_fails : (j now : ℕ) (x : Flow) (o p : One) → o.flow ≡ x ∷ [] → p.flow ≡ x ∷ [] → p.task ≡ [] → x.id ≡ j → frames_ok x.frames ≡ true → Goes j o (fails_one now p.flow p)
unfolding fails_one
goes_fails j now x o p eo ef et ej k = subst (λ (xs : List Flow). Goes j o (fails_one now xs p)) (sym ef) (goes_moved j now x (broken x.frames x) o p eo ef et ej (broken_moving x.steps x.frames x k (omega arith)))

pub goes_works : (j now v : ℕ) (x : Flow) (o p : One) → o.flow ≡ x ∷ [] → p.flow ≡ x ∷ [] → p.task ≡ [] → x.id ≡ j → frames_ok x.frames ≡ true → Goes j o (works_one now v p.flow p)
unfolding works_one
goes_works j now v x o p eo ef et ej k = subst (λ (xs : List Flow). Goes j o (works_one now v xs p)) (sym ef) (goes_moved j now x (goes_on x.frames (at x.into v x.vars) x) o p eo ef et ej (goes_on_lem x.frames _ x k))

-- the same flow, its task changed to another of the same step
pub goes_task : (j : ℕ) (t u : Task) (o p : One) → Fine j o → o.task ≡ t ∷ [] → p.flow ≡ o.flow → p.task ≡ u ∷ [] → u.flow ≡ t.flow → u.step ≡ t.step → 1 ≤ u.attempt → u.attempt ≤ u.tries → (AsksOf t → AsksOf u) → Later t u → Goes j o p
goes_task j t u o p f et pf pt uf us l1 l2 l3 l = go f
  where
    after : After o p
    after = record { flow = λ y e. (y, sym pf ∙ e, refl, omega arith); task = λ v e. inr (t, et, (let q : u ≡ v = same_head _ _ (sym pt ∙ e) in sym us ∙ ap (λ (z : Task). z.step) q), subst (λ (z : Task). Later t z) (same_head _ _ (sym pt ∙ e)) l) }

    go : Fine j o → Goes j o p
    go (absent a b) = not_nil _ t (sym b ∙ et)
    go (calm x a b c d e) = not_nil _ t (sym b ∙ et)
    go (tasked x t' s a b c d e g k m n q z) = let y : t' ≡ t = same_head _ _ (sym b ∙ et) in (tasked x u s (pf ∙ a) pt c d e g (uf ∙ ap (λ (v : Task). v.flow) (sym y) ∙ k) (us ∙ ap (λ (v : Task). v.step) (sym y) ∙ m) l1 l2 (l3 (subst AsksOf y z)), after)

-- tries of the task that it has are in bounds
pub fine_tries : (j : ℕ) (t : Task) (o : One) → Fine j o → o.task ≡ t ∷ [] → (1 ≤ t.attempt) × (t.attempt ≤ t.tries) × AsksOf t
fine_tries j t o (absent a b) et = not_nil _ t (sym b ∙ et)
fine_tries j t o (calm x a b c d e) et = not_nil _ t (sym b ∙ et)
fine_tries j t o (tasked x t' s a b c d e g k m n q z) et = let w : t' ≡ t = same_head _ _ (sym b ∙ et) in subst (λ (y : Task). (1 ≤ y.attempt) × (y.attempt ≤ y.tries) × AsksOf y) w (n, q, z)

pub goes_stands : (j u : ℕ) (t : Task) (o : One) → Fine j o → o.task ≡ t ∷ [] → Goes j o (with_task (change (is_task t.flow t.step) (stands_as (Out u)) o.task) o)
unfolding is_out
goes_stands j u t o f et = goes_task j t (stands_as (Out u) t) o _ f et refl (rw et (change_self (stands_as (Out u)) t)) refl refl (fine_tries j t o f et).0 (fine_tries j t o f et).1 (λ z. z) (inr (refl, λ k. refl))

pub goes_wrong : (j now : ℕ) (t : Task) (o : One) → Fine j o → o.task ≡ t ∷ [] → Goes j o (wrong_one now t o)
goes_wrong j now t o f et = go f (bool (ltb t.attempt t.tries))
  where
    go : Fine j o → (ltb t.attempt t.tries ≡ true) ⊎ (ltb t.attempt t.tries ≡ false) → Goes j o (wrong_one now t o)
    go f' (inl c) = let l : t.attempt < t.tries = grind (arith, nat_tests) in rw c (goes_task j t (again now t) o _ f et refl (rw et (change_self (again now) t)) refl refl (omega arith) (omega arith) (λ z. z) (inl (omega arith)))
    go (absent a b) (inr c) = not_nil _ t (sym b ∙ et)
    go (calm x a b p d e) (inr c) = not_nil _ t (sym b ∙ et)
    go (tasked x t' s a b p d e g k m n q z) (inr c) = rw c (goes_fails j now x o (with_task (keep (λ (u : Task). not (is_task t.flow t.step u)) o.task) o) a a (rw et (drop_self t)) p d)

pub goes_worked : (j now v : ℕ) (t : Task) (o : One) → Fine j o → o.task ≡ t ∷ [] → Goes j o (works_one now v o.flow (with_task (keep (λ (u : Task). not (is_task t.flow t.step u)) o.task) o))
goes_worked j now v t o f et = go f
  where
    go : Fine j o → Goes j o (works_one now v o.flow (with_task (keep (λ (u : Task). not (is_task t.flow t.step u)) o.task) o))
    go (absent a b) = not_nil _ t (sym b ∙ et)
    go (calm x a b p d e) = not_nil _ t (sym b ∙ et)
    go (tasked x t' s a b p d e g k m n q z) = goes_works j now v x o (with_task (keep (λ (u : Task). not (is_task t.flow t.step u)) o.task) o) a a (rw et (drop_self t)) p d

pub goes_late : (j now : ℕ) (o : One) → Fine j o → Goes j o (late_all now o.task o)
unfolding late_all
goes_late j now o f = go f
  where
    none : o.task ≡ [] → Goes j o (late_all now o.task o)
    none e = subst (λ (ts : List Task). Goes j o (late_all now ts o)) (sym e) (goes_refl j o f)

    one : (t : Task) → o.task ≡ t ∷ [] → (b : Bool) → Goes j o (cond b (wrong_one now t o) o)
    one t e true = goes_wrong j now t o f e
    one t e false = goes_refl j o f

    go : Fine j o → Goes j o (late_all now o.task o)
    go (absent a b) = none b
    go (calm x a b p d e) = none b
    go (tasked x t s a b p d e g k m n q z) = subst (λ (ts : List Task). Goes j o (late_all now ts o)) (sym b) (one t b (is_late now t.standing))

pub goes_woken : (j now : ℕ) (o : One) → Fine j o → Goes j o (woken_all now o.flow o)
unfolding woken_all woken_one waits_task
goes_woken j now o f = go f
  where
    at' : (xs : List Flow) → o.flow ≡ xs → Goes j o (woken_all now xs o) → Goes j o (woken_all now o.flow o)
    at' xs e g = subst (λ (ys : List Flow). Goes j o (woken_all now ys o)) (sym e) g

    if : (b : Bool) (p : One) → Goes j o p → Goes j o (cond b p o)
    if true p g = g
    if false p g = goes_refl j o f

    wake : (x : Flow) → o.flow ≡ x ∷ [] → o.task ≡ [] → x.id ≡ j → frames_ok x.frames ≡ true → (p : Phase) → x.phase ≡ p → waits_task p ≡ false → Goes j o (woken_one now p x o)
    wake x a b c d Busy e w = goes_moved j now x x o o a a b c (record { id = refl; key = refl; size = refl; frames = d; agrees = rw e (refl, omega arith) })
    wake x a b c d (Tasked s) e w = goes_refl j o f
    wake x a b c d (Asleep u) e w = if (leb u now) _ (goes_moved j now x (goes_on x.frames x.vars x) o o a a b c (goes_on_lem x.frames x.vars x d))
    wake x a b c d (Listens v s n u) e w = if (leb u now) _ (goes_moved j now x (heard v s 0 0 x.box x.frames x) o o a a b c (record { id = refl; key = refl; size = refl; frames = d; agrees = (refl, omega arith) }))
    wake x a b c d (Ended v) e w = goes_refl j o f
    wake x a b c d Failed e w = goes_refl j o f

    go : Fine j o → Goes j o (woken_all now o.flow o)
    go (absent a b) = at' [] a (goes_refl j o f)
    go (calm x a b c d e) = at' (x ∷ []) a (wake x a b c d x.phase refl e)
    go (tasked x t s a b p d e g k m n q z) = at' (x ∷ []) a (rw e (goes_refl j o f))

pub goes_ticked : (j now : ℕ) (o : One) → Fine j o → Goes j o (ticked_one now o)
goes_ticked j now o f = let a = goes_late j now o f in let b = goes_woken j now (late_all now o.task o) a.0 in (b.0, after_trans o (late_all now o.task o) (ticked_one now o) a.1 b.1)
