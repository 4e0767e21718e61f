-- Every call keeps a house good, and each flow goes on.
use Rattle.std.proofs.Common.{◌≡◌, ℕ, ◌+◌, ◌%◌, ◌<◌, ◌≤◌, Bool, true, false, cond, not, ◌&&◌, ◌||◌, eqb, ltb, leb, ◌⊎◌, List, [], ◌∷◌, ◌++◌, map, length, sym, refl, ap, ◌∙◌, subst, inl, inr, arith}
use mathlib.Core.List.{Memᴰ}
use Rattle.std.proofs.lemmas.Bool.Decides.{nat_tests}
use Rattle.plans.specs.Plan.{Name, Block, Rest, Phase, Busy, Tasked, Asleep, Listens, Ended, Failed, Word, Flow, top, at, goes_on, ends, still, heard, same_name, size_of, name_ok, word_ok, block_ok}
use Rattle.flows.specs.House.{Out, Task, House, blank, keep, find, change, is_flow, is_task, is_key, moved, boxed, stands_as, is_over, with_tasks, with_flows, went_wrong, works, ticks, timed, given, Call, Start, Tell, Cancel, Take, Longer, Report, Show, Forget, Tick, Out', Yes, Flow', no, says, starts, told_to, tells as tells_flow, listens_for, cancels, wanted, sooner, first, hands_out, the_same, longer, reports, forgets, shows, small, acts, does}
use Rattle.flows.specs.One.{of, One, look, moved_one, with_task, wrong_one, works_one, ticked_one, frames_ok}
use Rattle.flows.specs.Fine.{waits_task, Fine, absent, calm, tasked, After, Goes, Asc, Good, GoodKept, TasksBounded}
use Rattle.flows.specs.Promise.{Moves, called, fell, Run, onward}
use Rattle.flows.proofs.Lists.{bool, Uniq, find_mem, keep_mem, mem_keep, mem_one, find_uniq, find_none, none_find, find_append, find_append_none, find_change_other, find_change_same, find_keep_other, find_keep_gone, keep_change_other, keep_change_same, keep_keep, keep_keep_other, keep_gone, mem_map, map_change, same_head, not_nil, no_bool, eqb_same, eqb_self}
use Rattle.flows.proofs.Asc.{asc_uniq, asc_below, asc_push, asc_keep}
use Rattle.flows.proofs.Moving.{Moving}
use Rattle.flows.proofs.Sum.{one≡, moved_other, moved_here, moved_at, id_of, moved_ids, wrong_other, wrong_here, wrong_ids, wrong_next, ticks_ids, ticks_look, ticks_next}
use Rattle.flows.proofs.Going.{after_refl, after_trans, goes_refl, goes_at, goes_moved, goes_stands, goes_wrong, goes_worked, goes_ticked, fine_tries}

pub record Onward (h g : House) : Type 0 where
  pub grows : h.next ≤ g.next
  pub good : Good g
  pub after : (j : ℕ) → j < h.next → After (look j h) (look j g)

pub onward_refl : (h : House) → Good h → Onward h h
onward_refl h a = record { grows = omega arith; good = a; after = λ j l. after_refl (look j h) }

pub onward_trans : (h g f : House) → Onward h g → Onward g f → Onward h f
onward_trans h g f a b = record { grows = omega (arith, a.grows, b.grows); good = b.good; after = λ j l. after_trans (look j h) (look j g) (look j f) (a.after j l) (b.after j (omega (arith, a.grows))) }

pub onward_all : (h g : House) → Good h → g.next ≡ h.next → Asc g.next (map id_of g.flows) → ((j : ℕ) → Goes j (look j h) (look j g)) → Onward h g
onward_all h g a n s k = record { grows = omega arith; good = record { ids = s; fine = λ j. (k j).0; keys = keys }; after = λ j l. (k j).1 }
  where
    keys : (i j : ℕ) (x y : Flow) → find (is_flow i) g.flows ≡ x ∷ [] → find (is_flow j) g.flows ≡ y ∷ [] → x.key ≡ y.key → i ≡ j
    keys i j x y ex ey e =
        let p = (k i).1.flow x ex in
        let q = (k j).1.flow y ey in
        a.keys i j p.0 q.0 p.1 q.1 (p.2 ∙ e ∙ sym q.2)

pub onward_one : (i : ℕ) (h g : House) → Good h → g.next ≡ h.next → Asc g.next (map id_of g.flows) → ((j : ℕ) → eqb j i ≡ false → look j g ≡ look j h) → Goes i (look i h) (look i g) → Onward h g
onward_one i h g a n s other here = onward_all h g a n s (λ j. at j (bool (eqb j i)))
  where
    at : (j : ℕ) → (eqb j i ≡ true) ⊎ (eqb j i ≡ false) → Goes j (look j h) (look j g)
    at j (inl e) = subst (λ (k : ℕ). Goes k (look k h) (look k g)) (sym (eqb_same j i e)) here
    at j (inr e) = rw (other j e) (goes_refl j (look j h) (a.fine j))

-- the ids as they were
same_ids : (h g : House) → Good h → g.next ≡ h.next → map id_of g.flows ≡ map id_of h.flows → Asc g.next (map id_of g.flows)
same_ids h g a n e = rw (e, n) a.ids

pub uniq_ids : (h : House) → Good h → Uniq (map id_of h.flows)
uniq_ids h a = asc_uniq h.next _ a.ids

-- a flow that stands in the house is what a look at its number shows
pub flow_at_lem : (h : House) (x : Flow) → Good h → Memᴰ x h.flows → find (is_flow x.id) h.flows ≡ x ∷ []
flow_at_lem h x a m = find_uniq id_of (is_flow x.id) h.flows x (uniq_ids h a) m (eqb_self x.id) (λ y e. sym (eqb_same x.id y.id e))

pub id_below : (h : House) (x : Flow) → Good h → Memᴰ x h.flows → x.id < h.next
id_below h x a m = asc_below h.next (map id_of h.flows) x.id a.ids (mem_map id_of h.flows x m)

-- and so a task
pub task_at_lem : (h : House) (t : Task) → Good h → Memᴰ t h.tasks → keep (of t.flow) h.tasks ≡ t ∷ []
task_at_lem h t a m = go (a.fine t.flow)
  where
    n : Memᴰ t (keep (of t.flow) h.tasks)
    n = mem_keep (of t.flow) h.tasks t m (eqb_self t.flow)

    none : keep (of t.flow) h.tasks ≡ [] → keep (of t.flow) h.tasks ≡ t ∷ []
    none e = let z : Memᴰ t [] = subst (λ (ts : List Task). Memᴰ t ts) e n in elim z [ ]

    go : Fine t.flow (look t.flow h) → keep (of t.flow) h.tasks ≡ t ∷ []
    go (absent p q) = none q
    go (calm x p q r s u) = none q
    go (tasked x t' s p q r b c d e f g i k) = let z : t ≡ t' = mem_one t t' (subst (λ (ts : List Task). Memᴰ t ts) q n) in q ∙ ap (λ (u : Task). u ∷ []) (sym z)

-- TAKE and LONGER: a task stands otherwise
pub onward_stands : (h : House) (t : Task) (u : ℕ) → Good h → Memᴰ t h.tasks → Onward h (with_tasks (change (is_task t.flow t.step) (stands_as (Out u)) h.tasks) h)
onward_stands h t u a m = onward_one t.flow h _ a refl a.ids
    (λ j e. one≡ _ _ refl (keep_change_other (of j) (is_task t.flow t.step) (stands_as (Out u)) h.tasks (λ v f. grind (arith, nat_tests)) (λ v f. grind (arith, nat_tests))))
    (goes_at t.flow (look t.flow h) _ _ (one≡ _ _ refl (keep_change_same (of t.flow) (is_task t.flow t.step) (stands_as (Out u)) h.tasks (λ v f. grind (arith, nat_tests)) (λ v f. grind (arith, nat_tests)))) (goes_stands t.flow u t (look t.flow h) (a.fine t.flow) (task_at_lem h t a m)))

-- the first of some is one of them
pub first_mem : (ts : List Task) (u : Task) (us : List Task) → first ts ≡ u ∷ us → Memᴰ u ts
unfolding first
first_mem [] u us e = let z : ◌≡◌ {A = ℕ} 0 1 = cc in absurd (omega arith)
first_mem (t ∷ ts) u us e = go (first ts) refl (first_mem ts)
  where
    pick : (v : Task) (b : Bool) → cond b (v ∷ []) (t ∷ []) ≡ u ∷ us → Memᴰ v ts → Memᴰ u (t ∷ ts)
    pick v true k m = Memᴰ.tail (let q : v ≡ u = cc in rw (← q) m)
    pick v false k m = Memᴰ.head (cc)

    go : (r : List Task) → first ts ≡ r → ((v : Task) (vs : List Task) → first ts ≡ v ∷ vs → Memᴰ v ts) → Memᴰ u (t ∷ ts)
    go [] q ih = let k : ◌≡◌ {A = List Task} (t ∷ []) (u ∷ us) = rw q at e in Memᴰ.head (cc)
    go (v ∷ vs) q ih = let k : cond (sooner v t) (v ∷ []) (t ∷ []) ≡ u ∷ us = rw q at e in pick v (sooner v t) k (ih v vs q)

pub onward_takes : (h : House) (ms : ℕ) (ts : List Task) → Good h → ((t : Task) (us : List Task) → ts ≡ t ∷ us → Memᴰ t h.tasks) → Onward h (hands_out ms ts h).house
unfolding hands_out
onward_takes h ms [] a k = onward_refl h a
onward_takes h ms (t ∷ ts) a k = onward_stands h t _ a (k t ts refl)

pub onward_longer : (h : House) (b ms : ℕ) (ts : List Task) → Good h → ((t : Task) (us : List Task) → ts ≡ t ∷ us → Memᴰ t h.tasks) → Onward h (longer b ms ts h).house
unfolding longer
onward_longer h b ms [] a k = onward_refl h a
onward_longer h b ms (t ∷ ts) a k = at' (the_same b t)
  where
    at' : (c : Bool) → Onward h (cond c (says Yes (with_tasks (change (is_task t.flow t.step) (stands_as (Out (h.now + ms))) h.tasks) h)) (no 5 h)).house
    at' true = onward_stands h t _ a (k t ts refl)
    at' false = onward_refl h a

-- TIME
pub onward_ticks : (h : House) → Good h → Onward h (ticks h)
onward_ticks h a = onward_all h (ticks h) a (ticks_next h) (same_ids h (ticks h) a (ticks_next h) (ticks_ids h)) (λ j. goes_at j (look j h) (ticked_one h.now (look j h)) (look j (ticks h)) (ticks_look j h (uniq_ids h a)) (goes_ticked j h.now (look j h) (a.fine j)))

-- REPORT
pub works_other : (j v f : ℕ) (xs ys : List Flow) (h : House) → find (is_flow f) ys ≡ xs → eqb j f ≡ false → look j (works v xs h) ≡ look j h
unfolding works
works_other j v f [] ys h k e = refl
works_other j v f (x ∷ xs) ys h k e = moved_other j (goes_on x.frames (at x.into v x.vars) x) h (let q : is_flow f x ≡ true = (find_mem (is_flow f) ys x xs k).1 in grind (arith, nat_tests))

pub works_here : (v f : ℕ) (xs ys : List Flow) (h : House) → find (is_flow f) ys ≡ xs → look f (works v xs h) ≡ works_one h.now v xs (look f h)
unfolding works works_one
works_here v f [] ys h k = refl
works_here v f (x ∷ xs) ys h k = moved_at f (goes_on x.frames (at x.into v x.vars) x) h (let q : is_flow f x ≡ true = (find_mem (is_flow f) ys x xs k).1 in eqb_same f x.id q)

works_ids : (v : ℕ) (xs : List Flow) (h : House) → map id_of (works v xs h).flows ≡ map id_of h.flows
unfolding works
works_ids v [] h = refl
works_ids v (x ∷ xs) h = moved_ids (goes_on x.frames (at x.into v x.vars) x) h

pub works_next : (v : ℕ) (xs : List Flow) (h : House) → (works v xs h).next ≡ h.next
unfolding works
works_next v [] h = refl
works_next v (x ∷ xs) h = refl

pub onward_works : (h : House) (t : Task) (v : ℕ) → Good h → Memᴰ t h.tasks → Onward h (works v (find (is_flow t.flow) h.flows) (with_tasks (keep (λ (u : Task). not (is_task t.flow t.step u)) h.tasks) h))
onward_works h t v a m = onward_one t.flow h (works v o.flow g) a (works_next v o.flow g) (same_ids h (works v o.flow g) a (works_next v o.flow g) (works_ids v o.flow g))
    (λ j e. works_other j v t.flow o.flow h.flows g refl e ∙ one≡ _ _ refl (keep_keep_other (of j) p h.tasks (λ u f. grind (arith, nat_tests))))
    (goes_at t.flow o (works_one h.now v o.flow (with_task (keep p o.task) o)) _ (works_here v t.flow o.flow h.flows g refl ∙ ap (λ (ts : List Task). works_one h.now v o.flow (with_task ts o)) (keep_keep (of t.flow) p h.tasks))
    (goes_worked t.flow h.now v t o (a.fine t.flow) (task_at_lem h t a m)))
  where
    p : Task → Bool
    p u = not (is_task t.flow t.step u)

    g : House
    g = with_tasks (keep p h.tasks) h

    o : One
    o = look t.flow h

pub onward_wrong : (h : House) (t : Task) → Good h → Memᴰ t h.tasks → Onward h (went_wrong t h)
onward_wrong h t a m = onward_one t.flow h (went_wrong t h) a (wrong_next t h) (same_ids h (went_wrong t h) a (wrong_next t h) (wrong_ids t h)) (λ j e. wrong_other j t h e)
    (goes_at t.flow (look t.flow h) (wrong_one h.now t (look t.flow h)) _ (wrong_here t h) (goes_wrong t.flow h.now t (look t.flow h) (a.fine t.flow) (task_at_lem h t a m)))

pub onward_reports : (h : House) (b : ℕ) (well : Bool) (v : ℕ) (ts : List Task) → Good h → ((t : Task) (us : List Task) → ts ≡ t ∷ us → Memᴰ t h.tasks) → Onward h (reports b well v ts h).house
unfolding reports
onward_reports h b well v [] a k = onward_refl h a
onward_reports h b well v (t ∷ ts) a k = at' (the_same b t) well
  where
    at' : (c d : Bool) → Onward h (cond c (says Yes (cond d (works (v % top) (find (is_flow t.flow) h.flows) (with_tasks (keep (λ (u : Task). not (is_task t.flow t.step u)) h.tasks) h)) (went_wrong t h))) (no 5 h)).house
    at' true true = onward_works h t (v % top) a (k t ts refl)
    at' true false = onward_wrong h t a (k t ts refl)
    at' false d = onward_refl h a

-- what is known of a flow that is there
pub fine_flow : (j : ℕ) (x : Flow) (o : One) → Fine j o → o.flow ≡ x ∷ [] → (x.id ≡ j) × (frames_ok x.frames ≡ true) × (waits_task x.phase ≡ false → o.task ≡ [])
unfolding waits_task
fine_flow j x o (absent a b) e = not_nil _ x (sym a ∙ e)
fine_flow j x o (calm y a b c d w) e = let z : y ≡ x = same_head _ _ (sym a ∙ e) in (subst (λ (f : Flow). f.id ≡ j) z c, subst (λ (f : Flow). frames_ok f.frames ≡ true) z d, λ k. b)
fine_flow j x o (tasked y t s a b c d w l m n p q r) e = let z : y ≡ x = same_head _ _ (sym a ∙ e) in (subst (λ (f : Flow). f.id ≡ j) z c, subst (λ (f : Flow). frames_ok f.frames ≡ true) z d, λ k. no_bool _ (ap waits_task (sym w) ∙ ap (λ (f : Flow). waits_task f.phase) z ∙ k))

-- CANCEL
goes_cancel : (j : ℕ) (x : Flow) (o p : One) → Fine j o → o.flow ≡ x ∷ [] → p.flow ≡ map (ends Failed) o.flow → p.task ≡ [] → Goes j o p
unfolding waits_task frames_ok
goes_cancel j x o p f e pf pt =
    let q : p.flow ≡ ends Failed x ∷ [] = pf ∙ ap (map (ends Failed)) e in
    (calm (ends Failed x) q pt (fine_flow j x o f e).0 refl refl, record { flow = λ y k. let z : ends Failed x ≡ y = same_head _ _ (sym q ∙ k) in (x, e, ap (λ (f : Flow). f.key) z, subst (λ (f : Flow). x.steps ≤ f.steps) z (omega arith)); task = λ u k. not_nil _ u (sym pt ∙ k) })

pub onward_cancels : (h : House) (xs : List Flow) → Good h → ((x : Flow) (ys : List Flow) → xs ≡ x ∷ ys → Memᴰ x h.flows) → Onward h (cancels xs h).house
unfolding cancels
onward_cancels h [] a k = onward_refl h a
onward_cancels h (x ∷ xs) a k = at' (is_over x.phase)
  where
    p : Task → Bool
    p t = not (eqb x.id t.flow)

    g : House
    g = record { now = h.now; next = h.next; flows = change (is_flow x.id) (ends Failed) h.flows; tasks = keep p h.tasks }

    at' : (c : Bool) → Onward h (cond c (no 3 h) (says Yes g)).house
    at' true = onward_refl h a
    at' false = onward_one x.id h g a refl (same_ids h g a refl (map_change id_of (is_flow x.id) (ends Failed) h.flows (λ y e. refl)))
        (λ j e. one≡ _ _ (find_change_other (is_flow j) (is_flow x.id) (ends Failed) h.flows (λ y f. grind (arith, nat_tests)) (λ y f. grind (arith, nat_tests))) (keep_keep_other (of j) p h.tasks (λ u f. grind (arith, nat_tests))))
        (goes_cancel x.id x (look x.id h) (look x.id g) (a.fine x.id) (flow_at_lem h x a (k x xs refl)) (find_change_same (is_flow x.id) (ends Failed) h.flows (λ y e. e)) (keep_gone (of x.id) p h.tasks (λ u e. grind (arith, nat_tests))))

-- FORGET
pub over_calm : (p : Phase) → is_over p ≡ true → waits_task p ≡ false
unfolding is_over waits_task
over_calm Busy e = refl
over_calm (Tasked s) e = sym e
over_calm (Asleep u) e = refl
over_calm (Listens v w n u) e = refl
over_calm (Ended v) e = refl
over_calm Failed e = refl

goes_gone : (j : ℕ) (o p : One) → p.flow ≡ [] → p.task ≡ [] → Goes j o p
goes_gone j o p e f = (absent e f, record { flow = λ y k. not_nil _ y (sym e ∙ k); task = λ u k. not_nil _ u (sym f ∙ k) })

pub onward_forgets : (h : House) (xs : List Flow) → Good h → ((x : Flow) (ys : List Flow) → xs ≡ x ∷ ys → Memᴰ x h.flows) → Onward h (forgets xs h).house
unfolding forgets
onward_forgets h [] a k = onward_refl h a
onward_forgets h (x ∷ xs) a k = at' (bool (is_over x.phase))
  where
    p : Flow → Bool
    p y = not (is_flow x.id y)

    g : House
    g = with_flows (keep p h.flows) h

    at' : (is_over x.phase ≡ true) ⊎ (is_over x.phase ≡ false) → Onward h (cond (is_over x.phase) (says Yes g) (no 3 h)).house
    at' (inr e) = rw e (onward_refl h a)
    at' (inl e) = rw e (onward_one x.id h g a refl (asc_keep h.next id_of p h.flows a.ids)
        (λ j f. one≡ _ _ (find_keep_other (is_flow j) p h.flows (λ y q. grind (arith, nat_tests))) refl)
        (goes_gone x.id (look x.id h) (look x.id g) (find_keep_gone (is_flow x.id) p h.flows (λ y q. grind (arith, nat_tests))) ((fine_flow x.id x (look x.id h) (a.fine x.id) (flow_at_lem h x a (k x xs refl))).2 (over_calm x.phase e))))

-- TELL
goes_boxed : (j : ℕ) (w : Word) (x : Flow) (o p : One) → Fine j o → o.flow ≡ x ∷ [] → p.flow ≡ map (boxed w) o.flow → p.task ≡ o.task → Goes j o p
goes_boxed j w x o p f e pf pt = (go f, record { flow = λ y k. let z : boxed w x ≡ y = same_head _ _ (sym q ∙ k) in (x, e, ap (λ (f : Flow). f.key) z, subst (λ (f : Flow). x.steps ≤ f.steps) z (omega arith)); task = λ u k. inr (u, sym pt ∙ k, refl, inr (refl, λ i. i)) })
  where
    q : p.flow ≡ boxed w x ∷ []
    q = pf ∙ ap (map (boxed w)) e

    go : Fine j o → Fine j p
    go (absent a b) = not_nil _ x (sym a ∙ e)
    go (calm y a b c d i) = calm (boxed w y) (pf ∙ ap (map (boxed w)) a) (pt ∙ b) c d i
    go (tasked y t s a b c d i l m n r v z) = tasked (boxed w y) t s (pf ∙ ap (map (boxed w)) a) (pt ∙ b) c d i l m n r v z

onward_boxed : (h : House) (w : Word) (x : Flow) → Good h → Memᴰ x h.flows → Onward h (with_flows (change (is_flow x.id) (boxed w) h.flows) h)
onward_boxed h w x a m = onward_one x.id h g a refl (same_ids h g a refl (map_change id_of (is_flow x.id) (boxed w) h.flows (λ y e. refl)))
    (λ j e. one≡ _ _ (find_change_other (is_flow j) (is_flow x.id) (boxed w) h.flows (λ y f. grind (arith, nat_tests)) (λ y f. grind (arith, nat_tests))) refl)
    (goes_boxed x.id w x (look x.id h) (look x.id g) (a.fine x.id) (flow_at_lem h x a m) (find_change_same (is_flow x.id) (boxed w) h.flows (λ y e. e)) refl)
  where
    g : House
    g = with_flows (change (is_flow x.id) (boxed w) h.flows) h

-- a calm flow goes on by itself
onward_moved : (h : House) (x y : Flow) → Good h → Memᴰ x h.flows → waits_task x.phase ≡ false → Moving x.steps x (still y) → Onward h (moved y h)
onward_moved h x y a m w v = onward_one x.id h (moved y h) a refl (same_ids h (moved y h) a refl (moved_ids y h))
    (λ j e. moved_other j y h (rw v.id e))
    (goes_at x.id (look x.id h) (moved_one h.now y (look x.id h)) _ (moved_at x.id y h (sym v.id))
    (goes_moved x.id h.now x y (look x.id h) (look x.id h) f f ((fine_flow x.id x (look x.id h) (a.fine x.id) f).2 w) refl v))
  where
    f : (look x.id h).flow ≡ x ∷ []
    f = flow_at_lem h x a m

onward_told : (h : House) (p : Phase) (w : Word) (x : Flow) → Good h → Memᴰ x h.flows → x.phase ≡ p → Onward h (told_to p w x h)
unfolding told_to waits_task
onward_told h Busy w x a m e = onward_boxed h w x a m
onward_told h (Tasked s) w x a m e = onward_boxed h w x a m
onward_told h (Asleep u) w x a m e = onward_boxed h w x a m
onward_told h (Listens v c n u) w x a m e = at' (same_name n w.name)
  where
    at' : (b : Bool) → Onward h (cond b (moved (heard v c w.value 1 x.box x.frames x) h) (with_flows (change (is_flow x.id) (boxed w) h.flows) h))
    at' true = onward_moved h x _ a m (rw e refl) (record { id = refl; key = refl; size = refl; frames = (fine_flow x.id x (look x.id h) (a.fine x.id) (flow_at_lem h x a m)).1; agrees = (refl, omega arith) })
    at' false = onward_boxed h w x a m
onward_told h (Ended v) w x a m e = onward_refl h a
onward_told h Failed w x a m e = onward_refl h a

pub onward_tells : (h : House) (w : Word) (xs : List Flow) → Good h → ((x : Flow) (ys : List Flow) → xs ≡ x ∷ ys → Memᴰ x h.flows) → Onward h (tells_flow w xs h).house
unfolding tells_flow
onward_tells h w [] a k = onward_refl h a
onward_tells h w (x ∷ xs) a k = at' (is_over x.phase) (leb 64 (length x.box) && not (listens_for w x.phase))
  where
    at' : (c d : Bool) → Onward h (cond c (no 3 h) (cond d (no 8 h) (says Yes (told_to x.phase w x h)))).house
    at' true d = onward_refl h a
    at' false true = onward_refl h a
    at' false false = onward_told h x.phase w x a (k x xs refl) refl

-- START
same_name_refl : (n : Name) → same_name n n ≡ true
unfolding same_name
same_name_refl [] = refl
same_name_refl (x ∷ xs) = rw (eqb_self x) (same_name_refl xs)

map_append : {A B : Type 0} (f : A → B) (xs ys : List A) → map f (xs ++ ys) ≡ map f xs ++ map f ys
map_append f [] ys = refl
map_append f (x ∷ xs) ys = ap (λ zs. f x ∷ zs) (map_append f xs ys)

abbrev pub joined : Flow → House → House
joined x h = record { now = h.now; next = h.next + 1; flows = h.flows ++ (x ∷ []); tasks = h.tasks }

pub onward_born : (h : House) (x : Flow) → Good h → x.id ≡ h.next → Moving x.steps x (still x) → ((y : Flow) → Memᴰ y h.flows → y.key ≡ x.key → ⊥) → Onward h (moved x (joined x h))
unfolding find
onward_born h x a i v fresh = record { grows = omega arith; good = record { ids = ids; fine = λ j. fine j (bool (eqb j x.id)); keys = λ k j y z ey ez e. keys k j y z ey ez e (bool (eqb k x.id)) (bool (eqb j x.id)) }; after = after }
  where
    H : House
    H = joined x h

    g : House
    g = moved x H

    newer : find (is_flow x.id) h.flows ≡ []
    newer = find_none (is_flow x.id) h.flows (λ y m. let l : y.id < h.next = asc_below h.next (map id_of h.flows) y.id a.ids (mem_map id_of h.flows y m) in grind (arith, nat_tests))

    ids : Asc (h.next + 1) (map id_of g.flows)
    ids = rw (moved_ids x H, map_append id_of h.flows (x ∷ []), i) (asc_push h.next (map id_of h.flows) a.ids)

    others : (j : ℕ) → eqb j x.id ≡ false → look j g ≡ look j h
    others j e = moved_other j x H e ∙ one≡ _ _ (find_append_none (is_flow j) h.flows (x ∷ []) (rw e refl)) refl

    oflow : (look x.id H).flow ≡ x ∷ []
    oflow = find_append (is_flow x.id) h.flows (x ∷ []) newer ∙ rw (eqb_self x.id) refl

    gone : Fine x.id (look x.id h) → (look x.id h).task ≡ []
    gone (absent p q) = q
    gone (calm y p q r s t) = not_nil _ y (sym newer ∙ p)
    gone (tasked y t s p q r b c d e f k l z) = not_nil _ y (sym newer ∙ p)

    goes : Goes x.id (look x.id H) (look x.id g)
    goes = goes_at x.id (look x.id H) (moved_one h.now x (look x.id H)) _ (moved_here x H) (goes_moved x.id h.now x x (look x.id H) (look x.id H) oflow oflow (gone (a.fine x.id)) refl v)

    fine : (j : ℕ) → (eqb j x.id ≡ true) ⊎ (eqb j x.id ≡ false) → Fine j (look j g)
    fine j (inl e) = subst (λ (k : ℕ). Fine k (look k g)) (sym (eqb_same j x.id e)) goes.0
    fine j (inr e) = rw (others j e) (a.fine j)

    new_key : (y : Flow) → find (is_flow x.id) g.flows ≡ y ∷ [] → y.key ≡ x.key
    new_key y e = let r = goes.1.flow y e in sym r.2 ∙ ap (λ (z : Flow). z.key) (same_head _ _ (sym r.1 ∙ oflow))

    old : (j : ℕ) (z : Flow) → eqb j x.id ≡ false → find (is_flow j) g.flows ≡ z ∷ [] → find (is_flow j) h.flows ≡ z ∷ []
    old j z e ez = ap (λ (o : One). o.flow) (sym (others j e)) ∙ ez

    clash : (k j : ℕ) (y z : Flow) → eqb k x.id ≡ true → eqb j x.id ≡ false → find (is_flow k) g.flows ≡ y ∷ [] → find (is_flow j) g.flows ≡ z ∷ [] → y.key ≡ z.key → k ≡ j
    clash k j y z e f ey ez q = absurd (fresh z (find_mem (is_flow j) h.flows z [] (old j z f ez)).0 (sym q ∙ new_key y (subst (λ (l : ℕ). find (is_flow l) g.flows ≡ y ∷ []) (eqb_same k x.id e) ey)))

    keys : (k j : ℕ) (y z : Flow) → find (is_flow k) g.flows ≡ y ∷ [] → find (is_flow j) g.flows ≡ z ∷ [] → y.key ≡ z.key → (eqb k x.id ≡ true) ⊎ (eqb k x.id ≡ false) → (eqb j x.id ≡ true) ⊎ (eqb j x.id ≡ false) → k ≡ j
    keys k j y z ey ez q (inl e) (inl f) = eqb_same k x.id e ∙ sym (eqb_same j x.id f)
    keys k j y z ey ez q (inl e) (inr f) = clash k j y z e f ey ez q
    keys k j y z ey ez q (inr e) (inl f) = sym (clash j k z y f e ez ey (sym q))
    keys k j y z ey ez q (inr e) (inr f) = a.keys k j y z (old k y e ey) (old j z f ez) q

    after : (j : ℕ) → j < h.next → After (look j h) (look j g)
    after j l = rw (others j (grind (arith, nat_tests))) (after_refl (look j h))

pub onward_starts : (h : House) (n : Name) (b : Block) (vs : List ℕ) (xs : List Flow) → Good h → block_ok b ≡ true → find (is_key n) h.flows ≡ xs → Onward h (starts n b vs xs h).house
unfolding starts frames_ok
onward_starts h n b vs (x ∷ xs) a k e = onward_refl h a
onward_starts h n b vs [] a k e = at' (leb 1024 (length h.flows) || leb 4611686018427387904 h.next)
  where
    x : Flow
    x = record { id = h.next; key = n; phase = Busy; frames = Rest b ∷ []; vars = given 0 vs; steps = 0; into = 0; box = []; size = size_of b }

    at' : (c : Bool) → Onward h (cond c (no 8 h) (says (Flow' h.next) (moved x (joined x h)))).house
    at' true = onward_refl h a
    at' false = onward_born h x a refl (record { id = refl; key = refl; size = refl; frames = rw k refl; agrees = (refl, omega arith) }) (λ y m q. no_bool ⊥ (sym (same_name_refl n) ∙ ap (same_name n) (sym q) ∙ none_find (is_key n) h.flows y e m))

-- all calls
pub onward_timed : (h : House) (n : ℕ) → Good h → Onward h (record { now = n; next = h.next; flows = h.flows; tasks = h.tasks })
onward_timed h n a = record { grows = omega arith; good = record { ids = a.ids; fine = a.fine; keys = a.keys }; after = λ j l. after_refl (look j h) }

onward_cond : (h : House) (b : Bool) (k : ℕ) (o : Out') → Good h → (b ≡ false → Onward h o.house) → Onward h (cond b (no k h) o).house
onward_cond h true k o a f = onward_refl h a
onward_cond h false k o a f = f refl

pub acts_onward : (c : Call) (h : House) → Good h → Onward h (acts c h).house
unfolding acts shows
acts_onward (Start n b xs) h a = onward_cond h _ 1 _ a (λ e. onward_starts h n b xs (find (is_key n) h.flows) a (grind arith) refl)
acts_onward (Tell n w v) h a = let wd : Word = record { name = w; value = v % top } in onward_cond h (not (name_ok n) || not (word_ok w)) 1 (tells_flow wd (find (is_key n) h.flows) h) a (λ e. onward_tells h wd (find (is_key n) h.flows) a (λ x ys q. (find_mem (is_key n) h.flows x ys q).0))
acts_onward (Cancel n) h a = onward_cond h _ 1 _ a (λ e. onward_cancels h (find (is_key n) h.flows) a (λ x ys q. (find_mem (is_key n) h.flows x ys q).0))
acts_onward (Take ks ms) h a = onward_cond h _ 1 _ a (λ e. onward_takes h ms (first (keep (wanted h.now ks) h.tasks)) a (λ t us q. (keep_mem (wanted h.now ks) h.tasks t (first_mem (keep (wanted h.now ks) h.tasks) t us q)).0))
acts_onward (Longer f s b ms) h a = onward_cond h _ 1 _ a (λ e. onward_longer h b ms (find (is_task f s) h.tasks) a (λ t us q. (find_mem (is_task f s) h.tasks t us q).0))
acts_onward (Report f s b w v) h a = onward_reports h b w v (find (is_task f s) h.tasks) a (λ t us q. (find_mem (is_task f s) h.tasks t us q).0)
acts_onward (Show n) h a = onward_cond h _ 1 _ a (λ e. shown (find (is_key n) h.flows))
  where
    shown : (xs : List Flow) → Onward h (shows xs h).house
    shown [] = onward_refl h a
    shown (x ∷ xs) = onward_refl h a
acts_onward (Forget n) h a = onward_cond h _ 1 _ a (λ e. onward_forgets h (find (is_key n) h.flows) a (λ x ys q. (find_mem (is_key n) h.flows x ys q).0))
acts_onward (Tick t) h a = at' (small t && ltb 0 t)
  where
    at' : (b : Bool) → Onward h (cond b (says Yes (ticks (timed t h))) (no 1 h)).house
    at' true = let z = onward_timed h (timed t h).now a in onward_trans h (timed t h) (ticks (timed t h)) z (onward_ticks (timed t h) z.good)
    at' false = onward_refl h a

pub does_onward : (c : Call) (h : House) → Good h → Onward h (does c h).house
does_onward c h a = onward_cond h _ 10 _ a (λ e. acts_onward c h a)

pub moves_onward : {h g : House} → Moves h g → Good h → Onward h g
moves_onward (called c h) a = does_onward c h a
moves_onward (fell h) a = onward_timed h 0 a

pub blank_good : Good blank
unfolding find keep
blank_good = record { ids = tt; fine = λ j. absent refl refl; keys = λ i j x y e f q. not_nil _ x e }

pub run_onward : {h g : House} → Run h g → Good h → Onward h g
run_onward {h} Run.still a = onward_refl h a
run_onward {h} {g} (onward {g = f} r m) a = let b = run_onward r a in onward_trans h f g b (moves_onward m b.good)

pub run_good : (h : House) → Run blank h → Good h
run_good h r = (run_onward r blank_good).good

pub good_kept : GoodKept
good_kept = record { starts = blank_good; calls = λ c h a. (does_onward c h a).good; falls = λ h a. (onward_timed h 0 a).good }

pub tasks_bounded : TasksBounded
tasks_bounded h a t m = (fine_tries t.flow t (look t.flow h) (a.fine t.flow) (task_at_lem h t a m)).2
