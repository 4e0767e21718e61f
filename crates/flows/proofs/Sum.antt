-- The house is the sum of its flows.
use Rattle.std.proofs.Common.{◌≡◌, ℕ, Bool, true, false, cond, not, eqb, ltb, leb, ◌⊎◌, List, [], ◌∷◌, ◌++◌, map, refl, ap, ◌∙◌, inl, inr, arith}
use Rattle.std.proofs.lemmas.Bool.Decides.{nat_tests}
use Rattle.plans.specs.Plan.{Phase, Busy, Tasked, Asleep, Listens, Ended, Failed, Flow, Wish, still, broken, moves}
use Rattle.flows.specs.House.{Task, House, keep, find, change, is_flow, is_task, wished, step_of, moved, again, is_late, with_tasks, went_wrong, fails, all_late, woken, all_woken, ticks}
use Rattle.flows.specs.One.{of, One, look, moved_one, fails_one, with_task, wrong_one, late_one, late_all, woken_one, woken_all, ticked_one}
use Rattle.flows.proofs.Lists.{bool, find_change_same, find_change_other, keep_change_other, keep_change_same, keep_keep, keep_keep_other, keep_append, find_mem, map_change, keep_find, Uniq, eqb_same, eqb_self}
use Rattle.flows.proofs.Moving.{moves_id, broken_id}

pub one≡ : (a b : One) → a.flow ≡ b.flow → a.task ≡ b.task → a ≡ b
one≡ a b p q = λ i. record { flow = p i; task = q i }

pub wished_here : (j now i s : ℕ) (ws : List Wish) → eqb j i ≡ true → keep (of j) (wished now i s ws) ≡ wished now i s ws
unfolding keep wished
wished_here j now i s [] e = refl
wished_here j now i s (w ∷ ws) e = let ih : keep (of j) (wished now i s ws) ≡ wished now i s ws = wished_here j now i s ws e in rw (e, ih) refl

pub wished_other : (j now i s : ℕ) (ws : List Wish) → eqb j i ≡ false → keep (of j) (wished now i s ws) ≡ []
unfolding keep wished
wished_other j now i s [] e = refl
wished_other j now i s (w ∷ ws) e = let ih : keep (of j) (wished now i s ws) ≡ [] = wished_other j now i s ws e in rw (e, ih) refl

append_nil : {A : Type 0} (xs : List A) → xs ++ [] ≡ xs
append_nil [] = refl
append_nil (x ∷ xs) = ap (λ ys. x ∷ ys) (append_nil xs)

-- the same test
pub moved_other : (j : ℕ) (x : Flow) (h : House) → eqb j x.id ≡ false → look j (moved x h) ≡ look j h
moved_other j x h e = one≡ _ _
    (find_change_other (is_flow j) (is_flow x.id) (λ y. (moves 1000 h.now (still x)).flow) h.flows (λ y f. grind (arith, nat_tests)) (λ y f. rw (moves_id 1000 h.now (still x)) e))
    (keep_append (of j) h.tasks _ ∙ rw (wished_other j h.now x.id (step_of (moves 1000 h.now (still x)).flow.phase) (moves 1000 h.now (still x)).wish e) (append_nil _))

pub moved_here : (x : Flow) (h : House) → look x.id (moved x h) ≡ moved_one h.now x (look x.id h)
moved_here x h = one≡ _ _
    (find_change_same (is_flow x.id) (λ y. (moves 1000 h.now (still x)).flow) h.flows (λ y f. rw (moves_id 1000 h.now (still x)) (eqb_self x.id)))
    (keep_append (of x.id) h.tasks _ ∙ rw (wished_here x.id h.now x.id (step_of (moves 1000 h.now (still x)).flow.phase) (moves 1000 h.now (still x)).wish (eqb_self x.id)) refl)

-- by another's name for the same number
pub moved_at : (j : ℕ) (x : Flow) (h : House) → j ≡ x.id → look j (moved x h) ≡ moved_one h.now x (look j h)
moved_at j x h e = rw e (moved_here x h)

abbrev pub id_of : Flow → ℕ
id_of x = x.id

pub moved_ids : (x : Flow) (h : House) → map id_of (moved x h).flows ≡ map id_of h.flows
moved_ids x h = map_change id_of (is_flow x.id) (λ y. (moves 1000 h.now (still x)).flow) h.flows (λ y f. moves_id 1000 h.now (still x) ∙ eqb_same x.id y.id f)

-- a failure
fails_other : (j f : ℕ) (xs ys : List Flow) (h : House) → find (is_flow f) ys ≡ xs → eqb j f ≡ false → look j (fails xs h) ≡ look j h
unfolding fails
fails_other j f [] ys h k e = refl
fails_other j f (x ∷ xs) ys h k e = moved_other j (broken x.frames x) h (let q : is_flow f x ≡ true = (find_mem (is_flow f) ys x xs k).1 in rw (broken_id x.frames x) (grind (arith, nat_tests)))

fails_here : (f : ℕ) (xs ys : List Flow) (h : House) → find (is_flow f) ys ≡ xs → look f (fails xs h) ≡ fails_one h.now xs (look f h)
unfolding fails fails_one
fails_here f [] ys h k = refl
fails_here f (x ∷ xs) ys h k = moved_at f (broken x.frames x) h (let q : is_flow f x ≡ true = (find_mem (is_flow f) ys x xs k).1 in rw (broken_id x.frames x) (eqb_same f x.id q))

fails_ids : (xs : List Flow) (h : House) → map id_of (fails xs h).flows ≡ map id_of h.flows
unfolding fails
fails_ids [] h = refl
fails_ids (x ∷ xs) h = moved_ids (broken x.frames x) h

fails_now : (xs : List Flow) (h : House) → (fails xs h).now ≡ h.now
unfolding fails
fails_now [] h = refl
fails_now (x ∷ xs) h = refl

-- a try that went wrong
pub wrong_other : (j : ℕ) (t : Task) (h : House) → eqb j t.flow ≡ false → look j (went_wrong t h) ≡ look j h
wrong_other j t h e = at (ltb t.attempt t.tries)
  where
    g : House
    g = with_tasks (keep (λ (u : Task). not (is_task t.flow t.step u)) h.tasks) h

    gone : look j g ≡ look j h
    gone = one≡ _ _ refl (keep_keep_other (of j) (λ (u : Task). not (is_task t.flow t.step u)) h.tasks (λ u f. grind (arith, nat_tests)))

    at : (b : Bool) → look j (cond b (with_tasks (change (is_task t.flow t.step) (again h.now) h.tasks) h) (fails (find (is_flow t.flow) h.flows) g)) ≡ look j h
    at true = one≡ _ _ refl (keep_change_other (of j) (is_task t.flow t.step) (again h.now) h.tasks (λ u f. grind (arith, nat_tests)) (λ u f. grind (arith, nat_tests)))
    at false = fails_other j t.flow (find (is_flow t.flow) h.flows) h.flows g refl e ∙ gone

pub wrong_here : (t : Task) (h : House) → look t.flow (went_wrong t h) ≡ wrong_one h.now t (look t.flow h)
wrong_here t h = at (ltb t.attempt t.tries)
  where
    p : Task → Bool
    p u = not (is_task t.flow t.step u)

    o : One
    o = look t.flow h

    at : (b : Bool) → look t.flow (cond b (with_tasks (change (is_task t.flow t.step) (again h.now) h.tasks) h) (fails (find (is_flow t.flow) h.flows) (with_tasks (keep p h.tasks) h))) ≡ cond b (with_task (change (is_task t.flow t.step) (again h.now) o.task) o) (fails_one h.now o.flow (with_task (keep p o.task) o))
    at true = one≡ _ _ refl (keep_change_same (of t.flow) (is_task t.flow t.step) (again h.now) h.tasks (λ u f. grind (arith, nat_tests)) (λ u f. grind (arith, nat_tests)))
    at false = fails_here t.flow (find (is_flow t.flow) h.flows) h.flows (with_tasks (keep p h.tasks) h) refl ∙ ap (λ (ts : List Task). fails_one h.now o.flow (with_task ts o)) (keep_keep (of t.flow) p h.tasks)

pub wrong_now : (t : Task) (h : House) → (went_wrong t h).now ≡ h.now
wrong_now t h = at (ltb t.attempt t.tries)
  where
    g : House
    g = with_tasks (keep (λ (u : Task). not (is_task t.flow t.step u)) h.tasks) h

    at : (b : Bool) → (cond b (with_tasks (change (is_task t.flow t.step) (again h.now) h.tasks) h) (fails (find (is_flow t.flow) h.flows) g)).now ≡ h.now
    at true = refl
    at false = fails_now (find (is_flow t.flow) h.flows) g

pub wrong_ids : (t : Task) (h : House) → map id_of (went_wrong t h).flows ≡ map id_of h.flows
wrong_ids t h = at (ltb t.attempt t.tries)
  where
    g : House
    g = with_tasks (keep (λ (u : Task). not (is_task t.flow t.step u)) h.tasks) h

    at : (b : Bool) → map id_of (cond b (with_tasks (change (is_task t.flow t.step) (again h.now) h.tasks) h) (fails (find (is_flow t.flow) h.flows) g)).flows ≡ map id_of h.flows
    at true = refl
    at false = fails_ids (find (is_flow t.flow) h.flows) g

-- TIME
abbrev late : Task → House → House
late t h = cond (is_late h.now t.standing) (went_wrong t h) h

late_now : (t : Task) (h : House) → (late t h).now ≡ h.now
late_now t h = at (is_late h.now t.standing)
  where
    at : (b : Bool) → (cond b (went_wrong t h) h).now ≡ h.now
    at true = wrong_now t h
    at false = refl

late_ids : (t : Task) (h : House) → map id_of (late t h).flows ≡ map id_of h.flows
late_ids t h = at (is_late h.now t.standing)
  where
    at : (b : Bool) → map id_of (cond b (went_wrong t h) h).flows ≡ map id_of h.flows
    at true = wrong_ids t h
    at false = refl

late_other : (j : ℕ) (t : Task) (h : House) → eqb j t.flow ≡ false → look j (late t h) ≡ look j h
late_other j t h e = at (is_late h.now t.standing)
  where
    at : (b : Bool) → look j (cond b (went_wrong t h) h) ≡ look j h
    at true = wrong_other j t h e
    at false = refl

late_here : (j : ℕ) (t : Task) (h : House) → j ≡ t.flow → look j (late t h) ≡ late_one h.now t (look j h)
late_here j t h e = rw e (at (is_late h.now t.standing))
  where
    at : (b : Bool) → look t.flow (cond b (went_wrong t h) h) ≡ cond b (wrong_one h.now t (look t.flow h)) (look t.flow h)
    at true = wrong_here t h
    at false = refl

pub all_late_now : (ts : List Task) (h : House) → (all_late ts h).now ≡ h.now
unfolding all_late
all_late_now [] h = refl
all_late_now (t ∷ ts) h = all_late_now ts (late t h) ∙ late_now t h

pub all_late_ids : (ts : List Task) (h : House) → map id_of (all_late ts h).flows ≡ map id_of h.flows
unfolding all_late
all_late_ids [] h = refl
all_late_ids (t ∷ ts) h = all_late_ids ts (late t h) ∙ late_ids t h

pub all_late_look : (j : ℕ) (ts : List Task) (h : House) → look j (all_late ts h) ≡ late_all h.now (keep (of j) ts) (look j h)
unfolding all_late late_all keep
all_late_look j [] h = refl
all_late_look j (t ∷ ts) h = all_late_look j ts (late t h) ∙ ap (λ (n : ℕ). late_all n (keep (of j) ts) (look j (late t h))) (late_now t h) ∙ at (bool (of j t))
  where
    at : (of j t ≡ true) ⊎ (of j t ≡ false) → late_all h.now (keep (of j) ts) (look j (late t h)) ≡ late_all h.now (keep (of j) (t ∷ ts)) (look j h)
    at (inl e) = rw e (ap (λ (o : One). late_all h.now (keep (of j) ts) o) (late_here j t h (eqb_same j t.flow e)))
    at (inr e) = rw e (ap (λ (o : One). late_all h.now (keep (of j) ts) o) (late_other j t h e))

-- waking
abbrev cmoved : Bool → Flow → House → House
cmoved b x h = cond b (moved x h) h

cmoved_now : (b : Bool) (x : Flow) (h : House) → (cmoved b x h).now ≡ h.now
cmoved_now true x h = refl
cmoved_now false x h = refl

cmoved_ids : (b : Bool) (x : Flow) (h : House) → map id_of (cmoved b x h).flows ≡ map id_of h.flows
cmoved_ids true x h = moved_ids x h
cmoved_ids false x h = refl

cmoved_other : (b : Bool) (j : ℕ) (x : Flow) (h : House) → eqb j x.id ≡ false → look j (cmoved b x h) ≡ look j h
cmoved_other true j x h e = moved_other j x h e
cmoved_other false j x h e = refl

cmoved_at : (b : Bool) (j : ℕ) (x : Flow) (h : House) → j ≡ x.id → look j (cmoved b x h) ≡ cond b (moved_one h.now x (look j h)) (look j h)
cmoved_at true j x h e = moved_at j x h e
cmoved_at false j x h e = refl

woken_now : (p : Phase) (x : Flow) (h : House) → (woken p x h).now ≡ h.now
unfolding woken
woken_now Busy x h = refl
woken_now (Tasked s) x h = refl
woken_now (Asleep u) x h = cmoved_now (leb u h.now) _ h
woken_now (Listens v w n u) x h = cmoved_now (leb u h.now) _ h
woken_now (Ended v) x h = refl
woken_now Failed x h = refl

pub woken_ids : (p : Phase) (x : Flow) (h : House) → map id_of (woken p x h).flows ≡ map id_of h.flows
unfolding woken
woken_ids Busy x h = moved_ids x h
woken_ids (Tasked s) x h = refl
woken_ids (Asleep u) x h = cmoved_ids (leb u h.now) _ h
woken_ids (Listens v w n u) x h = cmoved_ids (leb u h.now) _ h
woken_ids (Ended v) x h = refl
woken_ids Failed x h = refl

woken_other : (j : ℕ) (p : Phase) (x : Flow) (h : House) → eqb j x.id ≡ false → look j (woken p x h) ≡ look j h
unfolding woken
woken_other j Busy x h e = moved_other j x h e
woken_other j (Tasked s) x h e = refl
woken_other j (Asleep u) x h e = cmoved_other (leb u h.now) j _ h e
woken_other j (Listens v w n u) x h e = cmoved_other (leb u h.now) j _ h e
woken_other j (Ended v) x h e = refl
woken_other j Failed x h e = refl

woken_at : (j : ℕ) (p : Phase) (x : Flow) (h : House) → j ≡ x.id → look j (woken p x h) ≡ woken_one h.now p x (look j h)
unfolding woken woken_one
woken_at j Busy x h e = moved_at j x h e
woken_at j (Tasked s) x h e = refl
woken_at j (Asleep u) x h e = cmoved_at (leb u h.now) j _ h e
woken_at j (Listens v w n u) x h e = cmoved_at (leb u h.now) j _ h e
woken_at j (Ended v) x h e = refl
woken_at j Failed x h e = refl

pub all_woken_now : (xs : List Flow) (h : House) → (all_woken xs h).now ≡ h.now
unfolding all_woken
all_woken_now [] h = refl
all_woken_now (x ∷ xs) h = all_woken_now xs (woken x.phase x h) ∙ woken_now x.phase x h

pub all_woken_ids : (xs : List Flow) (h : House) → map id_of (all_woken xs h).flows ≡ map id_of h.flows
unfolding all_woken
all_woken_ids [] h = refl
all_woken_ids (x ∷ xs) h = all_woken_ids xs (woken x.phase x h) ∙ woken_ids x.phase x h

pub all_woken_look : (j : ℕ) (xs : List Flow) (h : House) → look j (all_woken xs h) ≡ woken_all h.now (keep (is_flow j) xs) (look j h)
unfolding all_woken woken_all keep
all_woken_look j [] h = refl
all_woken_look j (x ∷ xs) h = all_woken_look j xs (woken x.phase x h) ∙ ap (λ (n : ℕ). woken_all n (keep (is_flow j) xs) (look j (woken x.phase x h))) (woken_now x.phase x h) ∙ at (bool (is_flow j x))
  where
    at : (is_flow j x ≡ true) ⊎ (is_flow j x ≡ false) → woken_all h.now (keep (is_flow j) xs) (look j (woken x.phase x h)) ≡ woken_all h.now (keep (is_flow j) (x ∷ xs)) (look j h)
    at (inl e) = rw e (ap (λ (o : One). woken_all h.now (keep (is_flow j) xs) o) (woken_at j x.phase x h (eqb_same j x.id e)))
    at (inr e) = rw e (ap (λ (o : One). woken_all h.now (keep (is_flow j) xs) o) (woken_other j x.phase x h e))

pub ticks_ids : (h : House) → map id_of (ticks h).flows ≡ map id_of h.flows
ticks_ids h = all_woken_ids (all_late h.tasks h).flows (all_late h.tasks h) ∙ all_late_ids h.tasks h

pub ticks_now : (h : House) → (ticks h).now ≡ h.now
ticks_now h = all_woken_now (all_late h.tasks h).flows (all_late h.tasks h) ∙ all_late_now h.tasks h

-- each flow: its late task, and then it wakes
pub ticks_look : (j : ℕ) (h : House) → Uniq (map id_of h.flows) → look j (ticks h) ≡ ticked_one h.now (look j h)
ticks_look j h u =
    all_woken_look j g.flows g
    ∙ ap (λ (n : ℕ). woken_all n (keep (is_flow j) g.flows) (look j g)) (all_late_now h.tasks h)
    ∙ ap (λ (ys : List Flow). woken_all h.now ys (look j g)) (keep_find id_of (is_flow j) g.flows (λ x y a b. grind (arith, nat_tests)) (rw (all_late_ids h.tasks h) u))
    ∙ ap (λ (o : One). woken_all h.now o.flow o) (all_late_look j h.tasks h)
  where
    g : House
    g = all_late h.tasks h

-- no number is given away
fails_next : (xs : List Flow) (h : House) → (fails xs h).next ≡ h.next
unfolding fails
fails_next [] h = refl
fails_next (x ∷ xs) h = refl

pub wrong_next : (t : Task) (h : House) → (went_wrong t h).next ≡ h.next
wrong_next t h = at (ltb t.attempt t.tries)
  where
    g : House
    g = with_tasks (keep (λ (u : Task). not (is_task t.flow t.step u)) h.tasks) h

    at : (b : Bool) → (cond b (with_tasks (change (is_task t.flow t.step) (again h.now) h.tasks) h) (fails (find (is_flow t.flow) h.flows) g)).next ≡ h.next
    at true = refl
    at false = fails_next (find (is_flow t.flow) h.flows) g

late_next : (t : Task) (h : House) → (late t h).next ≡ h.next
late_next t h = at (is_late h.now t.standing)
  where
    at : (b : Bool) → (cond b (went_wrong t h) h).next ≡ h.next
    at true = wrong_next t h
    at false = refl

all_late_next : (ts : List Task) (h : House) → (all_late ts h).next ≡ h.next
unfolding all_late
all_late_next [] h = refl
all_late_next (t ∷ ts) h = all_late_next ts (late t h) ∙ late_next t h

cmoved_next : (b : Bool) (x : Flow) (h : House) → (cmoved b x h).next ≡ h.next
cmoved_next true x h = refl
cmoved_next false x h = refl

woken_next : (p : Phase) (x : Flow) (h : House) → (woken p x h).next ≡ h.next
unfolding woken
woken_next Busy x h = refl
woken_next (Tasked s) x h = refl
woken_next (Asleep u) x h = cmoved_next (leb u h.now) _ h
woken_next (Listens v w n u) x h = cmoved_next (leb u h.now) _ h
woken_next (Ended v) x h = refl
woken_next Failed x h = refl

all_woken_next : (xs : List Flow) (h : House) → (all_woken xs h).next ≡ h.next
unfolding all_woken
all_woken_next [] h = refl
all_woken_next (x ∷ xs) h = all_woken_next xs (woken x.phase x h) ∙ woken_next x.phase x h

pub ticks_next : (h : House) → (ticks h).next ≡ h.next
ticks_next h = all_woken_next (all_late h.tasks h).flows (all_late h.tasks h) ∙ all_late_next h.tasks h
