-- The house is the sum of its flows, for every call.
use Rattle.std.proofs.Common.{◌≡◌, ℕ, ◌+◌, ◌%◌, ◌<◌, Bool, true, false, cond, not, ◌&&◌, ◌||◌, T, eqb, ltb, leb, ◌⊎◌, List, [], ◌∷◌, ◌++◌, map, length, sym, refl, ap, ◌∙◌, subst, inl, inr, arith}
use mathlib.Core.List.{Memᴰ}
use Rattle.std.proofs.lemmas.Bool.Decides.{nat_tests}
use Rattle.plans.specs.Plan.{Name, Block, Rest, Phase, Busy, Tasked, Asleep, Listens, Ended, Failed, Word, Flow, top, same_name, ends, heard, name_ok, word_ok, size_of}
use Rattle.flows.specs.House.{Out, Task, House, keep, find, change, is_flow, is_key, is_task, boxed, stands_as, is_over, listens_for, the_same, later, small, wanted, first, moved, with_flows, with_tasks, works, went_wrong, given, Call, Start, Tell, Cancel, Take, Longer, Report, Show, Forget, Tick, is_tick, acts, does, Out', Yes, Flow', says, no, starts, told_to, tells as tells_flow, cancels, forgets, hands_out, longer, reports, shows, ticks, timed}
use Rattle.flows.specs.One.{of, One, look, moved_one, with_task, wrong_one, works_one, ticked_one}
use Rattle.flows.specs.Fine.{Good}
use Rattle.flows.specs.Summed.{boxed_one, told_one, tells_one, cancels_one, forgets_one, stands_one, takes_one, longer_one, reports_one, acts_one, taken_of, does_one, SumOfFlows}
use Rattle.flows.proofs.Lists.{bool, find_mem, none_find, find_append_none, find_change_other, find_change_same, find_keep_other, find_keep_gone, keep_change_other, keep_change_same, keep_keep, keep_keep_other, keep_gone, eqb_same, eqb_self, cond_same}
use Rattle.flows.proofs.Asc.{asc_uniq}
use Rattle.flows.proofs.Sum.{one≡, moved_other, moved_at, wrong_other, wrong_here, ticks_look}
use Rattle.flows.proofs.Kept.{flow_at_lem, works_here, works_other}

pub same_name_lem : (m n : Name) → same_name m n ≡ true → m ≡ n
unfolding same_name
same_name_lem [] [] e = refl
same_name_lem [] (y ∷ ys) e = let z : ◌≡◌ {A = ℕ} 0 1 = cc in absurd (omega arith)
same_name_lem (x ∷ xs) [] e = let z : ◌≡◌ {A = ℕ} 0 1 = cc in absurd (omega arith)
same_name_lem (x ∷ xs) (y ∷ ys) e = let p : eqb x y ≡ true = grind arith in let q : same_name xs ys ≡ true = grind arith in let r : x ≡ y = eqb_same x y p in let ih : xs ≡ ys = same_name_lem xs ys q in cc

-- BY KEY: what finds a flow by its key in the house finds it in the look at its number, and in no other
pub key_none : (n : Name) (j : ℕ) (h : House) → find (is_key n) h.flows ≡ [] → find (is_key n) (look j h).flow ≡ []
unfolding find
key_none n j h e = go (find (is_flow j) h.flows) refl
  where
    go : (xs : List Flow) → find (is_flow j) h.flows ≡ xs → find (is_key n) (find (is_flow j) h.flows) ≡ []
    go [] q = rw q refl
    go (y ∷ ys) q = let m = find_mem (is_flow j) h.flows y ys q in rw (q, m.2, none_find (is_key n) h.flows y e m.0) refl

pub key_here : (n : Name) (x : Flow) (xs : List Flow) (h : House) → Good h → find (is_key n) h.flows ≡ x ∷ xs → find (is_key n) (look x.id h).flow ≡ x ∷ []
unfolding find
key_here n x xs h a e = let m = find_mem (is_key n) h.flows x xs e in ap (find (is_key n)) (flow_at_lem h x a m.0) ∙ rw m.1 refl

pub key_other : (n : Name) (j : ℕ) (x : Flow) (xs : List Flow) (h : House) → Good h → find (is_key n) h.flows ≡ x ∷ xs → eqb j x.id ≡ false → find (is_key n) (look j h).flow ≡ []
unfolding find
key_other n j x xs h a e f = go (find (is_flow j) h.flows) refl
  where
    m : Memᴰ x h.flows × (is_key n x ≡ true) × (xs ≡ [])
    m = find_mem (is_key n) h.flows x xs e

    at : (y : Flow) → find (is_flow j) h.flows ≡ y ∷ [] → (is_key n y ≡ true) ⊎ (is_key n y ≡ false) → is_key n y ≡ false
    at y q (inr k) = k
    at y q (inl k) = let w : j ≡ x.id = a.keys j x.id y x q (flow_at_lem h x a m.0) (sym (same_name_lem n y.key k) ∙ same_name_lem n x.key m.1) in let z : eqb j x.id ≡ true = rw w (eqb_self x.id) in let c : true ≡ false = sym z ∙ f in let u : ◌≡◌ {A = ℕ} 0 1 = cc in absurd (omega arith)

    go : (ys : List Flow) → find (is_flow j) h.flows ≡ ys → find (is_key n) (find (is_flow j) h.flows) ≡ []
    go [] q = rw q refl
    go (y ∷ ys) q =
        let r : ys ≡ [] = (find_mem (is_flow j) h.flows y ys q).2 in
        let q' : find (is_flow j) h.flows ≡ y ∷ [] = q ∙ ap (λ zs. y ∷ zs) r in
        rw (q', at y q' (bool (is_key n y))) refl

-- so a call by key is the call on each flow
by_key_lem : (n : Name) (j : ℕ) (h : House) (K : List Flow → House) (k : List Flow → One → One) → Good h →
    (look j (K []) ≡ look j h) → ((o : One) → k [] o ≡ o) →
    ((x : Flow) (xs : List Flow) → Memᴰ x h.flows → eqb j x.id ≡ false → look j (K (x ∷ xs)) ≡ look j h) →
    ((x : Flow) (xs : List Flow) → Memᴰ x h.flows → look x.id (K (x ∷ xs)) ≡ k (x ∷ []) (look x.id h)) →
    look j (K (find (is_key n) h.flows)) ≡ k (find (is_key n) (look j h).flow) (look j h)
by_key_lem n j h K k a none rest other here = go (find (is_key n) h.flows) refl
  where
    go : (xs : List Flow) → find (is_key n) h.flows ≡ xs → look j (K (find (is_key n) h.flows)) ≡ k (find (is_key n) (look j h).flow) (look j h)
    go [] e = ap (λ (ys : List Flow). look j (K ys)) e ∙ none ∙ sym (ap (λ (ys : List Flow). k ys (look j h)) (key_none n j h e) ∙ rest (look j h))
    go (x ∷ xs) e = at (bool (eqb j x.id))
      where
        m : Memᴰ x h.flows
        m = (find_mem (is_key n) h.flows x xs e).0

        at : (eqb j x.id ≡ true) ⊎ (eqb j x.id ≡ false) → look j (K (find (is_key n) h.flows)) ≡ k (find (is_key n) (look j h).flow) (look j h)
        at (inr f) = ap (λ (ys : List Flow). look j (K ys)) e ∙ other x xs m f ∙ sym (ap (λ (ys : List Flow). k ys (look j h)) (key_other n j x xs h a e f) ∙ rest (look j h))
        at (inl f) = ap (λ (ys : List Flow). look j (K ys)) e ∙ subst (λ (i : ℕ). look i (K (x ∷ xs)) ≡ k (find (is_key n) (look i h).flow) (look i h)) (sym (eqb_same j x.id f)) (here x xs m ∙ sym (ap (λ (ys : List Flow). k ys (look x.id h)) (key_here n x xs h a e)))

-- TELL
boxed_other : (j : ℕ) (w : Word) (x : Flow) (h : House) → eqb j x.id ≡ false → look j (with_flows (change (is_flow x.id) (boxed w) h.flows) h) ≡ look j h
boxed_other j w x h e = one≡ _ _ (find_change_other (is_flow j) (is_flow x.id) (boxed w) h.flows (λ y f. grind (arith, nat_tests)) (λ y f. grind (arith, nat_tests))) refl

boxed_here : (w : Word) (x : Flow) (h : House) → look x.id (with_flows (change (is_flow x.id) (boxed w) h.flows) h) ≡ boxed_one w (look x.id h)
boxed_here w x h = one≡ _ _ (find_change_same (is_flow x.id) (boxed w) h.flows (λ y e. e)) refl

told_other : (j : ℕ) (p : Phase) (w : Word) (x : Flow) (h : House) → eqb j x.id ≡ false → look j (told_to p w x h) ≡ look j h
unfolding told_to
told_other j Busy w x h e = boxed_other j w x h e
told_other j (Tasked s) w x h e = boxed_other j w x h e
told_other j (Asleep u) w x h e = boxed_other j w x h e
told_other j (Listens v c n u) w x h e = at (same_name n w.name)
  where
    at : (b : Bool) → look j (cond b (moved (heard v c w.value 1 x.box x.frames x) h) (with_flows (change (is_flow x.id) (boxed w) h.flows) h)) ≡ look j h
    at true = moved_other j (heard v c w.value 1 x.box x.frames x) h e
    at false = boxed_other j w x h e
told_other j (Ended v) w x h e = refl
told_other j Failed w x h e = refl

told_here : (p : Phase) (w : Word) (x : Flow) (h : House) → look x.id (told_to p w x h) ≡ told_one h.now p w x (look x.id h)
unfolding told_to told_one
told_here Busy w x h = boxed_here w x h
told_here (Tasked s) w x h = boxed_here w x h
told_here (Asleep u) w x h = boxed_here w x h
told_here (Listens v c n u) w x h = at (same_name n w.name)
  where
    z : Flow
    z = heard v c w.value 1 x.box x.frames x

    at : (b : Bool) → look x.id (cond b (moved z h) (with_flows (change (is_flow x.id) (boxed w) h.flows) h)) ≡ cond b (moved_one h.now z (look x.id h)) (boxed_one w (look x.id h))
    at true = moved_at x.id z h refl
    at false = boxed_here w x h
told_here (Ended v) w x h = refl
told_here Failed w x h = refl

pub tells_look : (n : Name) (j : ℕ) (w : Word) (h : House) → Good h → look j (tells_flow w (find (is_key n) h.flows) h).house ≡ tells_one h.now w (find (is_key n) (look j h).flow) (look j h)
unfolding tells_flow tells_one
tells_look n j w h a = by_key_lem n j h (λ xs. (tells_flow w xs h).house) (tells_one h.now w) a refl (λ o. refl)
    (λ x xs m e. other x e (is_over x.phase) (leb 64 (length x.box) && not (listens_for w x.phase)))
    (λ x xs m. here x (is_over x.phase) (leb 64 (length x.box) && not (listens_for w x.phase)))
  where
    other : (x : Flow) → eqb j x.id ≡ false → (c d : Bool) → look j (cond c (no 3 h) (cond d (no 8 h) (says Yes (told_to x.phase w x h)))).house ≡ look j h
    other x e true d = refl
    other x e false true = refl
    other x e false false = told_other j x.phase w x h e

    here : (x : Flow) (c d : Bool) → look x.id (cond c (no 3 h) (cond d (no 8 h) (says Yes (told_to x.phase w x h)))).house ≡ cond c (look x.id h) (cond d (look x.id h) (told_one h.now x.phase w x (look x.id h)))
    here x true d = refl
    here x false true = refl
    here x false false = told_here x.phase w x h

-- CANCEL
pub cancels_look : (n : Name) (j : ℕ) (h : House) → Good h → look j (cancels (find (is_key n) h.flows) h).house ≡ cancels_one (find (is_key n) (look j h).flow) (look j h)
unfolding cancels cancels_one
cancels_look n j h a = by_key_lem n j h (λ xs. (cancels xs h).house) cancels_one a refl (λ o. refl) (λ x xs m e. other x e (is_over x.phase)) (λ x xs m. here x (is_over x.phase))
  where
    p : Flow → Task → Bool
    p x t = not (eqb x.id t.flow)

    g : Flow → House
    g x = record { now = h.now; next = h.next; flows = change (is_flow x.id) (ends Failed) h.flows; tasks = keep (p x) h.tasks }

    other : (x : Flow) → eqb j x.id ≡ false → (c : Bool) → look j (cond c (no 3 h) (says Yes (g x))).house ≡ look j h
    other x e true = refl
    other x e false = one≡ _ _ (find_change_other (is_flow j) (is_flow x.id) (ends Failed) h.flows (λ y f. grind (arith, nat_tests)) (λ y f. grind (arith, nat_tests))) (keep_keep_other (of j) (p x) h.tasks (λ u f. grind (arith, nat_tests)))

    here : (x : Flow) (c : Bool) → look x.id (cond c (no 3 h) (says Yes (g x))).house ≡ cond c (look x.id h) (record { flow = map (ends Failed) (look x.id h).flow; task = [] })
    here x true = refl
    here x false = one≡ _ _ (find_change_same (is_flow x.id) (ends Failed) h.flows (λ y e. e)) (keep_gone (of x.id) (p x) h.tasks (λ u e. grind (arith, nat_tests)))

-- FORGET
pub forgets_look : (n : Name) (j : ℕ) (h : House) → Good h → look j (forgets (find (is_key n) h.flows) h).house ≡ forgets_one (find (is_key n) (look j h).flow) (look j h)
unfolding forgets forgets_one
forgets_look n j h a = by_key_lem n j h (λ xs. (forgets xs h).house) forgets_one a refl (λ o. refl) (λ x xs m e. other x e (is_over x.phase)) (λ x xs m. here x (is_over x.phase))
  where
    p : Flow → Flow → Bool
    p x y = not (is_flow x.id y)

    g : Flow → House
    g x = with_flows (keep (p x) h.flows) h

    other : (x : Flow) → eqb j x.id ≡ false → (c : Bool) → look j (cond c (says Yes (g x)) (no 3 h)).house ≡ look j h
    other x e true = one≡ _ _ (find_keep_other (is_flow j) (p x) h.flows (λ y q. grind (arith, nat_tests))) refl
    other x e false = refl

    here : (x : Flow) (c : Bool) → look x.id (cond c (says Yes (g x)) (no 3 h)).house ≡ cond c (record { flow = []; task = (look x.id h).task }) (look x.id h)
    here x true = one≡ _ _ (find_keep_gone (is_flow x.id) (p x) h.flows (λ y q. grind (arith, nat_tests))) refl
    here x false = refl

-- BY NUMBER
by_task_lem : (f s j : ℕ) (h : House) (K : List Task → House) (k : List Task → One → One) →
    (look j (K []) ≡ look j h) → ((o : One) → k [] o ≡ o) →
    ((t : Task) (ts : List Task) → eqb j t.flow ≡ false → look j (K (t ∷ ts)) ≡ look j h) →
    ((t : Task) (ts : List Task) → look t.flow (K (t ∷ ts)) ≡ k (t ∷ ts) (look t.flow h)) →
    look j (K (find (is_task f s) h.tasks)) ≡ k (find (is_task f s) (look j h).task) (look j h)
by_task_lem f s j h K k none rest other here = at (bool (eqb j f))
  where
    flow_is_lem : (t : Task) (ts : List Task) → find (is_task f s) h.tasks ≡ t ∷ ts → t.flow ≡ f
    flow_is_lem t ts e = let m : is_task f s t ≡ true = (find_mem (is_task f s) h.tasks t ts e).1 in grind (arith, nat_tests)

    at : (eqb j f ≡ true) ⊎ (eqb j f ≡ false) → look j (K (find (is_task f s) h.tasks)) ≡ k (find (is_task f s) (look j h).task) (look j h)
    at (inl e) = ap (λ (ts : List Task). look j (K ts)) refl ∙ go (find (is_task f s) h.tasks) refl ∙ sym (ap (λ (ts : List Task). k ts (look j h)) (find_keep_other (is_task f s) (of j) h.tasks (λ u q. grind (arith, nat_tests))))
      where
        go : (ts : List Task) → find (is_task f s) h.tasks ≡ ts → look j (K (find (is_task f s) h.tasks)) ≡ k (find (is_task f s) h.tasks) (look j h)
        go [] q = rw q (none ∙ sym (rest (look j h)))
        go (t ∷ ts) q = rw q (subst (λ (i : ℕ). look i (K (t ∷ ts)) ≡ k (t ∷ ts) (look i h)) (flow_is_lem t ts q ∙ sym (eqb_same j f e)) (here t ts))
    at (inr e) = go (find (is_task f s) h.tasks) refl ∙ sym (ap (λ (ts : List Task). k ts (look j h)) (find_keep_gone (is_task f s) (of j) h.tasks (λ u q. grind (arith, nat_tests))) ∙ rest (look j h))
      where
        go : (ts : List Task) → find (is_task f s) h.tasks ≡ ts → look j (K (find (is_task f s) h.tasks)) ≡ look j h
        go [] q = rw q none
        go (t ∷ ts) q = rw q (other t ts (rw (flow_is_lem t ts q) e))

pub stands_other : (j u : ℕ) (t : Task) (h : House) → eqb j t.flow ≡ false → look j (with_tasks (change (is_task t.flow t.step) (stands_as (Out u)) h.tasks) h) ≡ look j h
stands_other j u t h e = one≡ _ _ refl (keep_change_other (of j) (is_task t.flow t.step) (stands_as (Out u)) h.tasks (λ v f. grind (arith, nat_tests)) (λ v f. grind (arith, nat_tests)))

pub stands_here : (u : ℕ) (t : Task) (h : House) → look t.flow (with_tasks (change (is_task t.flow t.step) (stands_as (Out u)) h.tasks) h) ≡ stands_one u t (look t.flow h)
stands_here u t h = one≡ _ _ refl (keep_change_same (of t.flow) (is_task t.flow t.step) (stands_as (Out u)) h.tasks (λ v f. grind (arith, nat_tests)) (λ v f. grind (arith, nat_tests)))

pub longer_look : (f s b ms j : ℕ) (h : House) → look j (longer b ms (find (is_task f s) h.tasks) h).house ≡ longer_one b (h.now + ms) (find (is_task f s) (look j h).task) (look j h)
unfolding longer longer_one
longer_look f s b ms j h = by_task_lem f s j h (λ ts. (longer b ms ts h).house) (longer_one b (h.now + ms)) refl (λ o. refl) (λ t ts e. other t e (the_same b t)) (λ t ts. here t (the_same b t))
  where
    g : Task → House
    g t = with_tasks (change (is_task t.flow t.step) (stands_as (Out (h.now + ms))) h.tasks) h

    other : (t : Task) → eqb j t.flow ≡ false → (c : Bool) → look j (cond c (says Yes (g t)) (no 5 h)).house ≡ look j h
    other t e true = stands_other j (h.now + ms) t h e
    other t e false = refl

    here : (t : Task) (c : Bool) → look t.flow (cond c (says Yes (g t)) (no 5 h)).house ≡ cond c (stands_one (h.now + ms) t (look t.flow h)) (look t.flow h)
    here t true = stands_here (h.now + ms) t h
    here t false = refl

-- REPORT
worked_other : (j v : ℕ) (t : Task) (h : House) → eqb j t.flow ≡ false → look j (works v (find (is_flow t.flow) h.flows) (with_tasks (keep (λ (u : Task). not (is_task t.flow t.step u)) h.tasks) h)) ≡ look j h
worked_other j v t h e = works_other j v t.flow (find (is_flow t.flow) h.flows) h.flows (with_tasks (keep (λ (u : Task). not (is_task t.flow t.step u)) h.tasks) h) refl e ∙ one≡ _ _ refl (keep_keep_other (of j) (λ (u : Task). not (is_task t.flow t.step u)) h.tasks (λ u f. grind (arith, nat_tests)))

worked_here : (v : ℕ) (t : Task) (h : House) → look t.flow (works v (find (is_flow t.flow) h.flows) (with_tasks (keep (λ (u : Task). not (is_task t.flow t.step u)) h.tasks) h)) ≡ works_one h.now v (look t.flow h).flow (with_task (keep (λ (u : Task). not (is_task t.flow t.step u)) (look t.flow h).task) (look t.flow h))
worked_here v t h = works_here v t.flow (find (is_flow t.flow) h.flows) h.flows (with_tasks (keep (λ (u : Task). not (is_task t.flow t.step u)) h.tasks) h) refl ∙ ap (λ (ts : List Task). works_one h.now v (look t.flow h).flow (with_task ts (look t.flow h))) (keep_keep (of t.flow) (λ (u : Task). not (is_task t.flow t.step u)) h.tasks)

pub reports_look : (f s b : ℕ) (well : Bool) (v j : ℕ) (h : House) → look j (reports b well v (find (is_task f s) h.tasks) h).house ≡ reports_one h.now b well v (find (is_task f s) (look j h).task) (look j h)
unfolding reports reports_one
reports_look f s b well v j h = by_task_lem f s j h (λ ts. (reports b well v ts h).house) (reports_one h.now b well v) refl (λ o. refl) (λ t ts e. other t e (the_same b t) well) (λ t ts. here t (the_same b t) well)
  where
    g : Task → House
    g t = works (v % top) (find (is_flow t.flow) h.flows) (with_tasks (keep (λ (u : Task). not (is_task t.flow t.step u)) h.tasks) h)

    other : (t : Task) → eqb j t.flow ≡ false → (c d : Bool) → look j (cond c (says Yes (cond d (g t) (went_wrong t h))) (no 5 h)).house ≡ look j h
    other t e true true = worked_other j (v % top) t h e
    other t e true false = wrong_other j t h e
    other t e false d = refl

    here : (t : Task) (c d : Bool) → look t.flow (cond c (says Yes (cond d (g t) (went_wrong t h))) (no 5 h)).house ≡ cond c (cond d (works_one h.now (v % top) (look t.flow h).flow (with_task (keep (λ (u : Task). not (is_task t.flow t.step u)) (look t.flow h).task) (look t.flow h))) (wrong_one h.now t (look t.flow h))) (look t.flow h)
    here t true true = worked_here (v % top) t h
    here t true false = wrong_here t h
    here t false d = refl

-- TAKE
pub first_one : (ts : List Task) (u : Task) (us : List Task) → first ts ≡ u ∷ us → us ≡ []
unfolding first
first_one [] u us e = let z : ◌≡◌ {A = ℕ} 0 1 = cc in absurd (omega arith)
first_one (t ∷ ts) u us e = go (first ts) refl
  where
    pick : (v : Task) (b : Bool) → cond b (v ∷ []) (t ∷ []) ≡ u ∷ us → us ≡ []
    pick v true k = cc
    pick v false k = cc

    go : (r : List Task) → first ts ≡ r → us ≡ []
    go [] q = let k : ◌≡◌ {A = List Task} (t ∷ []) (u ∷ us) = rw q at e in cc
    go (v ∷ vs) q = pick v _ (rw q at e)

pub takes_look : (ms j : ℕ) (ts : List Task) (h : House) → ((t : Task) (us : List Task) → ts ≡ t ∷ us → us ≡ []) → look j (hands_out ms ts h).house ≡ takes_one (h.now + ms) (keep (of j) ts) (look j h)
unfolding hands_out takes_one keep
takes_look ms j [] h k = refl
takes_look ms j (t ∷ us) h k = at (bool (of j t))
  where
    at : (of j t ≡ true) ⊎ (of j t ≡ false) → look j (hands_out ms (t ∷ us) h).house ≡ takes_one (h.now + ms) (keep (of j) (t ∷ us)) (look j h)
    at (inl e) = rw e (subst (λ (i : ℕ). look i (hands_out ms (t ∷ us) h).house ≡ stands_one (h.now + ms) t (look i h)) (sym (eqb_same j t.flow e)) (stands_here (h.now + ms) t h))
    at (inr e) = rw (e, k t us refl) (stands_other j (h.now + ms) t h e)

-- START
pub starts_look : (n : Name) (b : Block) (vs : List ℕ) (xs : List Flow) (j : ℕ) (h : House) → j < h.next → look j (starts n b vs xs h).house ≡ look j h
unfolding starts find
starts_look n b vs (x ∷ xs) j h l = refl
starts_look n b vs [] j h l = at (leb 1024 (length h.flows) || leb 4611686018427387904 h.next)
  where
    x : Flow
    x = record { id = h.next; key = n; phase = Busy; frames = Rest b ∷ []; vars = given 0 vs; steps = 0; into = 0; box = []; size = size_of b }

    H : House
    H = record { now = h.now; next = h.next + 1; flows = h.flows ++ (x ∷ []); tasks = h.tasks }

    ne : eqb j h.next ≡ false
    ne = grind (arith, nat_tests)

    at : (c : Bool) → look j (cond c (no 8 h) (says (Flow' h.next) (moved x H))).house ≡ look j h
    at true = refl
    at false = moved_other j x H ne ∙ one≡ _ _ (find_append_none (is_flow j) h.flows (x ∷ []) (rw ne refl)) refl

look_cond : (j : ℕ) (b : Bool) (o p : Out') (q r : One) → look j o.house ≡ q → look j p.house ≡ r → look j (cond b o p).house ≡ cond b q r
look_cond j true o p q r e f = e
look_cond j false o p q r e f = f

unfoldable pub is_start : Call → Bool
is_start (Start n b xs) = true
is_start (Tell n w v) = false
is_start (Cancel n) = false
is_start (Take ks ms) = false
is_start (Longer f s b ms) = false
is_start (Report f s b w v) = false
is_start (Show n) = false
is_start (Forget n) = false
is_start (Tick t) = false

pub acts_look : (c : Call) (j : ℕ) (h : House) → Good h → (T (is_start c) → j < h.next) → look j (acts c h).house ≡ acts_one h.now (taken_of j c h) c (look j h)
unfolding acts acts_one taken_of shows is_start
acts_look (Start n b xs) j h a l = look_cond j _ (no 1 h) (starts n b xs (find (is_key n) h.flows) h) (look j h) (look j h) refl (starts_look n b xs (find (is_key n) h.flows) j h (l tt)) ∙ cond_same _ (look j h)
acts_look (Tell n w v) j h a l = let wd : Word = record { name = w; value = v % top } in look_cond j (not (name_ok n) || not (word_ok w)) (no 1 h) (tells_flow wd (find (is_key n) h.flows) h) (look j h) (tells_one h.now wd (find (is_key n) (look j h).flow) (look j h)) refl (tells_look n j wd h a)
acts_look (Cancel n) j h a l = look_cond j (not (name_ok n)) (no 1 h) (cancels (find (is_key n) h.flows) h) (look j h) (cancels_one (find (is_key n) (look j h).flow) (look j h)) refl (cancels_look n j h a)
acts_look (Take ks ms) j h a l = let ts : List Task = first (keep (wanted h.now ks) h.tasks) in look_cond j (ltb 64 (length ks) || ltb 86400000 ms) (no 1 h) (hands_out ms ts h) (look j h) (takes_one (h.now + ms) (keep (of j) ts) (look j h)) refl (takes_look ms j ts h (λ t us q. first_one (keep (wanted h.now ks) h.tasks) t us q))
acts_look (Longer f s b ms) j h a l = look_cond j (ltb 86400000 ms) (no 1 h) (longer b ms (find (is_task f s) h.tasks) h) (look j h) (longer_one b (h.now + ms) (find (is_task f s) (look j h).task) (look j h)) refl (longer_look f s b ms j h)
acts_look (Report f s b w v) j h a l = reports_look f s b w v j h
acts_look (Show n) j h a l = look_cond j (not (name_ok n)) (no 1 h) (shows (find (is_key n) h.flows) h) (look j h) (look j h) refl (shown (find (is_key n) h.flows)) ∙ cond_same _ (look j h)
  where
    shown : (xs : List Flow) → look j (shows xs h).house ≡ look j h
    shown [] = refl
    shown (x ∷ xs) = refl
acts_look (Forget n) j h a l = look_cond j (not (name_ok n)) (no 1 h) (forgets (find (is_key n) h.flows) h) (look j h) (forgets_one (find (is_key n) (look j h).flow) (look j h)) refl (forgets_look n j h a)
acts_look (Tick t) j h a l = look_cond j (small t && ltb 0 t) (says Yes (ticks (timed t h))) (no 1 h) (ticked_one (later t h.now) (look j h)) (look j h) (ticks_look j (timed t h) (asc_uniq h.next _ a.ids)) refl

pub does_look : (c : Call) (j : ℕ) (h : House) → Good h → j < h.next → look j (does c h).house ≡ does_one h.now (taken_of j c h) c (look j h)
does_look c j h a l = look_cond j (eqb h.now 0 && not (is_tick c)) (no 10 h) (acts c h) (look j h) (acts_one h.now (taken_of j c h) c (look j h)) refl (acts_look c j h a (λ z. l))

pub sum_of_flows : SumOfFlows
sum_of_flows h c j a l = does_look c j h a l
