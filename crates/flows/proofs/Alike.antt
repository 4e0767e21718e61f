use Rattle.std.proofs.Common.{◌≡◌, ℕ, ◌+◌, ◌%◌, ◌<◌, Bool, true, false, cond, not, ◌&&◌, ◌||◌, T, eqb, ltb, leb, ◌⊎◌, List, [], ◌∷◌, ◌++◌, map, length, sym, refl, ap, ◌∙◌, subst, inl, inr, arith}
use mathlib.Core.List.Memᴰ
use mathlib.Core.List.{Memᴰ}
use Rattle.std.proofs.lemmas.Bool.Decides.{nat_tests}
use Rattle.plans.specs.Plan.{Flow, Name, Block, Word, Phase, Busy, Tasked, Asleep, Listens, Ended, Failed, Rest, same_name, heard, top, size_of, name_ok, word_ok, block_ok, every, moves, still}
use Rattle.flows.specs.House.{Task, House, keep, find, change, is_flow, is_key, is_task, is_over, boxed, listens_for, the_same, first, wanted, moved, wished, step_of, given, with_flows, with_tasks, works, went_wrong, ticks, timed, later, small, Call, Start, Tell, Cancel, Take, Longer, Report, Show, Forget, Tick, Reply, No, Yes, Flow', Out', no, says, starts, told_to, tells as tells_flow, cancels, forgets, hands_out, longer, reports, shows, is_tick, acts, does}
use Rattle.flows.specs.One.{of, One, look}
use Rattle.flows.specs.Fine.{Fine, Good, Asc}
use Rattle.flows.specs.Alike.{Alike, StaysAlike}
use Rattle.flows.specs.Summed.{acts_one, taken_of}
use Rattle.flows.proofs.Summed.{acts_look, is_start}
use Rattle.flows.proofs.Lists.{bool, find_mem, find_none, keep_append, find_keep_other, keep_mem, mem_keep, mem_map, not_nil, eqb_same, eqb_self}
use Rattle.flows.proofs.Sum.{one≡, id_of, wrong_now, wrong_next, ticks_now, ticks_next}
use Rattle.flows.proofs.Kept.{joined, task_at_lem, first_mem, acts_onward}
use Rattle.flows.proofs.Born.{first_least, first_none, soon_both}

-- lists of flows by ascending number that look alike are the same
head_found : (x : Flow) (xs : List Flow) → find (is_flow x.id) (x ∷ xs) ≡ x ∷ []
unfolding find
head_found x xs = rw (eqb_self x.id) refl

pub flows_same : (n : ℕ) (xs ys : List Flow) → Asc n (map id_of xs) → Asc n (map id_of ys) → ((j : ℕ) → find (is_flow j) xs ≡ find (is_flow j) ys) → xs ≡ ys
unfolding find
flows_same n [] [] a b k = refl
flows_same n [] (y ∷ ys) a b k = not_nil _ y (k y.id ∙ head_found y ys)
flows_same n (x ∷ xs) [] a b k = not_nil _ x (sym (k x.id) ∙ head_found x xs)
flows_same n (x ∷ xs) (y ∷ ys) a b k = ends' heads (λ kk. flows_same n xs ys a.2 b.2 kk)
  where
    in_y : Memᴰ x (y ∷ ys)
    in_y = (find_mem (is_flow x.id) (y ∷ ys) x [] (sym (k x.id) ∙ head_found x xs)).0

    in_x : Memᴰ y (x ∷ xs)
    in_x = (find_mem (is_flow y.id) (x ∷ xs) y [] (k y.id ∙ head_found y ys)).0

    cases : (x ≡ y) ⊎ Memᴰ x ys → (y ≡ x) ⊎ Memᴰ y xs → x ≡ y
    cases (inl e) q = e
    cases (inr m) (inl e) = sym e
    cases (inr m) (inr o) = let l : y.id < x.id = b.0 x.id (mem_map id_of ys x m) in let r : x.id < y.id = a.0 y.id (mem_map id_of xs y o) in absurd (omega arith)

    heads : x ≡ y
    heads = cases (Memᴰ.cases_cons in_y) (Memᴰ.cases_cons in_x)

    none : (z : Flow) (zs : List Flow) → ((i : ℕ) → Memᴰ i (map id_of zs) → z.id < i) → (j : ℕ) → j ≡ z.id → find (is_flow j) zs ≡ []
    none z zs f j e = find_none (is_flow j) zs (λ w m. let l : z.id < w.id = f w.id (mem_map id_of zs w m) in grind (arith, nat_tests))

    tails : x ≡ y → (j : ℕ) → (eqb j x.id ≡ true) ⊎ (eqb j x.id ≡ false) → find (is_flow j) xs ≡ find (is_flow j) ys
    tails e j (inl q) = none x xs a.0 j (eqb_same j x.id q) ∙ sym (none y ys b.0 j (eqb_same j x.id q ∙ ap id_of e))
    tails e j (inr q) =
        let p : find (is_flow j) (x ∷ xs) ≡ find (is_flow j) xs = rw q refl in
        let q' : eqb j y.id ≡ false = ap (λ (z : Flow). eqb j z.id) (sym e) ∙ q in
        let r : find (is_flow j) (y ∷ ys) ≡ find (is_flow j) ys = rw q' refl in
        sym p ∙ k j ∙ r

    ends' : x ≡ y → (((j : ℕ) → find (is_flow j) xs ≡ find (is_flow j) ys) → xs ≡ ys) → x ∷ xs ≡ y ∷ ys
    ends' e ih = let t : xs ≡ ys = ih (λ j. tails e j (bool (eqb j x.id))) in cc

-- the good of one is the good of the other
look_alike : (h g : House) → Alike h g → (j : ℕ) → look j h ≡ look j g
look_alike h g a j = one≡ _ _ (ap (find (is_flow j)) a.flows) (a.tasks j)

pub good_alike : (h g : House) → Alike h g → Good h → Good g
good_alike h g a b = record {
  ids = subst (λ (n : ℕ). Asc n (map id_of g.flows)) a.next (subst (λ (xs : List Flow). Asc h.next (map id_of xs)) a.flows b.ids);
  fine = λ j. subst (Fine j) (look_alike h g a j) (b.fine j);
  keys = subst (λ (xs : List Flow). (i j : ℕ) (x y : Flow) → find (is_flow i) xs ≡ x ∷ [] → find (is_flow j) xs ≡ y ∷ [] → x.key ≡ y.key → i ≡ j) a.flows b.keys;
}

alike_back : (h g : House) → Alike h g → Alike g h
alike_back h g a = record { now = sym a.now; next = sym a.next; flows = sym a.flows; tasks = λ j. sym (a.tasks j) }

-- houses that look alike everywhere are alike
by_looks : (h g : House) → Good h → Good g → h.now ≡ g.now → h.next ≡ g.next → ((j : ℕ) → look j h ≡ look j g) → Alike h g
by_looks h g a b n x k = record { now = n; next = x; flows = flows_same h.next h.flows g.flows a.ids (subst (λ (i : ℕ). Asc i (map id_of g.flows)) (sym x) b.ids) (λ j. ap (λ (o : One). o.flow) (k j)); tasks = λ j. ap (λ (o : One). o.task) (k j) }

-- a member here is a member there
mem_alike : (h g : House) (t : Task) → Alike h g → Memᴰ t h.tasks → Memᴰ t g.tasks
mem_alike h g t a m = (keep_mem (of t.flow) g.tasks t (subst (λ (ts : List Task). Memᴰ t ts) (a.tasks t.flow) (mem_keep (of t.flow) h.tasks t m (eqb_self t.flow)))).0

-- so the same task is the soonest
first_alike : (h g : House) (now : ℕ) (ks : List ℕ) → Good h → Good g → Alike h g → first (keep (wanted now ks) h.tasks) ≡ first (keep (wanted now ks) g.tasks)
first_alike h g now ks a b al = go (first hs) refl (first gs) refl
  where
    p : Task → Bool
    p t = wanted now ks t

    hs : List Task
    hs = keep (wanted now ks) h.tasks

    gs : List Task
    gs = keep (wanted now ks) g.tasks

    there : (t : Task) → Memᴰ t hs → Memᴰ t gs
    there t m = let r = keep_mem (wanted now ks) h.tasks t m in mem_keep (wanted now ks) g.tasks t (mem_alike h g t al r.0) r.1

    back : (t : Task) → Memᴰ t gs → Memᴰ t hs
    back t m = let r = keep_mem (wanted now ks) g.tasks t m in mem_keep (wanted now ks) h.tasks t (mem_alike g h t (alike_back h g al) r.0) r.1

    go : (us : List Task) → first hs ≡ us → (vs : List Task) → first gs ≡ vs → first hs ≡ first gs
    go [] e [] f = e ∙ sym f
    go [] e (v ∷ vs) f = absurd (first_none hs v e (back v (first_mem gs v vs f)))
    go (u ∷ us) e [] f = absurd (first_none gs u f (there u (first_mem hs u us e)))
    go (u ∷ us) e (v ∷ vs) f =
        let lu = first_least hs u us e in
        let lv = first_least gs v vs f in
        let mu = first_mem hs u us e in
        let mv = first_mem gs v vs f in
        let q : u.flow ≡ v.flow = soon_both u v (lv.1 u (there u mu)) (lu.1 v (back v mv)) in
        let z : ◌≡◌ {A = List Task} (u ∷ []) (v ∷ []) = sym (task_at_lem h u a (keep_mem (wanted now ks) h.tasks u mu).0) ∙ ap (λ (i : ℕ). keep (of i) h.tasks) q ∙ task_at_lem h v a (mem_alike g h v (alike_back h g al) (keep_mem (wanted now ks) g.tasks v mv).0) in
        e ∙ ap (λ ws. u ∷ ws) lu.0 ∙ z ∙ sym (f ∙ ap (λ ws. v ∷ ws) lv.0)

find_alike : (h g : House) (f s : ℕ) → Alike h g → find (is_task f s) h.tasks ≡ find (is_task f s) g.tasks
find_alike h g f s a = sym (find_keep_other (is_task f s) (of f) h.tasks (λ u q. grind (arith, nat_tests))) ∙ ap (find (is_task f s)) (a.tasks f) ∙ find_keep_other (is_task f s) (of f) g.tasks (λ u q. grind (arith, nat_tests))

-- what is answered rests on what was found alone
cond_reply : (b : Bool) (o p o' p' : Out') → o.reply ≡ o'.reply → p.reply ≡ p'.reply → (cond b o p).reply ≡ (cond b o' p').reply
cond_reply true o p o' p' e f = e
cond_reply false o p o' p' e f = f

abbrev start_reply : List Flow → List Flow → ℕ → Reply
start_reply (y ∷ ys) fs n = Flow' y.id
start_reply [] fs n = cond (leb 1024 (length fs) || leb 4611686018427387904 n) (No 8) (Flow' n)

starts_reply_is : (n : Name) (b : Block) (vs : List ℕ) (xs : List Flow) (h : House) → (starts n b vs xs h).reply ≡ start_reply xs h.flows h.next
unfolding starts
starts_reply_is n b vs (x ∷ xs) h = refl
starts_reply_is n b vs [] h = at (leb 1024 (length h.flows) || leb 4611686018427387904 h.next)
  where
    x : Flow
    x = record { id = h.next; key = n; phase = Busy; frames = Rest b ∷ []; vars = given 0 vs; steps = 0; into = 0; box = []; size = size_of b }

    H : House
    H = record { now = h.now; next = h.next + 1; flows = h.flows ++ (x ∷ []); tasks = h.tasks }

    at : (c : Bool) → (cond c (no 8 h) (says (Flow' h.next) (moved x H))).reply ≡ cond c (No 8) (Flow' h.next)
    at true = refl
    at false = refl

starts_reply : (n : Name) (b : Block) (vs : List ℕ) (xs : List Flow) (h g : House) → h.flows ≡ g.flows → h.next ≡ g.next → (starts n b vs xs h).reply ≡ (starts n b vs xs g).reply
starts_reply n b vs xs h g e f = starts_reply_is n b vs xs h ∙ ap (λ (fs : List Flow). start_reply xs fs h.next) e ∙ ap (λ (i : ℕ). start_reply xs g.flows i) f ∙ sym (starts_reply_is n b vs xs g)

tells_reply : (w : Word) (xs : List Flow) (h g : House) → (tells_flow w xs h).reply ≡ (tells_flow w xs g).reply
unfolding tells_flow
tells_reply w [] h g = refl
tells_reply w (x ∷ xs) h g = cond_reply (is_over x.phase) (no 3 h) _ (no 3 g) _ refl (cond_reply (leb 64 (length x.box) && not (listens_for w x.phase)) (no 8 h) _ (no 8 g) _ refl refl)

cancels_reply : (xs : List Flow) (h g : House) → (cancels xs h).reply ≡ (cancels xs g).reply
unfolding cancels
cancels_reply [] h g = refl
cancels_reply (x ∷ xs) h g = cond_reply (is_over x.phase) (no 3 h) _ (no 3 g) _ refl refl

forgets_reply : (xs : List Flow) (h g : House) → (forgets xs h).reply ≡ (forgets xs g).reply
unfolding forgets
forgets_reply [] h g = refl
forgets_reply (x ∷ xs) h g = cond_reply (is_over x.phase) _ (no 3 h) _ (no 3 g) refl refl

shows_reply : (xs : List Flow) (h g : House) → (shows xs h).reply ≡ (shows xs g).reply
unfolding shows
shows_reply [] h g = refl
shows_reply (x ∷ xs) h g = refl

hands_reply : (ms : ℕ) (ts : List Task) (h g : House) → (hands_out ms ts h).reply ≡ (hands_out ms ts g).reply
unfolding hands_out
hands_reply ms [] h g = refl
hands_reply ms (t ∷ ts) h g = refl

longer_reply : (b ms : ℕ) (ts : List Task) (h g : House) → (longer b ms ts h).reply ≡ (longer b ms ts g).reply
unfolding longer
longer_reply b ms [] h g = refl
longer_reply b ms (t ∷ ts) h g = cond_reply (the_same b t) _ (no 5 h) _ (no 5 g) refl refl

reports_reply : (b : ℕ) (w : Bool) (v : ℕ) (ts : List Task) (h g : House) → (reports b w v ts h).reply ≡ (reports b w v ts g).reply
unfolding reports
reports_reply b w v [] h g = refl
reports_reply b w v (t ∷ ts) h g = cond_reply (the_same b t) _ (no 5 h) _ (no 5 g) refl refl

pub acts_reply : (c : Call) (h g : House) → Good h → Good g → Alike h g → (acts c h).reply ≡ (acts c g).reply
unfolding acts
acts_reply (Start n b xs) h g p q a = cond_reply _ (no 1 h) _ (no 1 g) _ refl (starts_reply n b xs (find (is_key n) h.flows) h g a.flows a.next ∙ ap (λ (ys : List Flow). (starts n b xs (find (is_key n) ys) g).reply) a.flows)
acts_reply (Tell n w v) h g p q a = let wd : Word = record { name = w; value = v % top } in cond_reply (not (name_ok n) || not (word_ok w)) (no 1 h) (tells_flow wd (find (is_key n) h.flows) h) (no 1 g) (tells_flow wd (find (is_key n) g.flows) g) refl (tells_reply wd (find (is_key n) h.flows) h g ∙ ap (λ (ys : List Flow). (tells_flow wd (find (is_key n) ys) g).reply) a.flows)
acts_reply (Cancel n) h g p q a = cond_reply (not (name_ok n)) (no 1 h) _ (no 1 g) _ refl (cancels_reply (find (is_key n) h.flows) h g ∙ ap (λ (ys : List Flow). (cancels (find (is_key n) ys) g).reply) a.flows)
acts_reply (Take ks ms) h g p q a = cond_reply (ltb 64 (length ks) || ltb 86400000 ms) (no 1 h) _ (no 1 g) _ refl (hands_reply ms (first (keep (wanted h.now ks) h.tasks)) h g ∙ ap (λ (ts : List Task). (hands_out ms ts g).reply) (first_alike h g h.now ks p q a ∙ ap (λ (n : ℕ). first (keep (wanted n ks) g.tasks)) a.now))
acts_reply (Longer f s b ms) h g p q a = cond_reply (ltb 86400000 ms) (no 1 h) _ (no 1 g) _ refl (longer_reply b ms (find (is_task f s) h.tasks) h g ∙ ap (λ (ts : List Task). (longer b ms ts g).reply) (find_alike h g f s a))
acts_reply (Report f s b w v) h g p q a = reports_reply b w v (find (is_task f s) h.tasks) h g ∙ ap (λ (ts : List Task). (reports b w v ts g).reply) (find_alike h g f s a)
acts_reply (Show n) h g p q a = cond_reply (not (name_ok n)) (no 1 h) _ (no 1 g) _ refl (shows_reply (find (is_key n) h.flows) h g ∙ ap (λ (ys : List Flow). (shows (find (is_key n) ys) g).reply) a.flows)
acts_reply (Forget n) h g p q a = cond_reply (not (name_ok n)) (no 1 h) _ (no 1 g) _ refl (forgets_reply (find (is_key n) h.flows) h g ∙ ap (λ (ys : List Flow). (forgets (find (is_key n) ys) g).reply) a.flows)
acts_reply (Tick t) h g p q a = cond_reply (small t && ltb 0 t) _ (no 1 h) _ (no 1 g) refl refl

-- START makes alike
moved_alike : (x : Flow) (h g : House) → Alike h g → Alike (moved x h) (moved x g)
moved_alike x h g a = record { now = a.now; next = a.next; flows = ap (λ (n : ℕ). change (is_flow x.id) (λ (y : Flow). (moves 1000 n (still x)).flow) h.flows) a.now ∙ ap (change (is_flow x.id) (λ (y : Flow). (moves 1000 g.now (still x)).flow)) a.flows; tasks = tasks }
  where
    new : ℕ → List Task
    new n = wished n x.id (step_of (moves 1000 n (still x)).flow.phase) (moves 1000 n (still x)).wish

    tasks : (j : ℕ) → keep (of j) (moved x h).tasks ≡ keep (of j) (moved x g).tasks
    tasks j = keep_append (of j) h.tasks (new h.now) ∙ ap (λ (ts : List Task). ts ++ keep (of j) (new h.now)) (a.tasks j) ∙ ap (λ (n : ℕ). keep (of j) g.tasks ++ keep (of j) (new n)) a.now ∙ sym (keep_append (of j) g.tasks (new g.now))

abbrev born : ℕ → Name → Block → List ℕ → Flow
born i n b vs = record { id = i; key = n; phase = Busy; frames = Rest b ∷ []; vars = given 0 vs; steps = 0; into = 0; box = []; size = size_of b }

starts_alike : (n : Name) (b : Block) (vs : List ℕ) (xs : List Flow) (h g : House) → Alike h g → Alike (starts n b vs xs h).house (starts n b vs xs g).house
unfolding starts
starts_alike n b vs (x ∷ xs) h g a = a
starts_alike n b vs [] h g a = at (full h) (full g) (ap (λ (fs : List Flow). leb 1024 (length fs) || leb 4611686018427387904 h.next) a.flows ∙ ap (λ (i : ℕ). leb 1024 (length g.flows) || leb 4611686018427387904 i) a.next)
  where
    full : House → Bool
    full k = leb 1024 (length k.flows) || leb 4611686018427387904 k.next

    x : Flow
    x = born h.next n b vs

    y : Flow
    y = born g.next n b vs

    xy : x ≡ y
    xy = ap (λ (i : ℕ). born i n b vs) a.next

    j : Alike (joined x h) (joined x g)
    j = record { now = a.now; next = ap (λ (i : ℕ). i + 1) a.next; flows = ap (λ (fs : List Flow). fs ++ (x ∷ [])) a.flows; tasks = a.tasks }

    made : Alike (moved x (joined x h)) (moved y (joined y g))
    made = subst (λ (z : Flow). Alike (moved x (joined x h)) (moved z (joined z g))) xy (moved_alike x (joined x h) (joined x g) j)

    at : (c d : Bool) → c ≡ d → Alike (cond c (no 8 h) (says (Flow' h.next) (moved x (joined x h)))).house (cond d (no 8 g) (says (Flow' g.next) (moved y (joined y g)))).house
    at true true e = a
    at true false e = let z : ◌≡◌ {A = ℕ} 0 1 = cc in absurd (omega arith)
    at false true e = let z : ◌≡◌ {A = ℕ} 0 1 = cc in absurd (omega arith)
    at false false e = made

-- time and the next number are moved by no other call
abbrev pub Frame' : House → House → Type 0
Frame' h g = (g.now ≡ h.now) × (g.next ≡ h.next)

cond_frame : (h : House) (b : Bool) (o p : Out') → Frame' h o.house → Frame' h p.house → Frame' h (cond b o p).house
cond_frame h true o p e f = e
cond_frame h false o p e f = f

told_frame : (p : Phase) (w : Word) (x : Flow) (h : House) → Frame' h (told_to p w x h)
unfolding told_to
told_frame Busy w x h = (refl, refl)
told_frame (Tasked s) w x h = (refl, refl)
told_frame (Asleep u) w x h = (refl, refl)
told_frame (Listens v c n u) w x h = at (same_name n w.name)
  where
    at : (b : Bool) → Frame' h (cond b (moved (heard v c w.value 1 x.box x.frames x) h) (with_flows (change (is_flow x.id) (boxed w) h.flows) h))
    at true = (refl, refl)
    at false = (refl, refl)
told_frame (Ended v) w x h = (refl, refl)
told_frame Failed w x h = (refl, refl)

pub tells_frame : (w : Word) (xs : List Flow) (h : House) → Frame' h (tells_flow w xs h).house
unfolding tells_flow
tells_frame w [] h = (refl, refl)
tells_frame w (x ∷ xs) h = cond_frame h (is_over x.phase) (no 3 h) _ (refl, refl) (cond_frame h (leb 64 (length x.box) && not (listens_for w x.phase)) (no 8 h) (says Yes (told_to x.phase w x h)) (refl, refl) (told_frame x.phase w x h))

pub cancels_frame : (xs : List Flow) (h : House) → Frame' h (cancels xs h).house
unfolding cancels
cancels_frame [] h = (refl, refl)
cancels_frame (x ∷ xs) h = cond_frame h (is_over x.phase) (no 3 h) _ (refl, refl) (refl, refl)

pub forgets_frame : (xs : List Flow) (h : House) → Frame' h (forgets xs h).house
unfolding forgets
forgets_frame [] h = (refl, refl)
forgets_frame (x ∷ xs) h = cond_frame h (is_over x.phase) _ (no 3 h) (refl, refl) (refl, refl)

shows_frame : (xs : List Flow) (h : House) → Frame' h (shows xs h).house
unfolding shows
shows_frame [] h = (refl, refl)
shows_frame (x ∷ xs) h = (refl, refl)

pub hands_frame : (ms : ℕ) (ts : List Task) (h : House) → Frame' h (hands_out ms ts h).house
unfolding hands_out
hands_frame ms [] h = (refl, refl)
hands_frame ms (t ∷ ts) h = (refl, refl)

pub longer_frame : (b ms : ℕ) (ts : List Task) (h : House) → Frame' h (longer b ms ts h).house
unfolding longer
longer_frame b ms [] h = (refl, refl)
longer_frame b ms (t ∷ ts) h = cond_frame h (the_same b t) _ (no 5 h) (refl, refl) (refl, refl)

works_frame : (v : ℕ) (xs : List Flow) (h : House) → Frame' h (works v xs h)
unfolding works
works_frame v [] h = (refl, refl)
works_frame v (x ∷ xs) h = (refl, refl)

pub reports_frame : (b : ℕ) (w : Bool) (v : ℕ) (ts : List Task) (h : House) → Frame' h (reports b w v ts h).house
unfolding reports
reports_frame b w v [] h = (refl, refl)
reports_frame b w v (t ∷ ts) h = cond_frame h (the_same b t) (says Yes (inner w)) (no 5 h) (at w) (refl, refl)
  where
    g : House
    g = with_tasks (keep (λ (u : Task). not (is_task t.flow t.step u)) h.tasks) h

    inner : Bool → House
    inner d = cond d (works (v % top) (find (is_flow t.flow) h.flows) g) (went_wrong t h)

    at : (d : Bool) → Frame' h (inner d)
    at true = works_frame (v % top) (find (is_flow t.flow) h.flows) g
    at false = (wrong_now t h, wrong_next t h)

Times : House → House → Type 0
Times H G = (H.now ≡ G.now) × (H.next ≡ G.next)

from_frames : (h g H G : House) → Frame' h H → Frame' g G → Alike h g → Times H G
unfolding Times
from_frames h g H G p q a = (p.0 ∙ a.now ∙ sym q.0, p.1 ∙ a.next ∙ sym q.1)

acts_frame : (c : Call) (h : House) → T (not (is_start c)) → T (not (is_tick c)) → Frame' h (acts c h).house
unfolding acts is_start is_tick
acts_frame (Start n b xs) h i k = absurd i
acts_frame (Tell n w v) h i k = let wd : Word = record { name = w; value = v % top } in cond_frame h (not (name_ok n) || not (word_ok w)) (no 1 h) (tells_flow wd (find (is_key n) h.flows) h) (refl, refl) (tells_frame wd (find (is_key n) h.flows) h)
acts_frame (Cancel n) h i k = cond_frame h (not (name_ok n)) (no 1 h) (cancels (find (is_key n) h.flows) h) (refl, refl) (cancels_frame (find (is_key n) h.flows) h)
acts_frame (Take ks ms) h i k = cond_frame h (ltb 64 (length ks) || ltb 86400000 ms) (no 1 h) (hands_out ms (first (keep (wanted h.now ks) h.tasks)) h) (refl, refl) (hands_frame ms (first (keep (wanted h.now ks) h.tasks)) h)
acts_frame (Longer f s b ms) h i k = cond_frame h (ltb 86400000 ms) (no 1 h) (longer b ms (find (is_task f s) h.tasks) h) (refl, refl) (longer_frame b ms (find (is_task f s) h.tasks) h)
acts_frame (Report f s b w v) h i k = reports_frame b w v (find (is_task f s) h.tasks) h
acts_frame (Show n) h i k = cond_frame h (not (name_ok n)) (no 1 h) (shows (find (is_key n) h.flows) h) (refl, refl) (shows_frame (find (is_key n) h.flows) h)
acts_frame (Forget n) h i k = cond_frame h (not (name_ok n)) (no 1 h) (forgets (find (is_key n) h.flows) h) (refl, refl) (forgets_frame (find (is_key n) h.flows) h)
acts_frame (Tick t) h i k = absurd k

ticks_times : (t : ℕ) (h g : House) → Alike h g → Times (acts (Tick t) h).house (acts (Tick t) g).house
unfolding acts Times
ticks_times t h g a = at (small t && ltb 0 t)
  where
    at : (b : Bool) → ((cond b (says Yes (ticks (timed t h))) (no 1 h)).house.now ≡ (cond b (says Yes (ticks (timed t g))) (no 1 g)).house.now) × ((cond b (says Yes (ticks (timed t h))) (no 1 h)).house.next ≡ (cond b (says Yes (ticks (timed t g))) (no 1 g)).house.next)
    at true = (ticks_now (timed t h) ∙ ap (later t) a.now ∙ sym (ticks_now (timed t g)), ticks_next (timed t h) ∙ a.next ∙ sym (ticks_next (timed t g)))
    at false = (a.now, a.next)

acts_times : (c : Call) (h g : House) → T (not (is_start c)) → Alike h g → Times (acts c h).house (acts c g).house
unfolding is_start is_tick
acts_times (Start n b xs) h g i a = absurd i
acts_times (Tell n w v) h g i a = from_frames h g _ _ (acts_frame (Tell n w v) h tt tt) (acts_frame (Tell n w v) g tt tt) a
acts_times (Cancel n) h g i a = from_frames h g _ _ (acts_frame (Cancel n) h tt tt) (acts_frame (Cancel n) g tt tt) a
acts_times (Take ks ms) h g i a = from_frames h g _ _ (acts_frame (Take ks ms) h tt tt) (acts_frame (Take ks ms) g tt tt) a
acts_times (Longer f s b ms) h g i a = from_frames h g _ _ (acts_frame (Longer f s b ms) h tt tt) (acts_frame (Longer f s b ms) g tt tt) a
acts_times (Report f s b w v) h g i a = from_frames h g _ _ (acts_frame (Report f s b w v) h tt tt) (acts_frame (Report f s b w v) g tt tt) a
acts_times (Show n) h g i a = from_frames h g _ _ (acts_frame (Show n) h tt tt) (acts_frame (Show n) g tt tt) a
acts_times (Forget n) h g i a = from_frames h g _ _ (acts_frame (Forget n) h tt tt) (acts_frame (Forget n) g tt tt) a
acts_times (Tick t) h g i a = ticks_times t h g a

taken_alike : (c : Call) (j : ℕ) (h g : House) → Good h → Good g → Alike h g → taken_of j c h ≡ taken_of j c g
unfolding taken_of
taken_alike (Start n b xs) j h g p q a = refl
taken_alike (Tell n w v) j h g p q a = refl
taken_alike (Cancel n) j h g p q a = refl
taken_alike (Take ks ms) j h g p q a = ap (keep (of j)) (first_alike h g h.now ks p q a ∙ ap (λ (n : ℕ). first (keep (wanted n ks) g.tasks)) a.now)
taken_alike (Longer f s b ms) j h g p q a = refl
taken_alike (Report f s b w v) j h g p q a = refl
taken_alike (Show n) j h g p q a = refl
taken_alike (Forget n) j h g p q a = refl
taken_alike (Tick t) j h g p q a = refl

other_alike : (c : Call) (h g : House) → T (not (is_start c)) → Good h → Good g → Alike h g → Alike (acts c h).house (acts c g).house
unfolding Times
other_alike c h g i p q a = by_looks (acts c h).house (acts c g).house (acts_onward c h p).good (acts_onward c g q).good (acts_times c h g i a).0 (acts_times c h g i a).1
    (λ j. acts_look c j h p (λ z. absurd (T-both (is_start c) i z)) ∙ ap (λ (n : ℕ). acts_one n (taken_of j c h) c (look j h)) a.now ∙ ap (λ (ts : List Task). acts_one g.now ts c (look j h)) (taken_alike c j h g p q a) ∙ ap (acts_one g.now (taken_of j c g) c) (look_alike h g a j) ∙ sym (acts_look c j g q (λ z. absurd (T-both (is_start c) i z))))
  where
    T-both : (b : Bool) → T (not b) → T b → ⊥
    T-both true x y = x
    T-both false x y = y

cond_alike : (b : Bool) (o p o' p' : Out') → Alike o.house o'.house → Alike p.house p'.house → Alike (cond b o p).house (cond b o' p').house
cond_alike true o p o' p' e f = e
cond_alike false o p o' p' e f = f

start_alike : (n : Name) (b : Block) (vs : List ℕ) (h g : House) → Alike h g → Alike (acts (Start n b vs) h).house (acts (Start n b vs) g).house
unfolding acts
start_alike n b vs h g a = cond_alike (not (name_ok n) || not (block_ok b) || ltb 4096 (size_of b) || ltb 16 (length vs) || not (every (λ (x : ℕ). ltb x top) vs)) (no 1 h) (starts n b vs (find (is_key n) h.flows) h) (no 1 g) (starts n b vs (find (is_key n) g.flows) g) a
    (subst (λ (xs : List Flow). Alike (starts n b vs (find (is_key n) h.flows) h).house (starts n b vs (find (is_key n) xs) g).house) a.flows (starts_alike n b vs (find (is_key n) h.flows) h g a))

acts_alike : (c : Call) (h g : House) → Good h → Good g → Alike h g → Alike (acts c h).house (acts c g).house
unfolding is_start
acts_alike (Start n b xs) h g p q a = start_alike n b xs h g a
acts_alike (Tell n w v) h g p q a = other_alike (Tell n w v) h g tt p q a
acts_alike (Cancel n) h g p q a = other_alike (Cancel n) h g tt p q a
acts_alike (Take ks ms) h g p q a = other_alike (Take ks ms) h g tt p q a
acts_alike (Longer f s b ms) h g p q a = other_alike (Longer f s b ms) h g tt p q a
acts_alike (Report f s b w v) h g p q a = other_alike (Report f s b w v) h g tt p q a
acts_alike (Show n) h g p q a = other_alike (Show n) h g tt p q a
acts_alike (Forget n) h g p q a = other_alike (Forget n) h g tt p q a
acts_alike (Tick t) h g p q a = other_alike (Tick t) h g tt p q a

pub stays_alike : StaysAlike
stays_alike h g c p a = (reply, house)
  where
    q : Good g
    q = good_alike h g a p

    early : (eqb h.now 0 && not (is_tick c)) ≡ (eqb g.now 0 && not (is_tick c))
    early = ap (λ (n : ℕ). eqb n 0 && not (is_tick c)) a.now

    reply : (does c h).reply ≡ (does c g).reply
    reply = cond_reply (eqb h.now 0 && not (is_tick c)) (no 10 h) (acts c h) (no 10 g) (acts c g) refl (acts_reply c h g p q a) ∙ ap (λ (b : Bool). (cond b (no 10 g) (acts c g)).reply) early

    house : Alike (does c h).house (does c g).house
    house = subst (λ (b : Bool). Alike (does c h).house (cond b (no 10 g) (acts c g)).house) early (cond_alike (eqb h.now 0 && not (is_tick c)) (no 10 h) (acts c h) (no 10 g) (acts c g) a (acts_alike c h g p q a))
