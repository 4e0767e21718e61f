-- What is called of one flow changes no other.
use Rattle.std.proofs.Common.{◌≡◌, ℕ, ◌+◌, ◌<◌, Bool, true, false, cond, not, ◌&&◌, T, eqb, ltb, List, [], ◌∷◌, sym, refl, ap, ◌∙◌, subst, arith}
use mathlib.Core.List.{Memᴰ}
use Rattle.std.proofs.lemmas.Bool.Decides.{nat_tests}
use Rattle.plans.specs.Plan.{Name, Flow, same_name}
use Rattle.flows.specs.House.{Task, House, find, is_flow, is_key, is_task, Call, Start, Tell, Cancel, Take, Longer, Report, Show, Forget, Tick, is_tick, does}
use Rattle.flows.specs.One.{of, One, look}
use Rattle.flows.specs.Fine.{Good}
use Rattle.flows.specs.Promise.{Apart, ApartByNumber, key_in, flow_in}
use Rattle.flows.specs.Summed.{tells_one, cancels_one, forgets_one, longer_one, reports_one, acts_one, taken_of, does_one}
use Rattle.flows.proofs.Lists.{find_mem, keep_mem, find_keep_gone, eqb_same, cond_same}
use Rattle.flows.proofs.Kept.{flow_at_lem, task_at_lem, id_below, run_good}
use Rattle.flows.proofs.Promised.{known}
use Rattle.flows.proofs.Summed.{does_look}

not_true : (b : Bool) → T (not b) → b ≡ false
not_true true t = absurd t
not_true false t = refl

-- who looks as before is there as before
flow_stays : (h g : House) (x : Flow) → Good h → Memᴰ x h.flows → look x.id g ≡ look x.id h → Memᴰ x g.flows
flow_stays h g x a m e = (find_mem (is_flow x.id) g.flows x [] (ap (λ (o : One). o.flow) e ∙ flow_at_lem h x a m)).0

task_stays : (h g : House) (t : Task) → Good h → Memᴰ t h.tasks → look t.flow g ≡ look t.flow h → Memᴰ t g.tasks
task_stays h g t a m e = (keep_mem (of t.flow) g.tasks t (subst (λ (ts : List Task). Memᴰ t ts) (sym (ap (λ (o : One). o.task) e ∙ task_at_lem h t a m)) (Memᴰ.head refl))).0

does_still : (now : ℕ) (ts : List Task) (c : Call) (o : One) → acts_one now ts c o ≡ o → does_one now ts c o ≡ o
does_still now ts c o e = ap (λ (p : One). cond (eqb now 0 && not (is_tick c)) o p) e ∙ cond_same _ o

-- a call by a key is no matter of a flow with another
key_still : (now : ℕ) (ts : List Task) (c : Call) (n : Name) (o : One) → T (not (is_tick c)) → key_in c ≡ n ∷ [] → find (is_key n) o.flow ≡ [] → acts_one now ts c o ≡ o
unfolding acts_one key_in tells_one cancels_one forgets_one is_tick
key_still now ts (Start m b xs) n o i e f = refl
key_still now ts (Tell m w v) n o i e f = let q : m ≡ n = cc in rw (q, f) (cond_same _ o)
key_still now ts (Cancel m) n o i e f = let q : m ≡ n = cc in rw (q, f) (cond_same _ o)
key_still now ts (Take ks ms) n o i e f = let z : ◌≡◌ {A = ℕ} 0 1 = cc in absurd (omega arith)
key_still now ts (Longer g s a ms) n o i e f = let z : ◌≡◌ {A = ℕ} 0 1 = cc in absurd (omega arith)
key_still now ts (Report g s a w v) n o i e f = let z : ◌≡◌ {A = ℕ} 0 1 = cc in absurd (omega arith)
key_still now ts (Show m) n o i e f = refl
key_still now ts (Forget m) n o i e f = let q : m ≡ n = cc in rw (q, f) (cond_same _ o)
key_still now ts (Tick t) n o i e f = absurd i

pub apart : Apart
unfolding find
apart h c n r i e x m k =
    let a = run_good h r in
    let f : find (is_key n) (look x.id h).flow ≡ [] = ap (find (is_key n)) (flow_at_lem h x a m) ∙ rw (not_true (same_name n x.key) k) refl in
    flow_stays h (does c h).house x a m (does_look c x.id h a (id_below h x a m) ∙ does_still h.now (taken_of x.id c h) c (look x.id h) (key_still h.now (taken_of x.id c h) c n (look x.id h) i e f))

-- nor one by a number
task_none : (f s j : ℕ) (h : House) → eqb f j ≡ false → find (is_task f s) (look j h).task ≡ []
task_none f s j h e = find_keep_gone (is_task f s) (of j) h.tasks (λ u q. grind (arith, nat_tests))

number_still : (c : Call) (f j : ℕ) (h : House) (ts : List Task) → flow_in c ≡ f ∷ [] → eqb f j ≡ false → acts_one h.now ts c (look j h) ≡ look j h
unfolding acts_one flow_in longer_one reports_one
number_still (Start m b xs) f j h ts e k = refl
number_still (Tell m w v) f j h ts e k = let z : ◌≡◌ {A = ℕ} 0 1 = cc in absurd (omega arith)
number_still (Cancel m) f j h ts e k = let z : ◌≡◌ {A = ℕ} 0 1 = cc in absurd (omega arith)
number_still (Take ks ms) f j h ts e k = let z : ◌≡◌ {A = ℕ} 0 1 = cc in absurd (omega arith)
number_still (Longer g s a ms) f j h ts e k = let q : g ≡ f = cc in rw q (ap (λ (us : List Task). cond (ltb 86400000 ms) (look j h) (longer_one a (h.now + ms) us (look j h))) (task_none f s j h k) ∙ cond_same _ (look j h))
number_still (Report g s a w v) f j h ts e k = let q : g ≡ f = cc in rw q (ap (λ (us : List Task). reports_one h.now a w v us (look j h)) (task_none f s j h k))
number_still (Show m) f j h ts e k = refl
number_still (Forget m) f j h ts e k = let z : ◌≡◌ {A = ℕ} 0 1 = cc in absurd (omega arith)
number_still (Tick t) f j h ts e k = let z : ◌≡◌ {A = ℕ} 0 1 = cc in absurd (omega arith)

pub apart_by_number : ApartByNumber
apart_by_number h c f r e = (flow, task)
  where
    a : Good h
    a = run_good h r

    same : (j : ℕ) → j < h.next → eqb f j ≡ false → look j (does c h).house ≡ look j h
    same j l k = does_look c j h a l ∙ does_still h.now (taken_of j c h) c (look j h) (number_still c f j h (taken_of j c h) e k)

    flow : (x : Flow) → Memᴰ x h.flows → T (not (is_flow f x)) → Memᴰ x (does c h).house.flows
    flow x m k = flow_stays h (does c h).house x a m (same x.id (id_below h x a m) (not_true (is_flow f x) k))

    task : (t : Task) → Memᴰ t h.tasks → T (not (eqb f t.flow)) → Memᴰ t (does c h).house.tasks
    task t m k =
        let w = known h t a m in
        let n = find_mem (is_flow t.flow) h.flows w.flow [] w.stands in
        let l : t.flow < h.next = rw (eqb_same t.flow w.flow.id n.1) (id_below h w.flow a n.0) in
        task_stays h (does c h).house t a m (same t.flow l (not_true (eqb f t.flow) k))
