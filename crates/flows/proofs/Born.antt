use Rattle.std.proofs.Common.{◌≡◌, ℕ, ◌<◌, Bool, true, false, cond, not, ◌&&◌, ◌||◌, eqb, ltb, leb, ◌⊎◌, List, [], ◌∷◌, length, sym, refl, ap, ◌∙◌, subst, inl, inr, arith}
use mathlib.Core.List.{Memᴰ}
use Rattle.std.proofs.lemmas.Bool.Decides.{nat_tests}
use Rattle.plans.specs.Plan.{Name, Block, Flow, name_ok, block_ok, size_of, top, every}
use Rattle.flows.specs.House.{Task, House, keep, find, first, wanted, sooner, is_flow, is_key, No, Flow', Out', no, says, acts, is_tick, starts, moved}
use Rattle.flows.specs.One.{of, look, moved_one}
use Rattle.flows.specs.Fine.{Fine, absent, calm, tasked, Good}
use Rattle.flows.specs.Summed.{new_flow, BornAlone, TakesLeast}
use Rattle.flows.proofs.Lists.{bool, find_mem, find_none, find_append, keep_mem, mem_keep, not_nil, eqb_self}
use Rattle.flows.proofs.Sum.{one≡, moved_here}
use Rattle.flows.proofs.Kept.{joined, id_below, task_at_lem, first_mem}

no_flow : (B : Type 0) (k i : ℕ) → No k ≡ Flow' i → B
no_flow B k i e = let z : ◌≡◌ {A = ℕ} 0 1 = cc in absurd (omega arith)

-- one that joins, and is alone
pub born_look : (h : House) (x : Flow) → Good h → x.id ≡ h.next → look x.id (moved x (joined x h)) ≡ moved_one h.now x (record { flow = x ∷ []; task = [] })
unfolding find
born_look h x a i = moved_here x (joined x h) ∙ ap (moved_one h.now x) (one≡ (look x.id (joined x h)) (record { flow = x ∷ []; task = [] }) (find_append (is_flow x.id) h.flows (x ∷ []) newer ∙ rw (eqb_self x.id) refl) (gone (a.fine x.id)))
  where
    newer : find (is_flow x.id) h.flows ≡ []
    newer = find_none (is_flow x.id) h.flows (λ y m. let l : y.id < h.next = id_below h y a m in grind (arith, nat_tests))

    gone : Fine x.id (look x.id h) → (look x.id h).task ≡ []
    gone (absent p q) = q
    gone (calm y p q r s t) = not_nil _ y (sym newer ∙ p)
    gone (tasked y t s p q r b c d e f k l z) = not_nil _ y (sym newer ∙ p)

starts_born : (h : House) (n : Name) (b : Block) (vs : List ℕ) (xs : List Flow) → Good h → find (is_key n) h.flows ≡ xs → (starts n b vs xs h).reply ≡ Flow' h.next → look h.next (starts n b vs xs h).house ≡ moved_one h.now (new_flow h.next n b vs) (record { flow = new_flow h.next n b vs ∷ []; task = [] })
unfolding starts
starts_born h n b vs (y ∷ ys) a q e = let i : y.id ≡ h.next = cc in let l : y.id < h.next = id_below h y a (find_mem (is_key n) h.flows y ys q).0 in absurd (omega arith)
starts_born h n b vs [] a q e = at (leb 1024 (length h.flows) || leb 4611686018427387904 h.next) e
  where
    x : Flow
    x = new_flow h.next n b vs

    at : (c : Bool) → (cond c (no 8 h) (says (Flow' h.next) (moved x (joined x h)))).reply ≡ Flow' h.next → look h.next (cond c (no 8 h) (says (Flow' h.next) (moved x (joined x h)))).house ≡ moved_one h.now x (record { flow = x ∷ []; task = [] })
    at true k = no_flow _ 8 h.next k
    at false k = born_look h x a refl

pub born_alone : BornAlone
unfolding acts is_tick
born_alone h n b vs a e = at (eqb h.now 0) (not (name_ok n) || not (block_ok b) || ltb 4096 (size_of b) || ltb 16 (length vs) || not (every (λ (x : ℕ). ltb x top) vs)) e
  where
    s : Out'
    s = starts n b vs (find (is_key n) h.flows) h

    at : (c d : Bool) → (cond (c && true) (no 10 h) (cond d (no 1 h) s)).reply ≡ Flow' h.next → look h.next (cond (c && true) (no 10 h) (cond d (no 1 h) s)).house ≡ moved_one h.now (new_flow h.next n b vs) (record { flow = new_flow h.next n b vs ∷ []; task = [] })
    at true d k = no_flow _ 10 h.next k
    at false true k = no_flow _ 1 h.next k
    at false false k = starts_born h n b vs (find (is_key n) h.flows) a refl k

-- THE SOONEST
pub soon_self : (t : Task) → sooner t t ≡ false
soon_self t = grind (arith, nat_tests)

pub soon_not : (t u : Task) → sooner t u ≡ true → sooner u t ≡ false
soon_not t u e = grind (arith, nat_tests)

pub soon_through : (t u v : Task) → sooner t u ≡ false → sooner u v ≡ false → sooner t v ≡ false
soon_through t u v e f = grind (arith, nat_tests)

pub soon_both : (t u : Task) → sooner t u ≡ false → sooner u t ≡ false → t.flow ≡ u.flow
soon_both t u e f = grind (arith, nat_tests)

first_some : (t : Task) (ts : List Task) → first (t ∷ ts) ≡ [] → ⊥
unfolding first
first_some t ts e = go (first ts) refl
  where
    pick : (v : Task) (b : Bool) → cond b (v ∷ []) (t ∷ []) ≡ [] → ⊥
    pick v true k = let z : ◌≡◌ {A = ℕ} 0 1 = cc in omega arith
    pick v false k = let z : ◌≡◌ {A = ℕ} 0 1 = cc in omega arith

    go : (r : List Task) → first ts ≡ r → ⊥
    go [] q = let k : ◌≡◌ {A = List Task} (t ∷ []) [] = rw q at e in let z : ◌≡◌ {A = ℕ} 0 1 = cc in omega arith
    go (v ∷ vs) q = pick v _ (rw q at e)

pub first_none : (ts : List Task) (u : Task) → first ts ≡ [] → Memᴰ u ts → ⊥
first_none [] u e m = elim m [ ]
first_none (t ∷ ts) u e m = first_some t ts e

pub first_least : (ts : List Task) (t : Task) (us : List Task) → first ts ≡ t ∷ us → (us ≡ []) × ((u : Task) → Memᴰ u ts → sooner u t ≡ false)
unfolding first
first_least [] t us e = let z : ◌≡◌ {A = ℕ} 0 1 = cc in absurd (omega arith)
first_least (x ∷ ts) t us e = go (first ts) refl (first_least ts)
  where
    R : Type 0
    R = (us ≡ []) × ((u : Task) → Memᴰ u (x ∷ ts) → sooner u t ≡ false)

    each : (P : Task → Type 0) → P x → ((u : Task) → Memᴰ u ts → P u) → (u : Task) → Memᴰ u (x ∷ ts) → P u
    each P p q u (Memᴰ.head k) = subst P (sym k) p
    each P p q u (Memᴰ.tail m) = q u m

    pick : (v : Task) → ((u : Task) → Memᴰ u ts → sooner u v ≡ false) → (sooner v x ≡ true) ⊎ (sooner v x ≡ false) → cond (sooner v x) (v ∷ []) (x ∷ []) ≡ t ∷ us → R
    pick v l (inl b) k = let k' : ◌≡◌ {A = List Task} (v ∷ []) (t ∷ us) = rw b at k in let q : v ≡ t = cc in (cc, subst (λ (w : Task). (u : Task) → Memᴰ u (x ∷ ts) → sooner u w ≡ false) q (each (λ u. sooner u v ≡ false) (soon_not v x b) l))
    pick v l (inr b) k = let k' : ◌≡◌ {A = List Task} (x ∷ []) (t ∷ us) = rw b at k in let q : x ≡ t = cc in (cc, subst (λ (w : Task). (u : Task) → Memᴰ u (x ∷ ts) → sooner u w ≡ false) q (each (λ u. sooner u x ≡ false) (soon_self x) (λ u m. soon_through u v x (l u m) b)))

    go : (r : List Task) → first ts ≡ r → ((v : Task) (vs : List Task) → first ts ≡ v ∷ vs → (vs ≡ []) × ((u : Task) → Memᴰ u ts → sooner u v ≡ false)) → R
    go [] q ih = let k : ◌≡◌ {A = List Task} (x ∷ []) (t ∷ us) = rw q at e in let w : x ≡ t = cc in (cc, subst (λ (w : Task). (u : Task) → Memᴰ u (x ∷ ts) → sooner u w ≡ false) w (each (λ u. sooner u x ≡ false) (soon_self x) (λ u m. absurd (first_none ts u q m))))
    go (v ∷ vs) q ih = pick v (ih v vs q).1 (bool (sooner v x)) (rw q at e)

pub takes_least : TakesLeast
takes_least h ks a t m w l = go (first ts) refl
  where
    ts : List Task
    ts = keep (wanted h.now ks) h.tasks

    mt : Memᴰ t ts
    mt = mem_keep (wanted h.now ks) h.tasks t m w

    go : (us : List Task) → first ts ≡ us → first ts ≡ t ∷ []
    go [] q = absurd (first_none ts t q mt)
    go (v ∷ vs) q =
        let p = first_least ts v vs q in
        let n = keep_mem (wanted h.now ks) h.tasks v (first_mem ts v vs q) in
        let f : t.flow ≡ v.flow = soon_both t v (p.1 t mt) (l v n.0 n.1) in
        let z : ◌≡◌ {A = List Task} (v ∷ []) (t ∷ []) = sym (task_at_lem h v a n.0) ∙ ap (λ (i : ℕ). keep (of i) h.tasks) (sym f) ∙ task_at_lem h t a m in
        q ∙ ap (λ us. v ∷ us) p.0 ∙ z
