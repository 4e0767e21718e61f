-- What a call does to the slots, it does to the house: every call but Start.
use Rattle.std.proofs.Common.{◌≡◌, ℕ, zero, suc, ◌+◌, ◌<◌, Bool, true, false, cond, not, ◌&&◌, eqb, leb, ◌⊎◌, List, [], ◌∷◌, map, length, sym, refl, ap, ◌∙◌, subst, inl, inr, arith}
use mathlib.Core.List.{Memᴰ}
use Rattle.std.proofs.lemmas.Bool.Decides.{nat_tests}
use Rattle.plans.specs.Plan.{Name, Failed, Word, Flow, ends}
use Rattle.flows.specs.House.{Task, House, Out', no, says, keep, find, is_key, is_task, is_over, listens_for, the_same, wanted, sooner, first, later, Yes, forgets, cancels, shows, tells as tells_house, reports, longer, hands_out, ticks, timed}
use Rattle.flows.specs.One.{of, One, look, woken_all, late_all, ticked_one}
use Rattle.flows.specs.Summed.{told_one, tells_one, cancels_one, forgets_one, stands_one, longer_one, reports_one}
use Rattle.flows.specs.Seats.{Seats, Seated, seat_count, nobody, refuse, answer, put_at, put, seat_with, holds_key, holds_id, at_seat, shows_flow, forgets_flow, cancels_flow, tells_flow, flow_at, reports_task, longer_task, task_at, Found, sooned, better, soonest, hands_seat, ticks_seats, Holds, Sits}
use Rattle.flows.proofs.Lists.{nil_cons, bool, find_mem, find_keep_gone, keep_mem, keep_none, no_bool, eqb_same}
use Rattle.flows.proofs.Sum.{one≡, ticks_look, ticks_now, ticks_next}
use Rattle.flows.proofs.Kept.{Onward, onward_trans, onward_timed, onward_ticks, onward_forgets, onward_cancels, onward_tells, onward_reports, onward_longer, onward_stands, over_calm, fine_flow, task_at_lem, uniq_ids}
use Rattle.flows.proofs.Promised.{known}
use Rattle.flows.proofs.Summed.{key_here, key_other, tells_look, cancels_look, forgets_look, longer_look, reports_look, stands_here, stands_other}
use Rattle.flows.proofs.Born.{soon_self, soon_not, soon_through, takes_least}
use Rattle.flows.proofs.Alike.{Frame', tells_frame, reports_frame, longer_frame}
use Rattle.flows.proofs.Holding.{slot_look, slot_flow, KeyAt, key_some, key_none_seat, IdAt, id_some, id_none, find_task, holds_on, holds_put}

-- the slots at the house's time
abbrev pub seats_of : House → (ℕ → One) → Seats
seats_of h f = record { now = h.now; next = h.next; at = f }

abbrev pub Stays : Seated → Out' → Type 0
Stays o p = (o.reply ≡ p.reply) × Sits o.seats p.house

pub sat : (f : ℕ → One) (h : House) → Holds f h → Sits (seats_of h f) h
sat f h s = record { now = refl; next = refl; holds = s }

-- BY KEY
pub by_seat : (n : Name) (A : ℕ → List Flow → Seats → Seated) (B : List Flow → House → Out') (f : ℕ → One) (h : House) → Holds f h → B [] h ≡ no 2 h →
    ((i : ℕ) (q : KeyAt f h n i) → Stays (A i (q.flow ∷ []) (seats_of h f)) (B (q.flow ∷ []) h)) → Stays (flow_at A n (seats_of h f)) (B (find (is_key n) h.flows) h)
unfolding at_seat
by_seat n A B f h s none some = go (seat_with (holds_key n) 0 seat_count f) refl
  where
    k : Seats
    k = seats_of h f

    F : ℕ → Seats → Seated
    F i l = A i (l.at i).flow l

    go : (is : List ℕ) → seat_with (holds_key n) 0 seat_count f ≡ is → Stays (at_seat F is k) (B (find (is_key n) h.flows) h)
    go [] e = subst (λ (xs : List Flow). Stays (refuse 2 k) (B xs h)) (sym (key_none_seat f h n s e)) (subst (Stays (refuse 2 k)) (sym none) (refl, sat f h s))
    go (i ∷ is) e = let q = key_some f h n i is s e in subst (λ (xs : List Flow). Stays (A i xs k) (B (find (is_key n) h.flows) h)) (sym q.here) (subst (λ (xs : List Flow). Stays (A i (q.flow ∷ []) k) (B xs h)) (sym q.found) (some i q))

key_put : (n : Name) (X : List Flow → House) (Y : List Flow → One → One) (f : ℕ → One) (o : One) (h : House) (i : ℕ) (q : KeyAt f h n i) → Holds f h → Onward h (X (q.flow ∷ [])) → (X (q.flow ∷ [])).next ≡ h.next →
    ((j : ℕ) → look j (X (find (is_key n) h.flows)) ≡ Y (find (is_key n) (look j h).flow) (look j h)) → ((p : One) → Y [] p ≡ p) → Y (q.flow ∷ []) (f i) ≡ o → Holds (put_at i o f) (X (q.flow ∷ []))
key_put n X Y f o h i q s w m looks rest here = holds_put f o h (X (x ∷ [])) i x s w m q.below q.here
    (at x.id ∙ ap (λ (xs : List Flow). Y xs (look x.id h)) (key_here n x [] h s.good q.found) ∙ ap (Y (x ∷ [])) (sym (slot_look f h i x s q.below q.here)) ∙ here)
    (λ j e. at j ∙ ap (λ (xs : List Flow). Y xs (look j h)) (key_other n j x [] h s.good q.found e) ∙ rest (look j h))
  where
    x : Flow
    x = q.flow

    at : (j : ℕ) → look j (X (x ∷ [])) ≡ Y (find (is_key n) (look j h).flow) (look j h)
    at j = ap (λ (xs : List Flow). look j (X xs)) (sym q.found) ∙ looks j

-- it stands in the house
key_mem : (f : ℕ → One) (h : House) (n : Name) (i : ℕ) (q : KeyAt f h n i) → (x : Flow) (ys : List Flow) → ◌≡◌ {A = List Flow} (q.flow ∷ []) (x ∷ ys) → Memᴰ x h.flows
key_mem f h n i q x ys e = let z : q.flow ≡ x = cc in subst (λ (y : Flow). Memᴰ y h.flows) z (find_mem (is_key n) h.flows q.flow [] q.found).0

pub show_stays : (n : Name) (f : ℕ → One) (h : House) → Holds f h → Stays (flow_at shows_flow n (seats_of h f)) (shows (find (is_key n) h.flows) h)
unfolding shows_flow shows
show_stays n f h s = by_seat n shows_flow shows f h s refl (λ i q. (refl, sat f h s))

pub forget_stays : (n : Name) (f : ℕ → One) (h : House) → Holds f h → Stays (flow_at forgets_flow n (seats_of h f)) (forgets (find (is_key n) h.flows) h)
unfolding forgets_flow forgets forgets_one
forget_stays n f h s = by_seat n forgets_flow forgets f h s refl (λ i q. at i q (bool (is_over q.flow.phase)))
  where
    at : (i : ℕ) (q : KeyAt f h n i) → (is_over q.flow.phase ≡ true) ⊎ (is_over q.flow.phase ≡ false) → Stays (forgets_flow i (q.flow ∷ []) (seats_of h f)) (forgets (q.flow ∷ []) h)
    at i q (inr e) = rw e (refl, sat f h s)
    at i q (inl e) =
        let x : Flow = q.flow in
        let fx = slot_flow f h i x s q.below q.here in
        let none : (f i).task ≡ [] = ap (λ (o : One). o.task) (slot_look f h i x s q.below q.here) ∙ (fine_flow x.id x (look x.id h) (s.good.fine x.id) fx).2 (over_calm x.phase e) in
        let gone : forgets_one (x ∷ []) (f i) ≡ nobody = rw e (one≡ _ _ refl none) in
        let w : Holds (put_at i nobody f) (forgets (x ∷ []) h).house = key_put n (λ xs. (forgets xs h).house) forgets_one f nobody h i q s (onward_forgets h (x ∷ []) s.good (key_mem f h n i q)) (rw e refl) (λ j. forgets_look n j h s.good) (λ p. refl) gone in
        rw e (refl, record { now = refl; next = refl; holds = rw e at w })

pub cancel_stays : (n : Name) (f : ℕ → One) (h : House) → Holds f h → Stays (flow_at cancels_flow n (seats_of h f)) (cancels (find (is_key n) h.flows) h)
unfolding cancels_flow cancels cancels_one
cancel_stays n f h s = by_seat n cancels_flow cancels f h s refl (λ i q. at i q (bool (is_over q.flow.phase)))
  where
    at : (i : ℕ) (q : KeyAt f h n i) → (is_over q.flow.phase ≡ true) ⊎ (is_over q.flow.phase ≡ false) → Stays (cancels_flow i (q.flow ∷ []) (seats_of h f)) (cancels (q.flow ∷ []) h)
    at i q (inl e) = rw e (refl, sat f h s)
    at i q (inr e) =
        let x : Flow = q.flow in
        let o : One = record { flow = ends Failed x ∷ []; task = [] } in
        let over : cancels_one (x ∷ []) (f i) ≡ o = rw e (one≡ _ _ (ap (map (ends Failed)) q.here) refl) in
        let w : Holds (put_at i o f) (cancels (x ∷ []) h).house = key_put n (λ xs. (cancels xs h).house) cancels_one f o h i q s (onward_cancels h (x ∷ []) s.good (key_mem f h n i q)) (rw e refl) (λ j. cancels_look n j h s.good) (λ p. refl) over in
        rw e (refl, record { now = refl; next = refl; holds = rw e at w })

pub tell_stays : (w : Word) (n : Name) (f : ℕ → One) (h : House) → Holds f h → Stays (flow_at (tells_flow w) n (seats_of h f)) (tells_house w (find (is_key n) h.flows) h)
unfolding tells_flow tells_house tells_one
tell_stays w n f h s = by_seat n (tells_flow w) (tells_house w) f h s refl (λ i q. at i q (bool (is_over q.flow.phase)) (bool (leb 64 (length q.flow.box) && not (listens_for w q.flow.phase))))
  where
    at : (i : ℕ) (q : KeyAt f h n i) → (is_over q.flow.phase ≡ true) ⊎ (is_over q.flow.phase ≡ false) → ((leb 64 (length q.flow.box) && not (listens_for w q.flow.phase)) ≡ true) ⊎ ((leb 64 (length q.flow.box) && not (listens_for w q.flow.phase)) ≡ false) → Stays (tells_flow w i (q.flow ∷ []) (seats_of h f)) (tells_house w (q.flow ∷ []) h)
    at i q (inl e) c = rw e (refl, sat f h s)
    at i q (inr e) (inl c) = rw (e, c) (refl, sat f h s)
    at i q (inr e) (inr c) =
        let x : Flow = q.flow in
        let o : One = told_one h.now x.phase w x (f i) in
        let told : tells_one h.now w (x ∷ []) (f i) ≡ o = rw (e, c) refl in
        let fr : Frame' h (tells_house w (x ∷ []) h).house = tells_frame w (x ∷ []) h in
        let v : Holds (put_at i o f) (tells_house w (x ∷ []) h).house = key_put n (λ xs. (tells_house w xs h).house) (tells_one h.now w) f o h i q s (onward_tells h w (x ∷ []) s.good (key_mem f h n i q)) fr.1 (λ j. tells_look n j w h s.good) (λ p. refl) told in
        let z : Sits (put i o (seats_of h f)) (tells_house w (x ∷ []) h).house = record { now = sym fr.0; next = sym fr.1; holds = v } in
        rw (e, c) (refl, rw (e, c) at z)

-- BY NUMBER
pub by_id_lem : (j s : ℕ) (A : ℕ → List Task → Seats → Seated) (B : List Task → House → Out') (f : ℕ → One) (h : House) → Holds f h → B [] h ≡ no 2 h → ((i : ℕ) → A i [] (seats_of h f) ≡ refuse 2 (seats_of h f)) →
    ((i : ℕ) (q : IdAt f h j i) (t : Task) → find (is_task j s) h.tasks ≡ t ∷ [] → Stays (A i (t ∷ []) (seats_of h f)) (B (t ∷ []) h)) → Stays (task_at A j s (seats_of h f)) (B (find (is_task j s) h.tasks) h)
unfolding at_seat find
by_id_lem j s A B f h a none nil some = go (seat_with (holds_id j) 0 seat_count f) refl
  where
    k : Seats
    k = seats_of h f

    F : ℕ → Seats → Seated
    F i l = A i (find (is_task j s) (l.at i).task) l

    two : Stays (refuse 2 k) (B [] h)
    two = subst (Stays (refuse 2 k)) (sym none) (refl, sat f h a)

    at : (i : ℕ) (q : IdAt f h j i) (ts : List Task) → find (is_task j s) h.tasks ≡ ts → Stays (A i ts k) (B ts h)
    at i q [] e = subst (λ (o : Seated). Stays o (B [] h)) (sym (nil i)) two
    at i q (t ∷ ts) e = let z : ts ≡ [] = (find_mem (is_task j s) h.tasks t ts e).2 in subst (λ (us : List Task). Stays (A i (t ∷ us) k) (B (t ∷ us) h)) (sym z) (some i q t (e ∙ ap (λ us. t ∷ us) z))

    go : (is : List ℕ) → seat_with (holds_id j) 0 seat_count f ≡ is → Stays (at_seat F is k) (B (find (is_task j s) h.tasks) h)
    go [] e = subst (λ (ts : List Task). Stays (refuse 2 k) (B ts h)) (sym (find_task h j s ∙ ap (find (is_task j s)) (id_none f h j a e))) two
    go (i ∷ is) e = let q = id_some f h j i is a e in subst (λ (ts : List Task). Stays (A i ts k) (B (find (is_task j s) h.tasks) h)) (find_task h j s ∙ ap (λ (o : One). find (is_task j s) o.task) (sym q.looks)) (at i q (find (is_task j s) h.tasks) refl)

task_put : (j s : ℕ) (X : List Task → House) (Y : List Task → One → One) (f : ℕ → One) (o : One) (h : House) (i : ℕ) (q : IdAt f h j i) (t : Task) → find (is_task j s) h.tasks ≡ t ∷ [] → Holds f h → Onward h (X (t ∷ [])) → (X (t ∷ [])).next ≡ h.next →
    ((l : ℕ) → look l (X (find (is_task j s) h.tasks)) ≡ Y (find (is_task j s) (look l h).task) (look l h)) → ((p : One) → Y [] p ≡ p) → Y (t ∷ []) (f i) ≡ o → Holds (put_at i o f) (X (t ∷ []))
task_put j s X Y f o h i q t e a w m looks rest here = holds_put f o h (X (t ∷ [])) i q.flow a w m q.below q.here
    (subst (λ (l : ℕ). look l (X (t ∷ [])) ≡ o) (sym q.id) (at j ∙ ap (λ (ts : List Task). Y ts (look j h)) (sym (find_task h j s) ∙ e) ∙ ap (Y (t ∷ [])) (sym q.looks) ∙ here))
    (λ l d. at l ∙ ap (λ (ts : List Task). Y ts (look l h)) (find_keep_gone (is_task j s) (of l) h.tasks (λ u z. let n : eqb l j ≡ false = subst (λ (v : ℕ). eqb l v ≡ false) q.id d in grind (arith, nat_tests))) ∙ rest (look l h))
  where
    at : (l : ℕ) → look l (X (t ∷ [])) ≡ Y (find (is_task j s) (look l h).task) (look l h)
    at l = ap (λ (ts : List Task). look l (X ts)) (sym e) ∙ looks l

task_mem : (h : House) (j s : ℕ) (t : Task) → find (is_task j s) h.tasks ≡ t ∷ [] → (u : Task) (us : List Task) → ◌≡◌ {A = List Task} (t ∷ []) (u ∷ us) → Memᴰ u h.tasks
task_mem h j s t e u us k = let z : t ≡ u = cc in subst (λ (v : Task). Memᴰ v h.tasks) z (find_mem (is_task j s) h.tasks t [] e).0

pub report_stays : (j s b : ℕ) (well : Bool) (v : ℕ) (f : ℕ → One) (h : House) → Holds f h → Stays (task_at (reports_task b well v) j s (seats_of h f)) (reports b well v (find (is_task j s) h.tasks) h)
unfolding reports_task reports reports_one
report_stays j s b well v f h a = by_id_lem j s (reports_task b well v) (reports b well v) f h a refl (λ i. refl) (λ i q t e. at i q t e (bool (the_same b t)))
  where
    at : (i : ℕ) (q : IdAt f h j i) (t : Task) → find (is_task j s) h.tasks ≡ t ∷ [] → (the_same b t ≡ true) ⊎ (the_same b t ≡ false) → Stays (reports_task b well v i (t ∷ []) (seats_of h f)) (reports b well v (t ∷ []) h)
    at i q t e (inr c) = rw c (refl, sat f h a)
    at i q t e (inl c) =
        let o : One = reports_one h.now b well v (t ∷ []) (f i) in
        let fr : Frame' h (reports b well v (t ∷ []) h).house = reports_frame b well v (t ∷ []) h in
        let w : Holds (put_at i o f) (reports b well v (t ∷ []) h).house = task_put j s (λ ts. (reports b well v ts h).house) (reports_one h.now b well v) f o h i q t e a (onward_reports h b well v (t ∷ []) a.good (task_mem h j s t e)) fr.1 (λ l. reports_look j s b well v l h) (λ p. refl) refl in
        let z : Sits (put i o (seats_of h f)) (reports b well v (t ∷ []) h).house = record { now = sym fr.0; next = sym fr.1; holds = w } in
        rw c (refl, rw c at z)

pub longer_stays : (j s b ms : ℕ) (f : ℕ → One) (h : House) → Holds f h → Stays (task_at (longer_task b ms) j s (seats_of h f)) (longer b ms (find (is_task j s) h.tasks) h)
unfolding longer_task longer longer_one
longer_stays j s b ms f h a = by_id_lem j s (longer_task b ms) (longer b ms) f h a refl (λ i. refl) (λ i q t e. at i q t e (bool (the_same b t)))
  where
    at : (i : ℕ) (q : IdAt f h j i) (t : Task) → find (is_task j s) h.tasks ≡ t ∷ [] → (the_same b t ≡ true) ⊎ (the_same b t ≡ false) → Stays (longer_task b ms i (t ∷ []) (seats_of h f)) (longer b ms (t ∷ []) h)
    at i q t e (inr c) = rw c (refl, sat f h a)
    at i q t e (inl c) =
        let o : One = stands_one (h.now + ms) t (f i) in
        let same : longer_one b (h.now + ms) (t ∷ []) (f i) ≡ o = rw c refl in
        let fr : Frame' h (longer b ms (t ∷ []) h).house = longer_frame b ms (t ∷ []) h in
        let w : Holds (put_at i o f) (longer b ms (t ∷ []) h).house = task_put j s (λ ts. (longer b ms ts h).house) (longer_one b (h.now + ms)) f o h i q t e a (onward_longer h b ms (t ∷ []) a.good (task_mem h j s t e)) fr.1 (λ l. longer_look j s b ms l h) (λ p. refl) same in
        let z : Sits (put i o (seats_of h f)) (longer b ms (t ∷ []) h).house = record { now = sym fr.0; next = sym fr.1; holds = w } in
        rw c (refl, rw c at z)

-- TAKE
abbrev Best : ℕ → List ℕ → (ℕ → One) → ℕ → List Found → Type 0
Best now ks f n [] = (i : ℕ) → i < n → (t : Task) (ts : List Task) → (f i).task ≡ t ∷ ts → wanted now ks t ≡ false
Best now ks f n (b ∷ bs) = (b.slot < n) × ((ts : List Task) × ((f b.slot).task ≡ b.task ∷ ts)) × (wanted now ks b.task ≡ true) × ((i : ℕ) → i < n → (t : Task) (ts : List Task) → (f i).task ≡ t ∷ ts → wanted now ks t ≡ true → sooner t b.task ≡ false)

one_more : (P : ℕ → Type 0) (n : ℕ) → ((i : ℕ) → i < n → P i) → P n → (i : ℕ) → i < suc n → P i
one_more P n k p i l = at (bool (eqb i n))
  where
    at : (eqb i n ≡ true) ⊎ (eqb i n ≡ false) → P i
    at (inl e) = subst P (sym (eqb_same i n e)) p
    at (inr e) = k i (let m : i < n = grind (arith, nat_tests) in m)

heads : {A : Type 0} (B : A → Type 0) (x : A) (xs ys : List A) (y : A) → ◌≡◌ {A = List A} (x ∷ xs) (y ∷ ys) → B x → B y
heads B x xs ys y e b = let z : x ≡ y = cc in subst B z b

best_step : (now : ℕ) (ks : List ℕ) (f : ℕ → One) (n : ℕ) (best : List Found) → Best now ks f n best → (ts : List Task) → (f n).task ≡ ts → Best now ks f (suc n) (better now ks n ts best)
unfolding better sooned
best_step now ks f n [] b [] e = one_more (λ i. (t : Task) (ts : List Task) → (f i).task ≡ t ∷ ts → wanted now ks t ≡ false) n b (λ t ts q. nil_cons _ t ts (sym e ∙ q))
best_step now ks f n (c ∷ cs) b [] e = (omega (arith, b.0), b.1, b.2, one_more (λ i. (t : Task) (ts : List Task) → (f i).task ≡ t ∷ ts → wanted now ks t ≡ true → sooner t c.task ≡ false) n b.3 (λ t ts q w. nil_cons _ t ts (sym e ∙ q)))
best_step now ks f n [] b (u ∷ us) e = at (bool (wanted now ks u))
  where
    at : (wanted now ks u ≡ true) ⊎ (wanted now ks u ≡ false) → Best now ks f (suc n) (better now ks n (u ∷ us) [])
    at (inr w) = rw w (one_more (λ i. (t : Task) (ts : List Task) → (f i).task ≡ t ∷ ts → wanted now ks t ≡ false) n b (λ t ts q. heads (λ v. wanted now ks v ≡ false) u us ts t (sym e ∙ q) w))
    at (inl w) = rw w (omega arith, (us, e), w, one_more (λ i. (t : Task) (ts : List Task) → (f i).task ≡ t ∷ ts → wanted now ks t ≡ true → sooner t u ≡ false) n (λ i l t ts q z. no_bool _ (sym z ∙ b i l t ts q)) (λ t ts q z. heads (λ v. sooner v u ≡ false) u us ts t (sym e ∙ q) (soon_self u)))
best_step now ks f n (c ∷ cs) b (u ∷ us) e = at (bool (wanted now ks u)) (bool (sooner u c.task))
  where
    at : (wanted now ks u ≡ true) ⊎ (wanted now ks u ≡ false) → (sooner u c.task ≡ true) ⊎ (sooner u c.task ≡ false) → Best now ks f (suc n) (better now ks n (u ∷ us) (c ∷ cs))
    at (inr w) d = rw w (omega (arith, b.0), b.1, b.2, one_more (λ i. (t : Task) (ts : List Task) → (f i).task ≡ t ∷ ts → wanted now ks t ≡ true → sooner t c.task ≡ false) n b.3 (λ t ts q z. no_bool _ (sym z ∙ heads (λ v. wanted now ks v ≡ false) u us ts t (sym e ∙ q) w)))
    at (inl w) (inl d) = rw (w, d) (omega arith, (us, e), w, one_more (λ i. (t : Task) (ts : List Task) → (f i).task ≡ t ∷ ts → wanted now ks t ≡ true → sooner t u ≡ false) n (λ i l t ts q z. soon_through t c.task u (b.3 i l t ts q z) (soon_not u c.task d)) (λ t ts q z. heads (λ v. sooner v u ≡ false) u us ts t (sym e ∙ q) (soon_self u)))
    at (inl w) (inr d) = rw (w, d) (omega (arith, b.0), b.1, b.2, one_more (λ i. (t : Task) (ts : List Task) → (f i).task ≡ t ∷ ts → wanted now ks t ≡ true → sooner t c.task ≡ false) n b.3 (λ t ts q z. heads (λ v. sooner v c.task ≡ false) u us ts t (sym e ∙ q) d))

soonest_best : (now : ℕ) (ks : List ℕ) (f : ℕ → One) (n : ℕ) → Best now ks f n (soonest now ks n f)
unfolding soonest
soonest_best now ks f zero = λ i l t ts e. absurd (omega arith)
soonest_best now ks f (suc n) = best_step now ks f n (soonest now ks n f) (soonest_best now ks f n) (f n).task refl

-- a task that stands in the house stands in a slot
task_slot : (f : ℕ → One) (h : House) (u : Task) → Holds f h → Memᴰ u h.tasks → (i : ℕ) × (i < seat_count) × ((f i).task ≡ u ∷ [])
task_slot f h u s m = let k = known h u s.good m in let r = s.seated u.flow k.flow k.stands in (r.0, r.1, ap (λ (o : One). o.task) r.2 ∙ task_at_lem h u s.good m)

pub take_stays : (ks : List ℕ) (ms : ℕ) (f : ℕ → One) (h : House) → Holds f h → Stays (hands_seat ms (soonest h.now ks seat_count f) (seats_of h f)) (hands_out ms (first (keep (wanted h.now ks) h.tasks)) h)
unfolding hands_seat hands_out first
take_stays ks ms f h s = go (soonest h.now ks seat_count f) (soonest_best h.now ks f seat_count)
  where
    k : Seats
    k = seats_of h f

    w : Task → Bool
    w = wanted h.now ks

    Goal : List Found → Type 0
    Goal bs = Stays (hands_seat ms bs k) (hands_out ms (first (keep w h.tasks)) h)

    given : (b : Found) (bs : List Found) (ts : List Task) → b.slot < seat_count → (f b.slot).task ≡ b.task ∷ ts → w b.task ≡ true → ((i : ℕ) → i < seat_count → (t : Task) (ts : List Task) → (f i).task ≡ t ∷ ts → w t ≡ true → sooner t b.task ≡ false) → (f b.slot ≡ nobody) ⊎ ((x : Flow) × ((f b.slot).flow ≡ x ∷ []) × (f b.slot ≡ look x.id h)) → Goal (b ∷ bs)
    given b bs ts l e z least (inl q) = nil_cons _ b.task ts (sym (ap (λ (o : One). o.task) q) ∙ e)
    given b bs ts l e z least (inr (x, p, q)) = subst (λ (us : List Task). Stays (hands_seat ms (b ∷ bs) k) (hands_out ms us h)) (sym fst) (refl, record { now = refl; next = refl; holds = holds_put f (stands_one (h.now + ms) t (f i)) h g i x s (onward_stands h t (h.now + ms) s.good m.0) refl l p here other })
      where
        t : Task
        t = b.task

        i : ℕ
        i = b.slot

        m : Memᴰ t h.tasks × (of x.id t ≡ true)
        m = keep_mem (of x.id) h.tasks t (subst (λ (us : List Task). Memᴰ t us) (sym e ∙ ap (λ (o : One). o.task) q) (Memᴰ.head refl))

        id : x.id ≡ t.flow
        id = eqb_same x.id t.flow m.1

        fst : first (keep w h.tasks) ≡ t ∷ []
        fst = takes_least h ks s.good t m.0 z (λ u n y. let r = task_slot f h u s n in least r.0 r.1 u [] r.2 y)

        g : House
        g = (hands_out ms (t ∷ []) h).house

        here : look x.id g ≡ stands_one (h.now + ms) t (f i)
        here = subst (λ (j : ℕ). look j g ≡ stands_one (h.now + ms) t (look j h)) (sym id) (stands_here (h.now + ms) t h) ∙ ap (stands_one (h.now + ms) t) (sym q)

        other : (j : ℕ) → eqb j x.id ≡ false → look j g ≡ look j h
        other j d = stands_other j (h.now + ms) t h (subst (λ (n : ℕ). eqb j n ≡ false) id d)

    go : (bs : List Found) → Best h.now ks f seat_count bs → Goal bs
    go [] b = subst (λ (us : List Task). Stays (hands_seat ms [] k) (hands_out ms (first us) h)) (sym (keep_none w h.tasks (λ u n. let r = task_slot f h u s n in b r.0 r.1 u [] r.2))) (refl, sat f h s)
    go (c ∷ cs) (l, (ts, e), z, least) = given c cs ts l e z least (s.each c.slot l)

-- TIME
pub tick_stays : (t : ℕ) (b : Bool) (f : ℕ → One) (h : House) → Holds f h → Stays (cond b (answer Yes (ticks_seats t (seats_of h f))) (refuse 1 (seats_of h f))) (cond b (says Yes (ticks (timed t h))) (no 1 h))
unfolding late_all woken_all
tick_stays t false f h s = (refl, sat f h s)
tick_stays t true f h s = (refl, record { now = sym (ticks_now (timed t h)); next = sym (ticks_next (timed t h)); holds = holds_on f f' h g s on (ticks_next (timed t h)) (λ i l e. ap (ticked_one (later t h.now)) e) (λ i x l e. ap (ticked_one (later t h.now)) (slot_look f h i x s l e) ∙ sym (ticks_look x.id (timed t h) (uniq_ids h s.good))) })
  where
    g : House
    g = ticks (timed t h)

    f' : ℕ → One
    f' i = ticked_one (later t h.now) (f i)

    on : Onward h g
    on = let z = onward_timed h (later t h.now) s.good in onward_trans h (timed t h) g z (onward_ticks (timed t h) z.good)
