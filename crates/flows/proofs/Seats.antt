-- Start with slots, and all calls: the slots do what the house does.
use Rattle.std.proofs.Common.{◌≡◌, ℕ, ◌+◌, ◌*◌, ◌%◌, ◌<◌, Bool, true, false, cond, not, ◌&&◌, ◌||◌, T, eqb, ltb, leb, ◌⊎◌, List, [], ◌∷◌, length, sym, refl, ap, ◌∙◌, subst, inl, inr, arith}
use Rattle.std.proofs.lemmas.Bool.Decides.{nat_tests}
use Rattle.plans.specs.Plan.{Name, Block, Word, Flow, top, still, moves, size_of, block_ok, name_ok, word_ok}
use Rattle.flows.specs.House.{House, blank, Out', no, says, find, is_key, small, weight_of, carried, moved, starts, Reply, Flow', Full', Call, Start, Tell, Cancel, Take, Longer, Report, Show, Forget, Tick, is_tick, acts, does}
use Rattle.flows.specs.One.{One, look, frames_ok}
use Rattle.flows.specs.Promise.{Answers, says_so, too_full}
use Rattle.flows.specs.Summed.{new_flow}
use Rattle.flows.specs.Seats.{Seats, Seated, seat_count, nobody, no_seats, refuse, answer, put_at, seat_with, holds_key, is_free, key_seat, free_seat, total, weight_one, weight_seats, tight, bad_start, new_one, born_at, starts_free, starts_flow, starts_seat, acts_seats, does_seats, Holds, Sits, SeatsStand}
use Rattle.flows.proofs.Lists.{bool, not_nil, eqb_same}
use Rattle.flows.proofs.Moving.{moves_moving}
use Rattle.flows.proofs.Kept.{onward_refl, joined, Onward, onward_starts, onward_timed, blank_good}
use Rattle.flows.proofs.Summed.{starts_look}
use Rattle.flows.proofs.Born.{born_look}
use Rattle.flows.proofs.Slots.{put_here, put_other, total_put}
use Rattle.flows.proofs.Holding.{slot_look, holds_on, look_id, look_below, slot_flow, slot_fine, slot_asks, holds_weight, holds_length, free_some, free_none, key_some, key_none_seat}
use Rattle.flows.proofs.Seating.{seats_of, Stays, sat, show_stays, forget_stays, cancel_stays, tell_stays, report_stays, longer_stays, take_stays, tick_stays}

-- a new flow in a slot that was free
holds_born : (f : ℕ → One) (o : One) (y : Flow) (h g : House) (i : ℕ) → Holds f h → Onward h g → g.next ≡ h.next + 1 → i < seat_count → f i ≡ nobody → look h.next g ≡ o → o.flow ≡ y ∷ [] → ((j : ℕ) → j < h.next → look j g ≡ look j h) → Holds (put_at i o f) g
holds_born f o y h g i s w n l free here one other = record { good = w.good; each = λ m b. each m b (bool (eqb m i)); seated = λ j z e. seated j z e (bool (eqb j h.next)); apart = λ m k b c u v e q d. apart m k b c u v e q d (bool (eqb m i)) (bool (eqb k i)) }
  where
    f' : ℕ → One
    f' = put_at i o f

    at_i : (m : ℕ) → eqb m i ≡ true → f' m ≡ o
    at_i m e = rw e refl

    Each : ℕ → Type 0
    Each m = (f' m ≡ nobody) ⊎ ((x : Flow) × ((f' m).flow ≡ x ∷ []) × (f' m ≡ look x.id g))

    new_id : (z : Flow) → o.flow ≡ z ∷ [] → z.id ≡ h.next
    new_id z e = look_id g h.next z w.good (ap (λ (p : One). p.flow) here ∙ e)

    old_id : (m : ℕ) (z : Flow) → m < seat_count → (f m).flow ≡ z ∷ [] → z.id < h.next
    old_id m z b e = look_below h z.id z s.good (slot_flow f h m z s b e)

    old : (m : ℕ) → m < seat_count → eqb m i ≡ false → (f m ≡ nobody) ⊎ ((x : Flow) × ((f m).flow ≡ x ∷ []) × (f m ≡ look x.id h)) → Each m
    old m b e (inl q) = inl (put_other i o f m e ∙ q)
    old m b e (inr (x, p, q)) = inr (x, ap (λ (r : One). r.flow) (put_other i o f m e) ∙ p, put_other i o f m e ∙ q ∙ sym (other x.id (old_id m x b p)))

    each : (m : ℕ) → m < seat_count → (eqb m i ≡ true) ⊎ (eqb m i ≡ false) → Each m
    each m b (inl e) = inr (y, ap (λ (r : One). r.flow) (at_i m e) ∙ one, at_i m e ∙ sym here ∙ ap (λ (j : ℕ). look j g) (sym (new_id y one)))
    each m b (inr e) = old m b e (s.each m b)

    not_i : (m : ℕ) (z : Flow) → (f m).flow ≡ z ∷ [] → (eqb m i ≡ true) ⊎ (eqb m i ≡ false) → eqb m i ≡ false
    not_i m z e (inl q) = not_nil _ z (sym (ap (λ (r : One). r.flow) (ap f (eqb_same m i q) ∙ free)) ∙ e)
    not_i m z e (inr q) = q

    seated : (j : ℕ) (z : Flow) → (look j g).flow ≡ z ∷ [] → (eqb j h.next ≡ true) ⊎ (eqb j h.next ≡ false) → (m : ℕ) × (m < seat_count) × (f' m ≡ look j g)
    seated j z e (inl q) = (i, l, put_here i o f ∙ sym here ∙ ap (λ (v : ℕ). look v g) (sym (eqb_same j h.next q)))
    seated j z e (inr q) =
        let b : j < h.next + 1 = rw (← n) (look_below g j z w.good e) in
        let c : j < h.next = grind (arith, nat_tests) in
        let k = other j c in
        let e' = ap (λ (r : One). r.flow) (sym k) ∙ e in
        let r = s.seated j z e' in
        (r.0, r.1, put_other i o f r.0 (not_i r.0 z (ap (λ (p : One). p.flow) r.2 ∙ e') (bool (eqb r.0 i))) ∙ r.2 ∙ sym k)

    is_new : (m : ℕ) (z : Flow) → eqb m i ≡ true → (f' m).flow ≡ z ∷ [] → z.id ≡ h.next
    is_new m z q e = new_id z (ap (λ (r : One). r.flow) (sym (at_i m q)) ∙ e)

    was_old : (m : ℕ) (z : Flow) → eqb m i ≡ false → (f' m).flow ≡ z ∷ [] → (f m).flow ≡ z ∷ []
    was_old m z q e = ap (λ (r : One). r.flow) (sym (put_other i o f m q)) ∙ e

    apart : (m k : ℕ) → m < seat_count → k < seat_count → (u v : Flow) → (f' m).flow ≡ u ∷ [] → (f' k).flow ≡ v ∷ [] → u.id ≡ v.id → (eqb m i ≡ true) ⊎ (eqb m i ≡ false) → (eqb k i ≡ true) ⊎ (eqb k i ≡ false) → m ≡ k
    apart m k b c u v e q d (inl a) (inl z) = eqb_same m i a ∙ sym (eqb_same k i z)
    apart m k b c u v e q d (inl a) (inr z) = let p = is_new m u a e in let r = old_id k v c (was_old k v z q) in absurd (omega arith)
    apart m k b c u v e q d (inr a) (inl z) = let p = is_new k v z q in let r = old_id m u b (was_old m u a e) in absurd (omega arith)
    apart m k b c u v e q d (inr a) (inr z) = s.apart m k b c u v (was_old m u a e) (was_old k v z q) d

-- START
abbrev Tight : ℕ → Seated → Out' → House → Type 0
Tight lines o p h = (o.reply ≡ Full') × Sits o.seats h × (weight_of h.flows < weight_of p.house.flows) × (64 * lines < 1048576 + 2 * weight_of p.house.flows)

abbrev Result : ℕ → Seated → Out' → House → Type 0
Result lines o p h = Stays o p ⊎ Tight lines o p h

pub born_stays : (lines : ℕ) (n : Name) (b : Block) (vs : List ℕ) (f : ℕ → One) (h : House) (i : ℕ) → Holds f h → block_ok b ≡ true → find (is_key n) h.flows ≡ [] → i < seat_count → f i ≡ nobody → length h.flows < seat_count → (leb 4611686018427387904 h.next ≡ true) ⊎ (leb 4611686018427387904 h.next ≡ false) → (tight lines (size_of b) (seats_of h f) ≡ true) ⊎ (tight lines (size_of b) (seats_of h f) ≡ false) →
    Result lines (cond (leb 4611686018427387904 h.next) (refuse 8 (seats_of h f)) (cond (tight lines (size_of b) (seats_of h f)) (answer Full' (seats_of h f)) (answer (Flow' h.next) (born_at i (new_flow h.next n b vs) (seats_of h f))))) (starts n b vs [] h) h
unfolding starts frames_ok weight_of
born_stays lines n b vs f h i s k e l free few big fits = at big fits
  where
    x : Flow
    x = new_flow h.next n b vs

    o : One
    o = new_one h.now x

    g : House
    g = moved x (joined x h)

    y : Flow
    y = (moves 1000 h.now (still x)).flow

    seats : Seats
    seats = seats_of h f

    room : leb 1024 (length h.flows) ≡ false
    room = grind (arith, nat_tests)

    rest : Out'
    rest = says (Flow' h.next) g

    is : leb 4611686018427387904 h.next ≡ false → starts n b vs [] h ≡ rest
    is q = rw (room, q) refl

    holds : leb 4611686018427387904 h.next ≡ false → Holds (put_at i o f) g
    holds q = holds_born f o y h g i s (subst (λ (p : Out'). Onward h p.house) (is q) (onward_starts h n b vs [] s.good k e)) refl l free (born_look h x s.good refl) refl (λ j m. subst (λ (p : Out'). look j p.house ≡ look j h) (is q) (starts_look n b vs [] j h m))

    size : y.size ≡ size_of b
    size = (moves_moving 1000 0 h.now x (still x) (record { id = refl; key = refl; size = refl; frames = rw k refl; agrees = (refl, omega arith) })).size

    weighs : leb 4611686018427387904 h.next ≡ false → weight_of g.flows ≡ weight_seats seats + (16384 + 16 * size_of b)
    weighs q =
        let a : weight_of g.flows ≡ total weight_one (put_at i o f) seat_count = holds_weight (put_at i o f) g (holds q) in
        let c : total weight_one (put_at i o f) seat_count + weight_one (f i) ≡ total weight_one f seat_count + weight_one o = total_put weight_one i o f seat_count l in
        let d : weight_one (f i) ≡ 0 = ap weight_one free in
        let w : weight_one o ≡ 16384 + 16 * y.size + 0 = refl in
        let z : 16384 + 16 * y.size + 0 ≡ 16384 + 16 * size_of b + 0 = ap (λ (m : ℕ). 16384 + 16 * m + 0) size in
        omega arith

    at : (leb 4611686018427387904 h.next ≡ true) ⊎ (leb 4611686018427387904 h.next ≡ false) → (tight lines (size_of b) seats ≡ true) ⊎ (tight lines (size_of b) seats ≡ false) → Result lines (cond (leb 4611686018427387904 h.next) (refuse 8 seats) (cond (tight lines (size_of b) seats) (answer Full' seats) (answer (Flow' h.next) (born_at i x seats)))) (starts n b vs [] h) h
    at (inl q) t = rw (room, q) (inl (refl, sat f h s))
    at (inr q) (inr t) = rw (room, q, t) (inl (refl, record { now = refl; next = refl; holds = holds q }))
    at (inr q) (inl t) =
        let a : weight_of g.flows ≡ weight_seats seats + (16384 + 16 * size_of b) = weighs q in
        let c : weight_of h.flows ≡ weight_seats seats = holds_weight f h s in
        let d : 64 * lines < 1048576 + 2 * (weight_seats seats + (16384 + 16 * size_of b)) = grind (arith, nat_tests) in
        rw (room, q, t) (inr (refl, sat f h s, omega arith, omega arith))

pub start_stays : (lines : ℕ) (n : Name) (b : Block) (vs : List ℕ) (f : ℕ → One) (h : House) → Holds f h → block_ok b ≡ true → Result lines (starts_seat lines n b vs (key_seat n (seats_of h f)) (seats_of h f)) (starts n b vs (find (is_key n) h.flows) h) h
unfolding starts_seat starts_flow starts_free starts
start_stays lines n b vs f h s k = go (seat_with (holds_key n) 0 seat_count f) refl
  where
    seats : Seats
    seats = seats_of h f

    free : (is : List ℕ) → find (is_key n) h.flows ≡ [] → seat_with is_free 0 seat_count f ≡ is → Result lines (starts_free lines n b vs is seats) (starts n b vs [] h) h
    free [] e q = let full : leb 1024 (length h.flows) ≡ true = rw (free_none f h s q) refl in rw full (inl (refl, sat f h s))
    free (i ∷ is) e q = let r = free_some f h i is s q in born_stays lines n b vs f h i s k e r.0 r.1 r.2 (bool (leb 4611686018427387904 h.next)) (bool (tight lines (size_of b) seats))

    go : (is : List ℕ) → seat_with (holds_key n) 0 seat_count f ≡ is → Result lines (starts_seat lines n b vs is seats) (starts n b vs (find (is_key n) h.flows) h) h
    go [] e = let q = key_none_seat f h n s e in subst (λ (xs : List Flow). Result lines (starts_free lines n b vs (free_seat seats) seats) (starts n b vs xs h) h) (sym q) (free (free_seat seats) q refl)
    go (i ∷ is) e = let q = key_some f h n i is s e in subst (λ (xs : List Flow). Result lines (starts_flow xs seats) (starts n b vs (find (is_key n) h.flows) h) h) (sym q.here) (subst (λ (xs : List Flow). Result lines (starts_flow (q.flow ∷ []) seats) (starts n b vs xs h) h) (sym q.found) (inl (refl, sat f h s)))

-- ALL CALLS
result_cond : (lines : ℕ) (b : Bool) (m : ℕ) (o : Seated) (p : Out') (f : ℕ → One) (h : House) → Holds f h → (b ≡ false → Result lines o p h) → Result lines (cond b (refuse m (seats_of h f)) o) (cond b (no m h) p) h
result_cond lines true m o p f h s r = inl (refl, sat f h s)
result_cond lines false m o p f h s r = r refl

pub acts_result : (lines : ℕ) (c : Call) (f : ℕ → One) (h : House) → Holds f h → Result lines (acts_seats lines c (seats_of h f)) (acts c h) h
unfolding acts_seats acts
acts_result lines (Start n b xs) f h s = result_cond lines (bad_start n b xs) 1 _ (starts n b xs (find (is_key n) h.flows) h) f h s (λ e. start_stays lines n b xs f h s (grind arith))
acts_result lines (Tell n w v) f h s = let wd : Word = record { name = w; value = v % top } in result_cond lines (not (name_ok n) || not (word_ok w)) 1 _ _ f h s (λ e. inl (tell_stays wd n f h s))
acts_result lines (Cancel n) f h s = result_cond lines (not (name_ok n)) 1 _ _ f h s (λ e. inl (cancel_stays n f h s))
acts_result lines (Take ks ms) f h s = result_cond lines (ltb 64 (length ks) || ltb 86400000 ms) 1 _ _ f h s (λ e. inl (take_stays ks ms f h s))
acts_result lines (Longer j t a ms) f h s = result_cond lines (ltb 86400000 ms) 1 _ _ f h s (λ e. inl (longer_stays j t a ms f h s))
acts_result lines (Report j t a w v) f h s = inl (report_stays j t a w v f h s)
acts_result lines (Show n) f h s = result_cond lines (not (name_ok n)) 1 _ _ f h s (λ e. inl (show_stays n f h s))
acts_result lines (Forget n) f h s = result_cond lines (not (name_ok n)) 1 _ _ f h s (λ e. inl (forget_stays n f h s))
acts_result lines (Tick t) f h s = inl (tick_stays t (small t && ltb 0 t) f h s)

pub does_result : (lines : ℕ) (c : Call) (f : ℕ → One) (h : House) → Holds f h → Result lines (does_seats lines c (seats_of h f)) (does c h) h
does_result lines c f h s = result_cond lines (eqb h.now 0 && not (is_tick c)) 10 (acts_seats lines c (seats_of h f)) (acts c h) f h s (λ e. acts_result lines c f h s)

abbrev Called : (Call → Bool) → ℕ → Call → Seats → House → Type 0
Called can lines c k h = (g : House) × Answers can lines c h (does_seats lines c k).reply g × Sits (does_seats lines c k).seats g

seats_call : (can : Call → Bool) (lines : ℕ) (c : Call) (f : ℕ → One) (h : House) → Holds f h → T (can c && carried c) → Called can lines c (seats_of h f) h
seats_call can lines c f h s t = at (does_result lines c f h s)
  where
    at : Result lines (does_seats lines c (seats_of h f)) (does c h) h → Called can lines c (seats_of h f) h
    at (inl (e, z)) = ((does c h).house, subst (λ (r : Reply). Answers can lines c h r (does c h).house) (sym e) (says_so c h t), z)
    at (inr (e, z, a, b)) = (h, subst (λ (r : Reply). Answers can lines c h r h) (sym e) (too_full c h t a b), z)

seats≡ : (k : Seats) (h : House) → Sits k h → seats_of h k.at ≡ k
seats≡ k h s = λ i. record { now = sym s.now i; next = sym s.next i; at = k.at }

holds_blank : Holds no_seats.at blank
unfolding find
holds_blank = record { good = blank_good; each = λ i l. inl refl; seated = λ j x e. not_nil _ x e; apart = λ i m a b x y e q d. not_nil _ x e }

holds_timed : (f : ℕ → One) (h : House) (n : ℕ) → Holds f h → Holds f (record { now = n; next = h.next; flows = h.flows; tasks = h.tasks })
holds_timed f h n s = record { good = (onward_timed h n s.good).good; each = s.each; seated = s.seated; apart = s.apart }

holds_alike : (f f' : ℕ → One) (h : House) → Holds f h → ((i : ℕ) → i < seat_count → f' i ≡ f i) → Holds f' h
holds_alike f f' h s k = holds_on f f' h h s (onward_refl h s.good) refl (λ i l e. k i l ∙ e) (λ i x l e. k i l ∙ slot_look f h i x s l e)

pub seats_stand : SeatsStand
seats_stand = record {
  starts = record { now = refl; next = refl; holds = holds_blank };
  falls = λ k h s. record { now = refl; next = s.next; holds = holds_timed k.at h 0 s.holds };
  calls = λ can lines c k h s t. subst (λ (l : Seats). Called can lines c l h) (seats≡ k h s) (seats_call can lines c k.at h s.holds t);
  alike = λ k l h s n m e. record { now = n ∙ s.now; next = m ∙ s.next; holds = holds_alike k.at l.at h s.holds e };
  weighs = λ k h s. holds_weight k.at h s.holds;
  counts = λ k h s. holds_length k.at h s.holds;
  fine = λ k h s i l x e. (slot_fine k.at h i x s.holds l e, rw s.next (look_below h x.id x s.holds.good (slot_flow k.at h i x s.holds l e)));
  asks = λ k h s i l t ts e. slot_asks k.at h i s.holds l t ts e;
}
