-- Slots that hold what a house has.
use Rattle.std.proofs.Common.{◌≡◌, ℕ, ◌+◌, ◌<◌, ◌≤◌, Bool, true, false, eqb, ◌⊎◌, List, [], ◌∷◌, map, length, sym, refl, ap, ◌∙◌, subst, inl, inr, arith}
use mathlib.Core.List.{Memᴰ}
use Rattle.std.proofs.lemmas.Bool.Decides.{nat_tests}
use Rattle.plans.specs.Plan.{Name, Flow, none}
use Rattle.flows.specs.House.{Task, House, find, is_flow, is_key, is_task, weight_of}
use Rattle.flows.specs.One.{of, One, look}
use Rattle.flows.specs.Fine.{AsksOf, Fine, absent, calm, tasked, Good}
use Rattle.flows.specs.Seats.{seat_count, nobody, put_at, seat_with, flow_is, holds_key, holds_id, is_free, total, weight_one, length_one, Holds}
use Rattle.flows.proofs.Lists.{nil_cons, bool, find_mem, find_none, none_find, find_keep_other, same_head, not_nil, no_bool, eqb_same, eqb_self}
use Rattle.flows.proofs.Asc.{asc_uniq}
use Rattle.flows.proofs.Sum.{one≡, id_of}
use Rattle.flows.proofs.Kept.{Onward, flow_at_lem, id_below, fine_flow}
use Rattle.flows.proofs.Summed.{same_name_lem}
use Rattle.flows.proofs.Slots.{seat_some, seat_none, put_here, put_other, total_each, total_less, total_list}

-- of which number a flow is that a look shows
pub look_id : (h : House) (j : ℕ) (x : Flow) → Good h → (look j h).flow ≡ x ∷ [] → x.id ≡ j
look_id h j x a e = (fine_flow j x (look j h) (a.fine j) e).0

pub look_below : (h : House) (j : ℕ) (x : Flow) → Good h → (look j h).flow ≡ x ∷ [] → j < h.next
look_below h j x a e = subst (λ (i : ℕ). i < h.next) (look_id h j x a e) (id_below h x a (find_mem (is_flow j) h.flows x [] e).0)

-- what a slot with a flow holds
pub slot_look : (f : ℕ → One) (h : House) (i : ℕ) (x : Flow) → Holds f h → i < seat_count → (f i).flow ≡ x ∷ [] → f i ≡ look x.id h
slot_look f h i x s l e = at (s.each i l)
  where
    at : (f i ≡ nobody) ⊎ ((y : Flow) × ((f i).flow ≡ y ∷ []) × (f i ≡ look y.id h)) → f i ≡ look x.id h
    at (inl n) = not_nil _ x (sym (ap (λ (o : One). o.flow) n) ∙ e)
    at (inr r) = subst (λ (y : Flow). f i ≡ look y.id h) (same_head _ _ (sym r.1 ∙ e)) r.2

pub slot_flow : (f : ℕ → One) (h : House) (i : ℕ) (x : Flow) → Holds f h → i < seat_count → (f i).flow ≡ x ∷ [] → (look x.id h).flow ≡ x ∷ []
slot_flow f h i x s l e = ap (λ (o : One). o.flow) (sym (slot_look f h i x s l e)) ∙ e

pub slot_mem : (f : ℕ → One) (h : House) (i : ℕ) (x : Flow) → Holds f h → i < seat_count → (f i).flow ≡ x ∷ [] → Memᴰ x h.flows
slot_mem f h i x s l e = (find_mem (is_flow x.id) h.flows x [] (slot_flow f h i x s l e)).0

-- it is as fine as in the house
pub slot_fine : (f : ℕ → One) (h : House) (i : ℕ) (x : Flow) → Holds f h → i < seat_count → (f i).flow ≡ x ∷ [] → Fine x.id (f i)
slot_fine f h i x s l e = subst (Fine x.id) (sym (slot_look f h i x s l e)) (s.good.fine x.id)

fine_asks : (j : ℕ) (o : One) → Fine j o → (t : Task) (ts : List Task) → o.task ≡ t ∷ ts → (ts ≡ []) × AsksOf t
fine_asks j o (absent a b) t ts e = nil_cons _ t ts (sym b ∙ e)
fine_asks j o (calm x a b c d w) t ts e = nil_cons _ t ts (sym b ∙ e)
fine_asks j o (tasked x u n a b c d w g k m p q z) t ts e = let y : ◌≡◌ {A = List Task} (u ∷ []) (t ∷ ts) = sym b ∙ e in let r : u ≡ t = cc in (cc, subst AsksOf r z)

pub slot_asks : (f : ℕ → One) (h : House) (i : ℕ) → Holds f h → i < seat_count → (t : Task) (ts : List Task) → (f i).task ≡ t ∷ ts → (ts ≡ []) × AsksOf t
slot_asks f h i s l t ts e = at (s.each i l)
  where
    at : (f i ≡ nobody) ⊎ ((x : Flow) × ((f i).flow ≡ x ∷ []) × (f i ≡ look x.id h)) → (ts ≡ []) × AsksOf t
    at (inl n) = nil_cons _ t ts (sym (ap (λ (o : One). o.task) n) ∙ e)
    at (inr r) = fine_asks r.0.id (f i) (slot_fine f h i r.0 s l r.1) t ts e

-- SUMS
pub holds_total : (V : List Flow → ℕ) → V [] ≡ 0 → ((x : Flow) (xs : List Flow) → V (x ∷ xs) ≡ V (x ∷ []) + V xs) → (f : ℕ → One) (h : House) → Holds f h → V h.flows ≡ total (λ (o : One). V o.flow) f seat_count
holds_total V e0 ec f h s = sym (total_list V e0 ec seat_count h.flows f (asc_uniq h.next (map id_of h.flows) s.good.ids) (λ i l. each i l (s.each i l)) seated s.apart)
  where
    each : (i : ℕ) → i < seat_count → (f i ≡ nobody) ⊎ ((x : Flow) × ((f i).flow ≡ x ∷ []) × (f i ≡ look x.id h)) → ((f i).flow ≡ []) ⊎ ((x : Flow) × ((f i).flow ≡ x ∷ []) × Memᴰ x h.flows)
    each i l (inl e) = inl (ap (λ (o : One). o.flow) e)
    each i l (inr r) = inr (r.0, r.1, slot_mem f h i r.0 s l r.1)

    seated : (x : Flow) → Memᴰ x h.flows → (i : ℕ) × (i < seat_count) × ((f i).flow ≡ x ∷ [])
    seated x m = let e = flow_at_lem h x s.good m in let r = s.seated x.id x e in (r.0, r.1, ap (λ (o : One). o.flow) r.2 ∙ e)

pub holds_weight : (f : ℕ → One) (h : House) → Holds f h → weight_of h.flows ≡ total weight_one f seat_count
unfolding weight_of
holds_weight f h s = holds_total weight_of refl (λ x xs. omega arith) f h s

pub holds_length : (f : ℕ → One) (h : House) → Holds f h → length h.flows ≡ total length_one f seat_count
holds_length f h s = holds_total length refl (λ x xs. omega arith) f h s

-- A FREE SLOT
pub free_some : (f : ℕ → One) (h : House) (i : ℕ) (is : List ℕ) → Holds f h → seat_with is_free 0 seat_count f ≡ i ∷ is → (i < seat_count) × (f i ≡ nobody) × (length h.flows < seat_count)
unfolding none
free_some f h i is s e = (l, free, (let a : length h.flows ≡ total length_one f seat_count = holds_length f h s in let b : total length_one f seat_count < seat_count = total_less length_one f seat_count i (λ j m. most j (s.each j m)) l (ap (λ (o : One). length o.flow) free) in rw a b))
  where
    r : (is_free (f i) ≡ true) × (0 ≤ i) × (i < 0 + seat_count)
    r = seat_some is_free 0 seat_count f i is e

    l : i < seat_count
    l = omega (arith, r.2)

    at : (f i ≡ nobody) ⊎ ((x : Flow) × ((f i).flow ≡ x ∷ []) × (f i ≡ look x.id h)) → f i ≡ nobody
    at (inl q) = q
    at (inr q) = no_bool _ (sym r.0 ∙ ap none q.1)

    free : f i ≡ nobody
    free = at (s.each i l)

    most : (j : ℕ) → (f j ≡ nobody) ⊎ ((x : Flow) × ((f j).flow ≡ x ∷ []) × (f j ≡ look x.id h)) → length_one (f j) ≤ 1
    most j (inl q) = rw q (omega arith)
    most j (inr q) = let z : length (f j).flow ≡ 1 = ap length q.1 in omega arith

pub free_none : (f : ℕ → One) (h : House) → Holds f h → seat_with is_free 0 seat_count f ≡ [] → length h.flows ≡ seat_count
unfolding none
free_none f h s e = holds_length f h s ∙ total_each length_one 1 f seat_count (λ i l. at i (seat_none is_free 0 seat_count f e i (omega arith) (omega arith)) (s.each i l))
  where
    at : (i : ℕ) → is_free (f i) ≡ false → (f i ≡ nobody) ⊎ ((x : Flow) × ((f i).flow ≡ x ∷ []) × (f i ≡ look x.id h)) → length_one (f i) ≡ 1
    at i n (inl q) = no_bool _ (sym (ap is_free q) ∙ n)
    at i n (inr q) = ap length q.1

-- BY KEY
some_flow : (p : Flow → Bool) (f : ℕ → One) (h : House) (i : ℕ) → Holds f h → i < seat_count → flow_is p (f i).flow ≡ true → (x : Flow) × ((f i).flow ≡ x ∷ []) × (p x ≡ true)
unfolding flow_is
some_flow p f h i s l e = at (s.each i l)
  where
    at : (f i ≡ nobody) ⊎ ((x : Flow) × ((f i).flow ≡ x ∷ []) × (f i ≡ look x.id h)) → (x : Flow) × ((f i).flow ≡ x ∷ []) × (p x ≡ true)
    at (inl q) = no_bool _ (sym e ∙ ap (λ (o : One). flow_is p o.flow) q)
    at (inr r) = (r.0, r.1, sym (ap (flow_is p) r.1) ∙ e)

pub record KeyAt (f : ℕ → One) (h : House) (n : Name) (i : ℕ) : Type 0 where
  pub below : i < seat_count
  pub flow : Flow
  pub here : (f i).flow ≡ flow ∷ []
  pub found : find (is_key n) h.flows ≡ flow ∷ []

pub key_some : (f : ℕ → One) (h : House) (n : Name) (i : ℕ) (is : List ℕ) → Holds f h → seat_with (holds_key n) 0 seat_count f ≡ i ∷ is → KeyAt f h n i
key_some f h n i is s e = record { below = l; flow = x; here = r.1; found = go (find (is_key n) h.flows) refl }
  where
    q : (holds_key n (f i) ≡ true) × (0 ≤ i) × (i < 0 + seat_count)
    q = seat_some (holds_key n) 0 seat_count f i is e

    l : i < seat_count
    l = omega (arith, q.2)

    r : (x : Flow) × ((f i).flow ≡ x ∷ []) × (is_key n x ≡ true)
    r = some_flow (is_key n) f h i s l q.0

    x : Flow
    x = r.0

    m : Memᴰ x h.flows
    m = slot_mem f h i x s l r.1

    go : (ys : List Flow) → find (is_key n) h.flows ≡ ys → find (is_key n) h.flows ≡ x ∷ []
    go [] w = no_bool _ (sym r.2 ∙ none_find (is_key n) h.flows x w m)
    go (y ∷ ys) w =
        let z = find_mem (is_key n) h.flows y ys w in
        let fy = flow_at_lem h y s.good z.0 in
        let fx = flow_at_lem h x s.good m in
        let k : y.id ≡ x.id = s.good.keys y.id x.id y x fy fx (sym (same_name_lem n y.key z.1) ∙ same_name_lem n x.key r.2) in
        w ∙ ap (λ vs. y ∷ vs) z.2 ∙ sym fy ∙ ap (λ (i : ℕ). find (is_flow i) h.flows) k ∙ fx

pub key_none_seat : (f : ℕ → One) (h : House) (n : Name) → Holds f h → seat_with (holds_key n) 0 seat_count f ≡ [] → find (is_key n) h.flows ≡ []
unfolding flow_is
key_none_seat f h n s e = find_none (is_key n) h.flows (λ y m. at y (flow_at_lem h y s.good m))
  where
    at : (y : Flow) → (look y.id h).flow ≡ y ∷ [] → is_key n y ≡ false
    at y q = let r = s.seated y.id y q in sym (ap (flow_is (is_key n)) (ap (λ (o : One). o.flow) r.2 ∙ q)) ∙ seat_none (holds_key n) 0 seat_count f e r.0 (omega arith) (omega (arith, r.1))

-- BY NUMBER
pub record IdAt (f : ℕ → One) (h : House) (j : ℕ) (i : ℕ) : Type 0 where
  pub below : i < seat_count
  pub flow : Flow
  pub here : (f i).flow ≡ flow ∷ []
  pub id : flow.id ≡ j
  pub looks : f i ≡ look j h

pub id_some : (f : ℕ → One) (h : House) (j i : ℕ) (is : List ℕ) → Holds f h → seat_with (holds_id j) 0 seat_count f ≡ i ∷ is → IdAt f h j i
id_some f h j i is s e = record { below = l; flow = r.0; here = r.1; id = sym k; looks = slot_look f h i r.0 s l r.1 ∙ ap (λ (m : ℕ). look m h) (sym k) }
  where
    q : (holds_id j (f i) ≡ true) × (0 ≤ i) × (i < 0 + seat_count)
    q = seat_some (holds_id j) 0 seat_count f i is e

    l : i < seat_count
    l = omega (arith, q.2)

    r : (x : Flow) × ((f i).flow ≡ x ∷ []) × (is_flow j x ≡ true)
    r = some_flow (is_flow j) f h i s l q.0

    k : j ≡ r.0.id
    k = eqb_same j r.0.id r.2

-- a flow that has no slot has no task
pub id_none : (f : ℕ → One) (h : House) (j : ℕ) → Holds f h → seat_with (holds_id j) 0 seat_count f ≡ [] → (look j h).task ≡ []
unfolding flow_is
id_none f h j s e = at (s.good.fine j)
  where
    gone : (x : Flow) → (look j h).flow ≡ x ∷ [] → (look j h).task ≡ []
    gone x q =
        let r = s.seated j x q in
        let i : is_flow j x ≡ true = subst (λ (m : ℕ). eqb j m ≡ true) (sym (look_id h j x s.good q)) (eqb_self j) in
        no_bool _ (sym i ∙ sym (ap (flow_is (is_flow j)) (ap (λ (o : One). o.flow) r.2 ∙ q)) ∙ seat_none (holds_id j) 0 seat_count f e r.0 (omega arith) (omega (arith, r.1)))

    at : Fine j (look j h) → (look j h).task ≡ []
    at (absent a b) = b
    at (calm x a b c d w) = b
    at (tasked x t n a b c d w g k m p q z) = gone x a

pub find_task : (h : House) (j s : ℕ) → find (is_task j s) h.tasks ≡ find (is_task j s) (look j h).task
find_task h j s = sym (find_keep_other (is_task j s) (of j) h.tasks (λ u q. grind (arith, nat_tests)))

-- GOING ON: each slot goes on as the look at its flow does
pub holds_on : (f f' : ℕ → One) (h g : House) → Holds f h → Onward h g → g.next ≡ h.next →
    ((i : ℕ) → i < seat_count → f i ≡ nobody → f' i ≡ nobody) →
    ((i : ℕ) (x : Flow) → i < seat_count → (f i).flow ≡ x ∷ [] → f' i ≡ look x.id g) → Holds f' g
holds_on f f' h g s o n free held = record { good = o.good; each = λ i l. each i l (s.each i l); seated = seated; apart = apart }
  where
    each : (i : ℕ) → i < seat_count → (f i ≡ nobody) ⊎ ((x : Flow) × ((f i).flow ≡ x ∷ []) × (f i ≡ look x.id h)) → (f' i ≡ nobody) ⊎ ((y : Flow) × ((f' i).flow ≡ y ∷ []) × (f' i ≡ look y.id g))
    each i l (inl e) = inl (free i l e)
    each i l (inr (x, e, q)) = at (o.good.fine x.id)
      where
        k : f' i ≡ look x.id g
        k = held i x l e

        one : (y : Flow) → (look x.id g).flow ≡ y ∷ [] → y.id ≡ x.id → (f' i ≡ nobody) ⊎ ((y : Flow) × ((f' i).flow ≡ y ∷ []) × (f' i ≡ look y.id g))
        one y a b = inr (y, ap (λ (p : One). p.flow) k ∙ a, k ∙ ap (λ (m : ℕ). look m g) (sym b))

        at : Fine x.id (look x.id g) → (f' i ≡ nobody) ⊎ ((y : Flow) × ((f' i).flow ≡ y ∷ []) × (f' i ≡ look y.id g))
        at (absent a b) = inl (k ∙ one≡ _ _ a b)
        at (calm y a b c d w) = one y a c
        at (tasked y t m a b c d w p r u v z y') = one y a c

    seated : (j : ℕ) (y : Flow) → (look j g).flow ≡ y ∷ [] → (i : ℕ) × (i < seat_count) × (f' i ≡ look j g)
    seated j y e =
        let l : j < h.next = rw (← n) (look_below g j y o.good e) in
        let p = (o.after j l).flow y e in
        let r = s.seated j p.0 p.1 in
        let k = held r.0 p.0 r.1 (ap (λ (q : One). q.flow) r.2 ∙ p.1) in
        (r.0, r.1, k ∙ ap (λ (m : ℕ). look m g) (look_id h j p.0 s.good p.1))

    -- the number of the flow in a slot stays
    was : (i : ℕ) (y : Flow) → (f' i).flow ≡ y ∷ [] → i < seat_count → (f i ≡ nobody) ⊎ ((x : Flow) × ((f i).flow ≡ x ∷ []) × (f i ≡ look x.id h)) → (x : Flow) × ((f i).flow ≡ x ∷ []) × (y.id ≡ x.id)
    was i y e l (inl q) = not_nil _ y (sym (ap (λ (p : One). p.flow) (free i l q)) ∙ e)
    was i y e l (inr (x, q, r)) = (x, q, look_id g x.id y o.good (sym (ap (λ (p : One). p.flow) (held i x l q)) ∙ e))

    apart : (i m : ℕ) → i < seat_count → m < seat_count → (y z : Flow) → (f' i).flow ≡ y ∷ [] → (f' m).flow ≡ z ∷ [] → y.id ≡ z.id → i ≡ m
    apart i m a b y z e q k = let p = was i y e a (s.each i a) in let r = was m z q b (s.each m b) in s.apart i m a b p.0 r.0 p.1 r.1 (sym p.2 ∙ k ∙ r.2)

-- one slot goes on, the others stay
pub holds_put : (f : ℕ → One) (o : One) (h g : House) (i : ℕ) (x : Flow) → Holds f h → Onward h g → g.next ≡ h.next → i < seat_count → (f i).flow ≡ x ∷ [] → look x.id g ≡ o → ((j : ℕ) → eqb j x.id ≡ false → look j g ≡ look j h) → Holds (put_at i o f) g
holds_put f o h g i x s w n l e here other = holds_on f (put_at i o f) h g s w n free held
  where
    free : (m : ℕ) → m < seat_count → f m ≡ nobody → put_at i o f m ≡ nobody
    free m b q = at (bool (eqb m i))
      where
        at : (eqb m i ≡ true) ⊎ (eqb m i ≡ false) → put_at i o f m ≡ nobody
        at (inl k) = not_nil _ x (sym (ap (λ (p : One). p.flow) q) ∙ ap (λ (c : ℕ). (f c).flow) (eqb_same m i k) ∙ e)
        at (inr k) = put_other i o f m k ∙ q

    held : (m : ℕ) (y : Flow) → m < seat_count → (f m).flow ≡ y ∷ [] → put_at i o f m ≡ look y.id g
    held m y b q = at (bool (eqb m i)) (bool (eqb y.id x.id))
      where
        at : (eqb m i ≡ true) ⊎ (eqb m i ≡ false) → (eqb y.id x.id ≡ true) ⊎ (eqb y.id x.id ≡ false) → put_at i o f m ≡ look y.id g
        at (inl k) c =
            let z : y ≡ x = same_head _ _ (sym q ∙ ap (λ (v : ℕ). (f v).flow) (eqb_same m i k) ∙ e) in
            let p : put_at i o f m ≡ o = subst (λ (v : ℕ). put_at i o f v ≡ o) (sym (eqb_same m i k)) (put_here i o f) in
            p ∙ sym here ∙ ap (λ (v : Flow). look v.id g) (sym z)
        at (inr k) (inl c) = let z : m ≡ i = s.apart m i b l y x q e (eqb_same y.id x.id c) in no_bool _ (sym (eqb_self i) ∙ ap (λ (v : ℕ). eqb v i) (sym z) ∙ k)
        at (inr k) (inr c) = put_other i o f m k ∙ slot_look f h m y s b q ∙ sym (other y.id c)
