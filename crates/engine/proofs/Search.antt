-- Looking through the slots finds what looking through the house finds. Assumes nothing.
use Rattle.std.proofs.Common.{◌≡◌, ℕ, zero, suc, ◌+◌, ◌*◌, ◌<◌, ◌≤◌, Bool, true, false, cond, not, ◌&&◌, eqb, ◌⊎◌, List, [], ◌∷◌, Some, None, Option, sym, refl, ap, ◌∙◌, subst, inl, inr, add-one, arith, eq-eqb, ne_eqb, eqb-true}
use borrow.Author.Tests.{eqb-false}
use Rattle.plans.specs.Plan.{Name, Flow, same_name, none}
use Rattle.flows.specs.House.{House, weight_of, is_key, is_flow}
use Rattle.flows.specs.One.{One}
use Rattle.flows.specs.Fine.{Fine, absent, calm, tasked}
use Rattle.flows.specs.Seats.{Seats, Sits, seat_with, flow_is, holds_key, holds_id, is_free as freeOne, total, weight_one, weight_seats}
use Rattle.flows.proofs.Seats.{seats_stand}
use Rattle.pages.specs.Holds.{TasksOk}
use Rattle.store.specs.Layout.{slots, used_of, id_at, size_at, key_at, Mind}
use Rattle.store.specs.Shows.{Used}
use Rattle.store.specs.Finds.{first_slot, by_id, by_key, is_free, weighs, weight_over}
use Rattle.store.proofs.Turns.{bit_low}
use Rattle.engine.proofs.Stands.{Agrees}

unfoldable pub slot_list : Option ℕ → List ℕ
slot_list None = []
slot_list (Some i) = i ∷ []

pub search_same : (p : ℕ → Bool) (q : One → Bool) (f : ℕ → One) (i n : ℕ) → ((j : ℕ) → i ≤ j → j < i + n → p j ≡ q (f j)) → slot_list (first_slot p i n) ≡ seat_with q i n f
unfolding first_slot seat_with slot_list
search_same p q f i zero e = refl
search_same p q f i (suc n) e = go (p i) (q (f i)) (e i (omega arith) (omega arith)) (search_same p q f (i + 1) n (λ j lo hi. e j (omega arith) (omega arith)))
  where
    go : (s t : Bool) → s ≡ t → slot_list (first_slot p (i + 1) n) ≡ seat_with q (i + 1) n f → slot_list (cond s (Some i) (first_slot p (i + 1) n)) ≡ cond t (i ∷ []) (seat_with q (suc i) n f)
    go true true z ih = refl
    go false false z ih = ih ∙ ap (λ k. seat_with q k n f) (add-one i)
    go true false z ih = let w : ◌≡◌ {A = ℕ} 0 1 = cc in absurd (omega arith)
    go false true z ih = let w : ◌≡◌ {A = ℕ} 0 1 = cc in absurd (omega arith)

pub search_found : (p : ℕ → Bool) (i n j : ℕ) → first_slot p i n ≡ Some j → (j < i + n) × (p j ≡ true)
unfolding first_slot
search_found p i zero j e = let w : ◌≡◌ {A = ℕ} 0 1 = cc in absurd (omega arith)
search_found p i (suc n) j e = go (p i) refl e (search_found p (i + 1) n j)
  where
    go : (t : Bool) → p i ≡ t → cond t (Some i) (first_slot p (i + 1) n) ≡ Some j → (first_slot p (i + 1) n ≡ Some j → (j < i + 1 + n) × (p j ≡ true)) → (j < i + suc n) × (p j ≡ true)
    go true t e ih = let q : i ≡ j = cc in (omega arith, ap p (sym q) ∙ t)
    go false t e ih = let r = ih e in (omega (arith, r.0), r.1)

-- a slot is in use or not
pub used_or : (q : List ℕ) (i : ℕ) → i < slots → Used q i ⊎ (used_of q i ≡ 0)
used_or q i h = go (eqb (used_of q i) 1) refl
  where
    go : (t : Bool) → eqb (used_of q i) 1 ≡ t → Used q i ⊎ (used_of q i ≡ 0)
    go true t = inl (h, eqb-true _ _ t)
    go false t = let b = bit_low 1 q i in let ne : used_of q i ≡ 1 → ⊥ = eqb-false _ _ t in inr (omega (arith, ne))

module _ {x : Mind} {fp pl : ℕ → List ℕ} {k : Seats} (a : Agrees x fp pl k) where
  -- the flow of a slot in use, as its entry says
  pub slot_flow : (i : ℕ) (u : Used x.page i) → (y : Flow) × ((k.at i).flow ≡ y ∷ []) × (y.id ≡ id_at x.dir i) × (y.key ≡ key_at x.dir i) × (y.size ≡ size_at x.dir i)
  slot_flow i u = let h = (a.used i u).holds in (h.x, h.flow, ap (λ (y : Flow). y.id) h.is.same, ap (λ (y : Flow). y.key) h.is.same, ap (λ (y : Flow). y.size) h.is.same)

  pub key_same : (n : Name) (i : ℕ) → i < slots → by_key x.page x.dir n i ≡ holds_key n (k.at i)
  unfolding flow_is
  key_same n i h = elim (used_or x.page i h) [
    | inl u ↦ let s = slot_flow i u in ap (λ t. t && same_name n (key_at x.dir i)) (eq-eqb _ _ u.1) ∙ ap (same_name n) (sym s.3) ∙ sym (ap (flow_is (is_key n)) s.1)
    | inr z ↦ ap (λ t. t && same_name n (key_at x.dir i)) (ne_eqb (used_of x.page i) 1 (λ e. omega arith)) ∙ sym (ap (λ (o : One). flow_is (is_key n) o.flow) (a.free i h z))
  ]

  pub id_same : (j i : ℕ) → i < slots → by_id x.page x.dir j i ≡ holds_id j (k.at i)
  unfolding flow_is
  id_same j i h = elim (used_or x.page i h) [
    | inl u ↦ let s = slot_flow i u in ap (λ t. t && eqb (id_at x.dir i) j) (eq-eqb _ _ u.1) ∙ turn (id_at x.dir i) j ∙ ap (eqb j) (sym s.2) ∙ sym (ap (flow_is (is_flow j)) s.1)
    | inr z ↦ ap (λ t. t && eqb (id_at x.dir i) j) (ne_eqb (used_of x.page i) 1 (λ e. omega arith)) ∙ sym (ap (λ (o : One). flow_is (is_flow j) o.flow) (a.free i h z))
  ]
    where
      turn : (m n : ℕ) → eqb m n ≡ eqb n m
      turn m n = go (eqb m n) refl
        where
          go : (t : Bool) → eqb m n ≡ t → t ≡ eqb n m
          go true t = sym (eq-eqb n m (sym (eqb-true m n t)))
          go false t = sym (ne_eqb n m (λ e. eqb-false m n t (sym e)))

  pub free_same : (i : ℕ) → i < slots → is_free x.page i ≡ freeOne (k.at i)
  unfolding none
  free_same i h = elim (used_or x.page i h) [
    | inl u ↦ let s = slot_flow i u in ap not (eq-eqb _ _ u.1) ∙ sym (ap none s.1)
    | inr z ↦ ap not (ne_eqb (used_of x.page i) 1 (λ e. omega arith)) ∙ sym (ap (λ (o : One). none o.flow) (a.free i h z))
  ]

  weigh_same : (i : ℕ) → i < slots → weighs x.page x.dir i ≡ weight_one (k.at i)
  unfolding weight_of
  weigh_same i h = elim (used_or x.page i h) [
    | inl u ↦ let s = slot_flow i u in
        ap (λ t. cond t (16384 + 16 * size_at x.dir i) 0) (eq-eqb _ _ u.1) ∙ ap (λ n. 16384 + 16 * n) (sym s.4) ∙ plus s.0 ∙ sym (ap weight_of s.1)
    | inr z ↦ ap (λ t. cond t (16384 + 16 * size_at x.dir i) 0) (ne_eqb (used_of x.page i) 1 (λ e. omega arith)) ∙ sym (ap (λ (o : One). weight_of o.flow) (a.free i h z))
  ]
    where
      plus : (y : Flow) → 16384 + 16 * y.size ≡ weight_of (y ∷ [])
      plus y = omega arith

  over_more : (i n : ℕ) → weight_over x.page x.dir i (suc n) ≡ weight_over x.page x.dir i n + weighs x.page x.dir (i + n)
  unfolding weight_over
  over_more i zero = ap (λ j. weighs x.page x.dir j + 0) {x = i} {y = i + 0} (omega arith) ∙ omega arith
  over_more i (suc n) =
      let h = over_more (i + 1) n in
      let e : weighs x.page x.dir (i + 1 + n) ≡ weighs x.page x.dir (i + suc n) = ap (weighs x.page x.dir) (omega arith) in
      omega arith

  weight_to : (n : ℕ) → n ≤ slots → weight_over x.page x.dir 0 n ≡ total weight_one k.at n
  unfolding weight_over total
  weight_to zero h = refl
  weight_to (suc n) h =
      let m = over_more 0 n in
      let e : weighs x.page x.dir (0 + n) ≡ weighs x.page x.dir n = ap (weighs x.page x.dir) (omega arith) in
      let w = weigh_same n (omega arith) in
      let ih = weight_to n (omega arith) in
      omega arith

  pub weight_same : weight_over x.page x.dir 0 1024 ≡ weight_seats k
  weight_same = weight_to 1024 (omega arith)

-- tasks that the house has are within their bounds
pub tasks_ok : (k : Seats) (h : House) → Sits k h → (i : ℕ) → i < slots → TasksOk (k.at i).task
tasks_ok k h s i hi = elim (s.holds.each i hi) [ inl e ↦ subst (λ (o : One). TasksOk o.task) (sym e) tt | inr p ↦ by p.0.id (seats_stand.fine k h s i hi p.0 p.1).0 ]
  where
    by : (j : ℕ) → Fine j (k.at i) → TasksOk (k.at i).task
    by j (absent f t) = subst TasksOk (sym t) tt
    by j (calm z f t i0 fr w) = subst TasksOk (sym t) tt
    by j (tasked z u st f t i0 fr ph lt fl se one le asks) = subst TasksOk (sym t) (record { first = one; attempt = le; tries = asks.tries; pause = asks.pause; kind = asks.kind }, tt)
