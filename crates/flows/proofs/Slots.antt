-- Slots by number: finding one, and sums over them.
use Rattle.std.proofs.Common.{◌≡◌, ℕ, zero, suc, ◌+◌, ◌*◌, ◌<◌, ◌≤◌, Bool, true, false, eqb, ◌⊎◌, List, [], ◌∷◌, map, sym, refl, ap, ◌∙◌, subst, inl, inr, arith}
use mathlib.Core.List.Memᴰ
use mathlib.Core.List.{Memᴰ}
use Rattle.std.proofs.lemmas.Bool.Decides.{nat_tests}
use Rattle.plans.specs.Plan.{Flow}
use Rattle.flows.specs.One.{One}
use Rattle.flows.specs.Seats.{seat_with, total, put_at, nobody}
use Rattle.flows.proofs.Lists.{bool, Uniq, mem_map, same_head, not_nil, eqb_same, eqb_self}
use Rattle.flows.proofs.Sum.{id_of}

-- FINDING
pub seat_some : (p : One → Bool) (i n : ℕ) (f : ℕ → One) (j : ℕ) (js : List ℕ) → seat_with p i n f ≡ j ∷ js → (p (f j) ≡ true) × (i ≤ j) × (j < i + n)
unfolding seat_with
seat_some p i zero f j js e = let z : ◌≡◌ {A = ℕ} 0 1 = cc in absurd (omega arith)
seat_some p i (suc n) f j js e = go (bool (p (f i))) (seat_some p (suc i) n f j js)
  where
    go : (p (f i) ≡ true) ⊎ (p (f i) ≡ false) → (seat_with p (suc i) n f ≡ j ∷ js → (p (f j) ≡ true) × (suc i ≤ j) × (j < suc i + n)) → (p (f j) ≡ true) × (i ≤ j) × (j < i + suc n)
    go (inl q) ih = let k : ◌≡◌ {A = List ℕ} (i ∷ []) (j ∷ js) = rw q at e in let w : i ≡ j = cc in (subst (λ (m : ℕ). p (f m) ≡ true) w q, omega arith, omega arith)
    go (inr q) ih = let r = ih (rw q at e) in (r.0, omega (arith, r.1), omega (arith, r.2))

pub seat_none : (p : One → Bool) (i n : ℕ) (f : ℕ → One) → seat_with p i n f ≡ [] → (j : ℕ) → i ≤ j → j < i + n → p (f j) ≡ false
unfolding seat_with
seat_none p i zero f e j l m = absurd (omega arith)
seat_none p i (suc n) f e j l m = go (bool (p (f i))) (bool (eqb j i)) (seat_none p (suc i) n f)
  where
    go : (p (f i) ≡ true) ⊎ (p (f i) ≡ false) → (eqb j i ≡ true) ⊎ (eqb j i ≡ false) → (seat_with p (suc i) n f ≡ [] → (j : ℕ) → suc i ≤ j → j < suc i + n → p (f j) ≡ false) → p (f j) ≡ false
    go (inl q) b ih = let k : ◌≡◌ {A = List ℕ} (i ∷ []) [] = rw q at e in let z : ◌≡◌ {A = ℕ} 0 1 = cc in absurd (omega arith)
    go (inr q) (inl b) ih = subst (λ (k : ℕ). p (f k) ≡ false) (sym (eqb_same j i b)) q
    go (inr q) (inr b) ih = let ne : i < j = grind (arith, nat_tests) in ih (rw q at e) j (omega arith) (omega arith)

-- SUMS
pub total_same : (w : One → ℕ) (f g : ℕ → One) (n : ℕ) → ((i : ℕ) → i < n → w (f i) ≡ w (g i)) → total w f n ≡ total w g n
unfolding total
total_same w f g zero k = refl
total_same w f g (suc n) k = let a : w (f n) ≡ w (g n) = k n (omega arith) in let b : total w f n ≡ total w g n = total_same w f g n (λ i l. k i (omega arith)) in omega arith

pub put_here : (i : ℕ) (o : One) (f : ℕ → One) → put_at i o f i ≡ o
put_here i o f = rw (eqb_self i) refl

pub put_other : (i : ℕ) (o : One) (f : ℕ → One) (j : ℕ) → eqb j i ≡ false → put_at i o f j ≡ f j
put_other i o f j e = rw e refl

pub total_put : (w : One → ℕ) (i : ℕ) (o : One) (f : ℕ → One) (n : ℕ) → i < n → total w (put_at i o f) n + w (f i) ≡ total w f n + w o
unfolding total
total_put w i o f zero l = absurd (omega arith)
total_put w i o f (suc n) l = go (bool (eqb n i)) (total_put w i o f n)
  where
    go : (eqb n i ≡ true) ⊎ (eqb n i ≡ false) → (i < n → total w (put_at i o f) n + w (f i) ≡ total w f n + w o) → w (put_at i o f n) + total w (put_at i o f) n + w (f i) ≡ w (f n) + total w f n + w o
    go (inl e) ih =
        let a : total w (put_at i o f) n ≡ total w f n = total_same w (put_at i o f) f n (λ j m. ap w (put_other i o f j (grind (arith, nat_tests)))) in
        let b : w (put_at i o f n) ≡ w o = ap w (rw e refl) in
        let c : w (f n) ≡ w (f i) = ap (λ (j : ℕ). w (f j)) (eqb_same n i e) in
        omega arith
    go (inr e) ih =
        let m : i < n = grind (arith, nat_tests) in
        let a : total w (put_at i o f) n + w (f i) ≡ total w f n + w o = ih m in
        let b : w (put_at i o f n) ≡ w (f n) = ap w (put_other i o f n e) in
        omega arith

pub total_each : (w : One → ℕ) (v : ℕ) (f : ℕ → One) (n : ℕ) → ((i : ℕ) → i < n → w (f i) ≡ v) → total w f n ≡ n * v
unfolding total
total_each w v f zero k = omega arith
total_each w v f (suc n) k = let a : w (f n) ≡ v = k n (omega arith) in let b : total w f n ≡ n * v = total_each w v f n (λ i l. k i (omega arith)) in let c : suc n * v ≡ v + n * v = omega arith in omega arith

-- at most one each, and none at one
pub total_le : (w : One → ℕ) (f : ℕ → One) (n : ℕ) → ((i : ℕ) → i < n → w (f i) ≤ 1) → total w f n ≤ n
unfolding total
total_le w f zero k = omega arith
total_le w f (suc n) k = let a : w (f n) ≤ 1 = k n (omega arith) in let b : total w f n ≤ n = total_le w f n (λ i l. k i (omega arith)) in omega arith

pub total_less : (w : One → ℕ) (f : ℕ → One) (n i : ℕ) → ((i : ℕ) → i < n → w (f i) ≤ 1) → i < n → w (f i) ≡ 0 → total w f n < n
unfolding total
total_less w f zero i k l e = absurd (omega arith)
total_less w f (suc n) i k l e = go (bool (eqb n i)) (total_less w f n i (λ j m. k j (omega arith)))
  where
    go : (eqb n i ≡ true) ⊎ (eqb n i ≡ false) → (i < n → w (f i) ≡ 0 → total w f n < n) → w (f n) + total w f n < suc n
    go (inl q) ih = let a : total w f n ≤ n = total_le w f n (λ j m. k j (omega arith)) in let b : w (f n) ≡ 0 = ap (λ (j : ℕ). w (f j)) (eqb_same n i q) ∙ e in omega arith
    go (inr q) ih = let m : i < n = grind (arith, nat_tests) in let a : total w f n < n = ih m e in let b : w (f n) ≤ 1 = k n (omega arith) in omega arith

-- the flows of a list, each in one slot: a sum over the list is the sum over the slots
pub total_list : (V : List Flow → ℕ) → V [] ≡ 0 → ((x : Flow) (xs : List Flow) → V (x ∷ xs) ≡ V (x ∷ []) + V xs) → (n : ℕ) (xs : List Flow) (f : ℕ → One) → Uniq (map id_of xs) →
    ((i : ℕ) → i < n → ((f i).flow ≡ []) ⊎ ((x : Flow) × ((f i).flow ≡ x ∷ []) × Memᴰ x xs)) →
    ((x : Flow) → Memᴰ x xs → (i : ℕ) × (i < n) × ((f i).flow ≡ x ∷ [])) →
    ((i l : ℕ) → i < n → l < n → (x y : Flow) → (f i).flow ≡ x ∷ [] → (f l).flow ≡ y ∷ [] → x.id ≡ y.id → i ≡ l) →
    total (λ (o : One). V o.flow) f n ≡ V xs
total_list V e0 ec n [] f u each seated apart = total_each (λ (o : One). V o.flow) 0 f n (λ i l. at i (each i l)) ∙ (let z : n * 0 ≡ 0 = omega arith in z ∙ sym e0)
  where
    at : (i : ℕ) → ((f i).flow ≡ []) ⊎ ((x : Flow) × ((f i).flow ≡ x ∷ []) × Memᴰ x []) → V (f i).flow ≡ 0
    at i (inl e) = ap V e ∙ e0
    at i (inr r) = elim r.2 [ ]
total_list V e0 ec n (x ∷ xs) f u each seated apart = sums (λ g a b c. total_list V e0 ec n xs g u.1 a b c)
  where
    s : (i : ℕ) × (i < n) × ((f i).flow ≡ x ∷ [])
    s = seated x (Memᴰ.head refl)

    i : ℕ
    i = s.0

    g : ℕ → One
    g = put_at i nobody f

    here : (j : ℕ) → eqb j i ≡ true → (g j).flow ≡ []
    here j e = let z : g j ≡ nobody = rw e refl in ap (λ (o : One). o.flow) z

    there : (j : ℕ) → eqb j i ≡ false → (g j).flow ≡ (f j).flow
    there j e = ap (λ (o : One). o.flow) (put_other i nobody f j e)

    two : (j : ℕ) (e : eqb j i ≡ false) (y : Flow) → j < n → (f j).flow ≡ y ∷ [] → (y ≡ x) ⊎ Memᴰ y xs → Memᴰ y xs
    two j e y l q (inr m) = m
    two j e y l q (inl w) = let k : j ≡ i = apart j i l s.1 y x q s.2 (ap id_of w) in let z : eqb j i ≡ true = subst (λ (m : ℕ). eqb m i ≡ true) (sym k) (eqb_self i) in let c : true ≡ false = sym z ∙ e in let v : ◌≡◌ {A = ℕ} 0 1 = cc in absurd (omega arith)

    one : (j : ℕ) → j < n → eqb j i ≡ false → ((f j).flow ≡ []) ⊎ ((y : Flow) × ((f j).flow ≡ y ∷ []) × Memᴰ y (x ∷ xs)) → ((g j).flow ≡ []) ⊎ ((y : Flow) × ((g j).flow ≡ y ∷ []) × Memᴰ y xs)
    one j l e (inl q) = inl (there j e ∙ q)
    one j l e (inr r) = inr (r.0, there j e ∙ r.1, two j e r.0 l r.1 (Memᴰ.cases_cons r.2))

    each' : (j : ℕ) → j < n → ((g j).flow ≡ []) ⊎ ((y : Flow) × ((g j).flow ≡ y ∷ []) × Memᴰ y xs)
    each' j l = go (bool (eqb j i))
      where
        go : (eqb j i ≡ true) ⊎ (eqb j i ≡ false) → ((g j).flow ≡ []) ⊎ ((y : Flow) × ((g j).flow ≡ y ∷ []) × Memᴰ y xs)
        go (inl e) = inl (here j e)
        go (inr e) = one j l e (each j l)

    seated' : (y : Flow) → Memᴰ y xs → (j : ℕ) × (j < n) × ((g j).flow ≡ y ∷ [])
    seated' y m = go (bool (eqb r.0 i))
      where
        r : (j : ℕ) × (j < n) × ((f j).flow ≡ y ∷ [])
        r = seated y (Memᴰ.tail m)

        go : (eqb r.0 i ≡ true) ⊎ (eqb r.0 i ≡ false) → (j : ℕ) × (j < n) × ((g j).flow ≡ y ∷ [])
        go (inl e) = let q : y ≡ x = same_head _ _ (sym r.2 ∙ ap (λ (j : ℕ). (f j).flow) (eqb_same r.0 i e) ∙ s.2) in absurd (u.0 (subst (λ (k : ℕ). Memᴰ k (map id_of xs)) (ap id_of q) (mem_map id_of xs y m)))
        go (inr e) = (r.0, r.1, there r.0 e ∙ r.2)

    was : (j : ℕ) (y : Flow) → (g j).flow ≡ y ∷ [] → (eqb j i ≡ true) ⊎ (eqb j i ≡ false) → (f j).flow ≡ y ∷ []
    was j y q (inl e) = not_nil _ y (sym (here j e) ∙ q)
    was j y q (inr e) = sym (there j e) ∙ q

    apart' : (j l : ℕ) → j < n → l < n → (y z : Flow) → (g j).flow ≡ y ∷ [] → (g l).flow ≡ z ∷ [] → y.id ≡ z.id → j ≡ l
    apart' j l a b y z p q e = apart j l a b y z (was j y p (bool (eqb j i))) (was l z q (bool (eqb l i))) e

    V' : One → ℕ
    V' o = V o.flow

    sums : ((g : ℕ → One) → ((j : ℕ) → j < n → ((g j).flow ≡ []) ⊎ ((y : Flow) × ((g j).flow ≡ y ∷ []) × Memᴰ y xs)) → ((y : Flow) → Memᴰ y xs → (j : ℕ) × (j < n) × ((g j).flow ≡ y ∷ [])) → ((j l : ℕ) → j < n → l < n → (y z : Flow) → (g j).flow ≡ y ∷ [] → (g l).flow ≡ z ∷ [] → y.id ≡ z.id → j ≡ l) → total V' g n ≡ V xs) → total V' f n ≡ V (x ∷ xs)
    sums ih =
        let a : total V' g n ≡ V xs = ih g each' seated' apart' in
        let b : total V' g n + V (f i).flow ≡ total V' f n + V [] = total_put V' i nobody f n s.1 in
        let c : V (f i).flow ≡ V (x ∷ []) = ap V s.2 in
        let d : V (x ∷ xs) ≡ V (x ∷ []) + V xs = ec x xs in
        omega arith
