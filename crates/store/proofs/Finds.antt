-- Loops over slots, and over a key. Assumes nothing.
use Rattle.std.proofs.Common.{◌≡◌, ℕ, zero, suc, ◌+◌, ◌-◌, ◌<◌, ◌≤◌, Bool, true, false, cond, ◌&&◌, eqb, List, [], ◌∷◌, length, take, drop, Some, None, refl, ap, ◌∙◌, arith, ◌*◌, map}
use Rattle.std.specs.Prelude.{sum}
use Rattle.std.proofs.lemmas.List.Sums.{sum_by-cons}
use Rattle.std.specs.List.{list_all, zip, range_with_len}
use Rattle.store.specs.Layout.{used_of, size_at}
use Rattle.plans.specs.Plan.{same_name}
use Rattle.store.specs.Finds.{first_slot, weighs, weight_over}

more : (i n : ℕ) → i < n → n - i ≡ suc (n - (i + 1))
more i n h = omega arith

pub first_hit : (p : ℕ → Bool) (i n : ℕ) → i < n → p i ≡ true → first_slot p i (n - i) ≡ Some i
unfolding first_slot
first_hit p i n h t = ap (first_slot p i) (more i n h) ∙ ap (λ b. cond b (Some i) (first_slot p (i + 1) (n - (i + 1)))) t

pub first_skip : (p : ℕ → Bool) (i n : ℕ) → i < n → p i ≡ false → first_slot p i (n - i) ≡ first_slot p (i + 1) (n - (i + 1))
unfolding first_slot
first_skip p i n h t = ap (first_slot p i) (more i n h) ∙ ap (λ b. cond b (Some i) (first_slot p (i + 1) (n - (i + 1)))) t

pub first_none : (p : ℕ → Bool) (i n : ℕ) → n ≤ i → first_slot p i (n - i) ≡ None
unfolding first_slot
first_none p i n h = let z : n - i ≡ 0 = omega arith in ap (first_slot p i) z

weighs_low : (q d : List ℕ) (i : ℕ) → weighs q d i ≤ 81920
weighs_low q d i = go (eqb (used_of q i) 1)
  where
    go : (b : Bool) → cond b (16384 + 16 * size_at d i) 0 ≤ 81920
    go true = omega arith
    go false = omega arith

pub weight_low : (q d : List ℕ) (i n : ℕ) → weight_over q d i n ≤ 81920 * n
unfolding weight_over
weight_low q d i zero = omega arith
weight_low q d i (suc n) = let k = weight_low q d (i + 1) n in let w = weighs_low q d i in omega arith

pub weight_sum : (q d : List ℕ) (i n : ℕ) → sum (map (weighs q d) (range_with_len i n)) ≡ weight_over q d i n
unfolding weight_over
weight_sum q d i zero = refl
weight_sum q d i (suc n) = sum_by-cons (λ v. v) (weighs q d i) (map (weighs q d) (range_with_len (i + 1) n)) ∙ ap (λ v. weighs q d i + v) (weight_sum q d (i + 1) n)

pub weight_fits : (q d : List ℕ) (n : ℕ) → n ≤ 1024 → sum (map (weighs q d) (range_with_len 0 n)) < 18446744073709551616
weight_fits q d n few = let l = weight_low q d 0 n in let s = weight_sum q d 0 n in omega arith

-- two names of one length are the same if each pair of letters is
pub same_all : (a b : List ℕ) → length a ≡ length b → list_all (λ (p : ℕ × ℕ). eqb p.0 p.1) (zip a b) ≡ same_name a b
unfolding same_name
same_all [] [] e = refl
same_all [] (y ∷ ys) e = absurd (omega arith)
same_all (x ∷ xs) [] e = absurd (omega arith)
same_all (x ∷ xs) (y ∷ ys) e = ap (λ t. eqb x y && t) (same_all xs ys (omega arith))

pub same_long : (a b : List ℕ) → (length a ≡ length b → ⊥) → same_name a b ≡ false
unfolding same_name
same_long [] [] ne = absurd (ne refl)
same_long [] (y ∷ ys) ne = refl
same_long (x ∷ xs) [] ne = refl
same_long (x ∷ xs) (y ∷ ys) ne = go (eqb x y) (same_long xs ys (λ e. ne (ap suc e)))
  where
    go : (t : Bool) → same_name xs ys ≡ false → (t && same_name xs ys) ≡ false
    go true h = h
    go false h = refl

-- k words from a place on
pub cut_is : {d d' : List ℕ} {s s' : ℕ} (k : ℕ) → d ≡ d' → s ≡ s' → take (s + k - s) (drop s d) ≡ take k (drop s' d')
cut_is {d} {d'} {s} {s'} k ed es =
    ap (λ n. take n (drop s d)) {x = s + k - s} {y = k} (omega arith) ∙ ap (λ xs. take k (drop s xs)) ed ∙ ap (λ i. take k (drop i d')) es
