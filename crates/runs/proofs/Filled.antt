-- Sixteen words with zeros behind the last that is given.
use Rattle.std.proofs.Common.{◌≡◌, ℕ, zero, suc, ◌-◌, ◌≤◌, ◌+◌, List, ◌∷◌, ◌++◌, length, take, drop, replicate, refl, sym, ap, ◌∙◌, arith, length-append, length-take-le, take-take}
use lib.Seq.{take-append-add, take-append_seam}
use Rattle.runs.specs.Steps.{fill}

pub take_zeros : (k n : ℕ) → k ≤ n → take k (replicate {A = ℕ} n 0) ≡ replicate k 0
take_zeros zero n h = refl
take_zeros (suc k) zero h = absurd (omega arith)
take_zeros (suc k) (suc n) h = ap (λ (l : List ℕ). 0 ∷ l) (take_zeros k n (omega arith))

zeros_as : (m n : ℕ) → m ≡ n → replicate {A = ℕ} m 0 ≡ replicate n 0
zeros_as m n e = ap (λ (k : ℕ). replicate {A = ℕ} k 0) e

pub drop_zeros : (k n : ℕ) → drop k (replicate {A = ℕ} n 0) ≡ replicate (n - k) 0
drop_zeros zero n = zeros_as n (n - 0) (omega arith)
drop_zeros (suc k) zero = zeros_as 0 (0 - suc k) (omega arith)
drop_zeros (suc k) (suc n) = drop_zeros k n ∙ zeros_as (n - k) (suc n - suc k) (omega arith)

-- zeros put behind
pub filled : (xs : List ℕ) (n : ℕ) → length xs ≡ n → n ≤ 16 → xs ++ drop n (replicate {A = ℕ} 16 0) ≡ fill xs
unfolding fill
filled xs n e h =
    let m : 16 ≡ length xs + (16 - n) = omega arith in
    let a : take 16 (xs ++ replicate 16 0) ≡ xs ++ take (16 - n) (replicate 16 0) = ap (λ (k : ℕ). take k (xs ++ replicate 16 0)) m ∙ take-append-add xs (replicate 16 0) (16 - n) in
    ap (λ (l : List ℕ). xs ++ l) (drop_zeros n 16 ∙ sym (take_zeros (16 - n) 16 (omega arith))) ∙ sym a

pub fill_long : (xs : List ℕ) → length (fill xs) ≡ 16
unfolding fill
fill_long xs = length-take-le 16 (xs ++ replicate 16 0) (omega (arith, length-append xs (replicate {A = ℕ} 16 0)))

pub fill_take : (xs : List ℕ) → length xs ≤ 16 → take (length xs) (fill xs) ≡ xs
unfolding fill
fill_take xs h = take-take (length xs) 16 (xs ++ replicate 16 0) h ∙ take-append_seam xs (replicate 16 0)

-- the first of them are those that were given
pub first_filled : (xs : List ℕ) (n : ℕ) (ys : List ℕ) → n ≤ 16 → n ≤ length xs → ys ≡ fill (take n xs) → take n ys ≡ take n xs
first_filled xs n ys h k e =
    let l : length (take n xs) ≡ n = length-take-le n xs k in
    ap (take n) e ∙ (ap (λ (m : ℕ). take m (fill (take n xs))) (sym l) ∙ fill_take (take n xs) (omega arith))
