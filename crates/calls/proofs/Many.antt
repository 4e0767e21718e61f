-- Numbers one behind the other.
use Rattle.std.proofs.Common.{◌≡◌, ℕ, zero, suc, ◌+◌, ◌*◌, ◌/◌, ◌<◌, ◌≤◌, List, [], ◌∷◌, length, get_or, drop, refl, ap, ◌∙◌, arith, mul-suc, mul-le-mul_left}
use Rattle.std.proofs.Math.Nat.{mul-div-le}
use Rattle.calls.specs.Bytes.{numbers}

module _ (w : ℕ) (at : List ℕ → ℕ → ℕ) where
  pub length_numbers : (n : ℕ) (f : List ℕ) → length (numbers w at n f) ≡ n
  unfolding numbers
  length_numbers zero f = refl
  length_numbers (suc n) f = ap suc (length_numbers n (drop w f))

  -- of those that a drop in front leaves as they are
  pub get_numbers : ((f : List ℕ) (n i : ℕ) → at (drop n f) i ≡ at f (n + i)) → (n : ℕ) (f : List ℕ) (i : ℕ) → i < n → get_or (numbers w at n f) i 0 ≡ at f (w * i)
  unfolding numbers
  get_numbers shifts zero f i h = absurd (let z : ⊥ = omega arith in z)
  get_numbers shifts (suc n) f zero h = ap (at f) (let z : 0 ≡ w * 0 = omega arith in z)
  get_numbers shifts (suc n) f (suc i) h =
      let m : w + w * i ≡ w * suc i = omega (arith, mul-suc w i) in
      get_numbers shifts n (drop w f) i (omega arith) ∙ shifts f w (w * i) ∙ ap (at f) m

-- past the end there is 0
pub get_d_past : (f : List ℕ) (i : ℕ) → length f ≤ i → get_or f i 0 ≡ 0
get_d_past [] i h = refl
get_d_past (x ∷ xs) zero h = absurd (let z : ⊥ = omega arith in z)
get_d_past (x ∷ xs) (suc i) h = get_d_past xs i (omega arith)

-- where one of so many stands
pub in_bytes : (w i n : ℕ) → i < n / w → w * i + w ≤ n
in_bytes w i n h = omega (arith, mul-suc w i, mul-le-mul_left w h, mul-div-le n w)
