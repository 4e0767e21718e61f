-- A pause that doubles. Assumes nothing.
use Rattle.std.proofs.Common.{◌≡◌, ℕ, zero, suc, ◌+◌, ◌-◌, ◌*◌, ◌%◌, ◌^◌, ◌<◌, ◌≤◌, sym, ap, ◌∙◌, mul_assoc, mul_comm, pow-suc, mul-one, arith, shl_lt, shl_exact}
use lib.Pow.{pow-lt}
use Rattle.flows.specs.House.{doubled, less1}

doubled_is : (n p : ℕ) → doubled n p ≡ p * 2 ^ n
unfolding doubled
doubled_is zero p = sym (mul-one p)
doubled_is (suc n) p = ap (λ (m : ℕ). 2 * m) (doubled_is n p) ∙ mul_comm 2 (p * 2 ^ n) ∙ mul_assoc p (2 ^ n) 2 ∙ ap (λ (m : ℕ). p * m) (sym (pow-suc 2 n))

less1_is : (a : ℕ) → less1 a ≡ a - 1
unfolding less1
less1_is zero = omega arith
less1_is (suc n) = omega arith

-- the shift loses nothing, and the pause is short
pub pauses : (a p : ℕ) → 1 ≤ a → a ≤ 32 → p ≤ 86400000 → ((p * 2 ^ (a - 1)) % 18446744073709551616 ≡ doubled (less1 a) p) × (doubled (less1 a) p < 4611686018427387904)
pauses a p l h q =
    let k : ℕ = a - 1 in
    let b : 27 + k ≤ 64 = omega arith in
    let b2 : 27 + k < 62 = omega arith in
    let s : p < 2 ^ 27 = omega arith in
    let d : doubled (less1 a) p ≡ p * 2 ^ k = ap (λ (m : ℕ). doubled m p) (less1_is a) ∙ doubled_is k p in
    let e : p * 2 ^ k < 2 ^ (27 + k) = shl_lt 27 k s in
    let f : 2 ^ (27 + k) < 2 ^ 62 = pow-lt b2 in
    (shl_exact 27 k 64 s b ∙ sym d, omega arith)
