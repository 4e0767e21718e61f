-- Any loop that counts: its turns in the code, and its safety as work.
-- Assumes nothing.
use mathlib.Core.Path.{◌≡◌, sym, subst}
use Prim.Native.Nat.{ℕ, zero, suc, ◌+◌, ◌-◌, ◌<◌, ◌≤◌}
use native.Mathlib.Omega.{arith}
use Rattle.device.specs.Lines.{Lines, Work}
use Rattle.device.specs.Does.{Op, loop_from, Did, d_end, Turning}
use Rattle.device.proofs.Did.{did_bind}
use Rattle.device.specs.Safe.{Safe, s_end}
use Rattle.device.proofs.Safe.{safe_bind, safe_more}

module _ {S : Type 0} (step : S → Op → S → Type 0) {A : Type 0} (body : ℕ → A → Work A) (i n : ℕ) where
  pub loop_none : (a : A) (s : S) → Turning step body 0 n a s a s
  loop_none a s x u d = subst (λ k. Did step (loop_from body 0 k a) s x u) none d
    where
      none : n - 0 ≡ n
      none = omega arith

  pub loop_again : (a a' a₀ : A) {s t s₀ : S} → i < n → Did step (body i a) s a' t → Turning step body i n a s a₀ s₀ → Turning step body (i + 1) n a' t a₀ s₀
  unfolding loop_from
  loop_again a a' a₀ {s} h x leads y u d =
      let less : n - i ≡ suc (n - (i + 1)) = omega arith in
      leads y u (subst (λ k. Did step (loop_from body i k a) s y u) (sym less) (did_bind (loop_from body (i + 1) (n - (i + 1))) x d))

  pub loop_all : (a a₀ : A) {s s₀ : S} → n ≤ i → Turning step body i n a s a₀ s₀ → Did step (loop_from body 0 n a₀) s₀ a s
  unfolding loop_from
  loop_all a a₀ {s} h leads =
      let none : n - i ≡ 0 = omega arith in
      leads a s (subst (λ k. Did step (loop_from body i k a) s a s) (sym none) d_end)

-- safety: an invariant I that each turn keeps, with R at each moment
module _ {A : Type 0} {N : ℕ} (body : ℕ → A → Work A) (hi : ℕ) (I : ℕ → A → Lines → Type 0) (R : Lines → Type 0)
    (calm : (i : ℕ) (a : A) (m : Lines) → I i a m → R m)
    (turn : (i : ℕ) (a : A) (m : Lines) → i < hi → I i a m → Safe N (λ b n. I (i + 1) b n) R (body i a) m) where
  pub safe_loop : (i n : ℕ) (a : A) (m : Lines) → i + n ≡ hi → I i a m → Safe N (λ b o. I hi b o) R (loop_from body i n a) m
  unfolding loop_from
  safe_loop i zero a m e h = s_end (calm i a m h) (subst (λ k. I k a m) same h)
    where
      same : i ≡ hi
      same = omega arith
  safe_loop i (suc n) a m e h =
      safe_bind (loop_from body (i + 1) n) (safe_more (λ b o r k. safe_loop (i + 1) n b o (omega arith) k) (λ o r. r) (turn i a m (omega arith) h))
