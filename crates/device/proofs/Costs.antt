-- Costs add up.
-- Assumes nothing.
use mathlib.Core.Path.{◌≡◌, subst}
use Prim.Native.Nat.{ℕ, zero, suc, ◌+◌, ◌*◌, ◌<◌, ◌≤◌}
use native.Mathlib.Omega.{arith}
use native.Mathlib.Nat.{suc-mul}
use Rattle.device.specs.Lines.{Work}
use Rattle.device.specs.Does.{Op, bind, loop_from, Did, d_end, d_load, d_store, d_push, d_fence}
use Rattle.device.specs.Costs.{Costs, c_end, c_load, c_store, c_push, c_fence, count_of, Below}
use Rattle.device.specs.Flips.{commit_work, FlipCosts}

pub costs_more : {A : Type 0} {Q Q' : A → Type 0} → ((a : A) → Q a → Q' a) → {l s p f : ℕ} {w : Work A} → Costs Q l s p f w → {l' s' p' f' : ℕ} → l ≤ l' → s ≤ s' → p ≤ p' → f ≤ f' → Costs Q' l' s' p' f' w
costs_more q (c_end x) hl hs hp hf = c_end (q _ x)
costs_more q (c_load {l'} h k) {l' = m} hl hs hp hf = c_load {l' = l'} (omega arith) (λ v. costs_more q (k v) (omega arith) hs hp hf)
costs_more q (c_store {s'} h w) hl hs hp hf = c_store {s' = s'} (omega arith) (costs_more q w hl (omega arith) hp hf)
costs_more q (c_push {p'} h w) hl hs hp hf = c_push {p' = p'} (omega arith) (costs_more q w hl hs (omega arith) hf)
costs_more q (c_fence {f'} h w) hl hs hp hf = c_fence {f' = f'} (omega arith) (costs_more q w hl hs hp (omega arith))

pub costs_bind : {A B : Type 0} {P : A → Type 0} {Q : B → Type 0} (k : A → Work B) {l' s' p' f' : ℕ}
    → ((a : A) → P a → Costs Q l' s' p' f' (k a))
    → {l s p f : ℕ} {w : Work A} → Costs P l s p f w → Costs Q (l + l') (s + s') (p + p') (f + f') (bind w k)
unfolding bind
costs_bind k more (c_end x) = costs_more (λ b q. q) (more _ x) (omega arith) (omega arith) (omega arith) (omega arith)
costs_bind k {l'} more (c_load {l' = n} h w) = c_load {l' = n + l'} (omega arith) (λ v. costs_bind k more (w v))
costs_bind k {s'} more (c_store {s' = n} h w) = c_store {s' = n + s'} (omega arith) (costs_bind k more w)
costs_bind k {p'} more (c_push {p' = n} h w) = c_push {p' = n + p'} (omega arith) (costs_bind k more w)
costs_bind k {f'} more (c_fence {f' = n} h w) = c_fence {f' = n + f'} (omega arith) (costs_bind k more w)

-- so many turns, each at most so much
module _ {A : Type 0} (body : ℕ → A → Work A) (hi : ℕ) (I : ℕ → A → Type 0) (l s p f : ℕ) (turn : (i : ℕ) (a : A) → i < hi → I i a → Costs (I (i + 1)) l s p f (body i a)) where
  pub costs_loop : (i n : ℕ) (a : A) → i + n ≡ hi → I i a → Costs (I hi) (n * l) (n * s) (n * p) (n * f) (loop_from body i n a)
  unfolding loop_from
  costs_loop i zero a e h = let same : i ≡ hi = omega arith in c_end (subst (λ k. I k a) same h)
  costs_loop i (suc n) a e h =
      costs_more (λ b q. q)
      (costs_bind (loop_from body (i + 1) n) (λ b k. costs_loop (i + 1) n b (omega arith) k) (turn i a (omega arith) h))
      (omega (arith, suc-mul n l)) (omega (arith, suc-mul n s)) (omega (arith, suc-mul n p)) (omega (arith, suc-mul n f))

-- what was done cost no more
pub costs_did : {S : Type 0} {step : S → Op → S → Type 0} {A : Type 0} {Q : A → Type 0} {l s p f : ℕ} {w : Work A} → Costs Q l s p f w
    → {u v : S} {a : A} (d : Did step w u a v) → Below (count_of d) l s p f
unfolding count_of
costs_did (c_end x) d_end = (omega arith, omega arith, omega arith, omega arith)
costs_did (c_load h k) (d_load x d) = let b = costs_did (k _) d in (omega (arith, b.0), b.1, b.2, b.3)
costs_did (c_store h k) (d_store x d) = let b = costs_did k d in (b.0, omega (arith, b.1), b.2, b.3)
costs_did (c_push h k) (d_push x d) = let b = costs_did k d in (b.0, b.1, omega (arith, b.2), b.3)
costs_did (c_fence h k) (d_fence x d) = let b = costs_did k d in (b.0, b.1, b.2, omega (arith, b.3))

pub costs_commit_work : (root k v : ℕ) → Costs (λ x. Unit {0}) 0 1 1 2 (commit_work root k v)
costs_commit_work root k v =
    let z : 0 + 1 ≤ 1 = omega arith in
    let y : 1 + 1 ≤ 2 = omega arith in
    c_fence {f' = 1} y (c_store {s' = 0} z (c_push {p' = 0} z (c_fence {f' = 0} z (c_end tt))))

pub flip_costs : (A : Type 0) → FlipCosts A
flip_costs A root k w v l s p f c =
    costs_more (λ x q. q) (costs_bind (λ a. commit_work root k (v a)) (λ a q. costs_commit_work root k (v a)) c) (omega arith) (omega arith) (omega arith) (omega arith)
