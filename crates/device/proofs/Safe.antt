-- Work that is safe: what follows from it, and how it is put together.
-- Assumes nothing.
use Prim.Native.Nat.{ℕ}
use Rattle.device.specs.Lines.{Lines, Work, Worked, w_end, w_load, w_store, w_push, w_fence, Partly, p_here, p_load, p_store, p_push, p_fence, Within, i_end, i_load, i_store, i_push, i_fence}
use Rattle.device.specs.Does.{bind}
use Rattle.device.specs.Safe.{Safe, s_end, s_load, s_store, s_push, s_fence, Safely, SafeMeans}

module _ {A : Type 0} {N : ℕ} {Q : A → Lines → Type 0} {R : Lines → Type 0} where
  pub safe_here : {w : Work A} {m : Lines} → Safe N Q R w m → R m
  safe_here (s_end r q) = r
  safe_here (s_load r a b h) = r
  safe_here (s_store r a b c h) = r
  safe_here (s_push r a h) = r
  safe_here (s_fence r h) = r

  pub safe_partly : {w : Work A} {m n : Lines} → Partly w m n → Safe N Q R w m → R n
  safe_partly p_here h = safe_here h
  safe_partly (p_load d) (s_load r a b h) = safe_partly d h
  safe_partly (p_store d) (s_store r a b c h) = safe_partly d h
  safe_partly (p_push d) (s_push r a h) = safe_partly d h
  safe_partly (p_fence d) (s_fence r h) = safe_partly d h

  pub safe_worked : {w : Work A} {m n : Lines} {a : A} → Worked w m a n → Safe N Q R w m → Q a n
  safe_worked w_end (s_end r q) = q
  safe_worked (w_load d) (s_load r a b h) = safe_worked d h
  safe_worked (w_store d) (s_store r a b c h) = safe_worked d h
  safe_worked (w_push d) (s_push r a h) = safe_worked d h
  safe_worked (w_fence d) (s_fence r h) = safe_worked d h

  pub safe_within : {w : Work A} {m : Lines} → Safe N Q R w m → Within N w m
  safe_within (s_end r q) = i_end
  safe_within (s_load r a b h) = i_load a b (safe_within h)
  safe_within (s_store r a b c h) = i_store a b c (safe_within h)
  safe_within (s_push r a h) = i_push a (safe_within h)
  safe_within (s_fence r h) = i_fence (safe_within h)

-- and back: work that stays within its lines, with R wherever it may stop and Q where it ends, is safe
pub safe_of : {A : Type 0} {N : ℕ} {w : Work A} {m : Lines} → Within N w m → {Q : A → Lines → Type 0} {R : Lines → Type 0}
    → ((n : Lines) → Partly w m n → R n) → ((a : A) (n : Lines) → Worked w m a n → Q a n) → Safe N Q R w m
safe_of i_end r q = s_end (r _ p_here) (q _ _ w_end)
safe_of (i_load a b h) r q = s_load (r _ p_here) a b (safe_of h (λ n p. r n (p_load p)) (λ x n d. q x n (w_load d)))
safe_of (i_store a b c h) r q = s_store (r _ p_here) a b c (safe_of h (λ n p. r n (p_store p)) (λ x n d. q x n (w_store d)))
safe_of (i_push a h) r q = s_push (r _ p_here) a (safe_of h (λ n p. r n (p_push p)) (λ x n d. q x n (w_push d)))
safe_of (i_fence h) r q = s_fence (r _ p_here) (safe_of h (λ n p. r n (p_fence p)) (λ x n d. q x n (w_fence d)))

pub safe_safely : {A : Type 0} {N : ℕ} {Q : A → Lines → Type 0} {R : Lines → Type 0} {w : Work A} {m : Lines} → Safe N Q R w m → Safely N Q R w m
safe_safely h = (safe_within h, (λ n p. safe_partly p h), λ a n d. safe_worked d h)

pub safe_means : {A : Type 0} (Q : A → Lines → Type 0) (R : Lines → Type 0) → SafeMeans Q R
safe_means Q R N w m = (λ h. safe_safely h, λ h. safe_of h.0 h.1 h.2)

pub safe_bind : {A B : Type 0} {N : ℕ} {Q : B → Lines → Type 0} {R : Lines → Type 0} (k : A → Work B) {w : Work A} {m : Lines}
    → Safe N (λ a n. Safe N Q R (k a) n) R w m → Safe N Q R (bind w k) m
unfolding bind
safe_bind k (s_end r q) = q
safe_bind k (s_load r a b h) = s_load r a b (safe_bind k h)
safe_bind k (s_store r a b c h) = s_store r a b c (safe_bind k h)
safe_bind k (s_push r a h) = s_push r a (safe_bind k h)
safe_bind k (s_fence r h) = s_fence r (safe_bind k h)

-- more is known at each moment, and at the end
pub safe_more : {A : Type 0} {N : ℕ} {Q Q' : A → Lines → Type 0} {R R' : Lines → Type 0} → ((a : A) (n : Lines) → R n → Q a n → Q' a n) → ((n : Lines) → R n → R' n)
    → {w : Work A} {m : Lines} → Safe N Q R w m → Safe N Q' R' w m
safe_more q r (s_end x y) = s_end (r _ x) (q _ _ x y)
safe_more q r (s_load x a b h) = s_load (r _ x) a b (safe_more q r h)
safe_more q r (s_store x a b c h) = s_store (r _ x) a b c (safe_more q r h)
safe_more q r (s_push x a h) = s_push (r _ x) a (safe_more q r h)
safe_more q r (s_fence x h) = s_fence (r _ x) (safe_more q r h)
