-- Work in parts, and work on memory that gives what was stored last.
-- Assumes nothing.
use mathlib.Core.Path.{◌≡◌, refl, subst, ◌∙◌}
use mathlib.Core.Bool.{Bool, true, false}
use Prim.Native.Nat.{ℕ}
use borrow.Author.Tests.{both_ways}
use Rattle.device.specs.Lines.{Lines, Work, load, store, push, fence, Worked, w_end, w_load, w_store, w_push, w_fence, Partly, p_here, p_load, p_store, p_push, p_fence}
use Rattle.device.specs.Does.{Op, bind, Did, d_end, d_load, d_store, d_push, d_fence}
use Rattle.device.specs.Ties.{Coheres}

pub did_bind : {S : Type 0} {step : S → Op → S → Type 0} {A B : Type 0} {w : Work A} {s t u : S} {a : A} {b : B} (k : A → Work B)
    → Did step w s a t → Did step (k a) t b u → Did step (bind w k) s b u
unfolding bind
did_bind k d_end e = e
did_bind k (d_load x d) e = d_load x (did_bind k d e)
did_bind k (d_store x d) e = d_store x (did_bind k d e)
did_bind k (d_push x d) e = d_push x (did_bind k d e)
did_bind k (d_fence x d) e = d_fence x (did_bind k d e)

-- what each step keeps, work keeps
pub did_size : {S : Type 0} {step : S → Op → S → Type 0} {size : S → ℕ} {A : Type 0} → ((s : S) (o : Op) (t : S) → step s o t → size t ≡ size s)
    → {w : Work A} {s : S} {a : A} {t : S} → Did step w s a t → size t ≡ size s
did_size e d_end = refl
did_size e (d_load x d) = did_size e d ∙ e _ _ _ x
did_size e (d_store x d) = did_size e d ∙ e _ _ _ x
did_size e (d_push x d) = did_size e d ∙ e _ _ _ x
did_size e (d_fence x d) = did_size e d ∙ e _ _ _ x

-- the same work, told of another memory whose steps follow
pub did_map : {S S' : Type 0} {step : S → Op → S → Type 0} {step' : S' → Op → S' → Type 0} {A : Type 0} (f : S → S') → ((s : S) (o : Op) (t : S) → step s o t → step' (f s) o (f t))
    → {w : Work A} {s : S} {a : A} {t : S} → Did step w s a t → Did step' w (f s) a (f t)
did_map f e d_end = d_end
did_map f e (d_load x d) = d_load (e _ _ _ x) (did_map f e d)
did_map f e (d_store x d) = d_store (e _ _ _ x) (did_map f e d)
did_map f e (d_push x d) = d_push (e _ _ _ x) (did_map f e d)
did_map f e (d_fence x d) = d_fence (e _ _ _ x) (did_map f e d)

module _ {S : Type 0} {step : S → Op → S → Type 0} {stopped : S → Bool} {stands : S → Lines → Type 0} (c : Coheres step stopped stands) {A : Type 0} where
  -- once stopped, nothing changes
  pub did_still : {w : Work A} {s : S} {a : A} {t : S} → Did step w s a t → stopped s ≡ true → (m : Lines) → stands s m → stands t m × (stopped t ≡ true)
  did_still d_end z m h = (h, z)
  did_still (d_load x d) z m h = let f = c _ _ _ x in did_still d (f.still z) m (f.stops (f.still z) m h)
  did_still (d_store x d) z m h = let f = c _ _ _ x in did_still d (f.still z) m (f.stops (f.still z) m h)
  did_still (d_push x d) z m h = let f = c _ _ _ x in did_still d (f.still z) m (f.stops (f.still z) m h)
  did_still (d_fence x d) z m h = let f = c _ _ _ x in did_still d (f.still z) m (f.stops (f.still z) m h)

  -- what is known of the lines after work
  abbrev Tied : Work A → Lines → A → S → Type 0
  Tied w m a t = (n : Lines) × Partly w m n × stands t n × (stopped t ≡ false → Worked w m a n)

  -- the first operation was done, or no work was done at all
  first : (w : Work A) (p : Work A) (m : Lines) {s t u : S} {a : A} {o : Op} → step s o t → Did step p t a u → stands s m → (stopped t ≡ false → Tied w m a u)
      → (b : Bool) → stopped t ≡ b → Tied w m a u
  first w p m {u} x d h more true z = let y = did_still d z m ((c _ _ _ x).stops z m h) in (m, p_here, y.0, λ e. absurd (both_ways (stopped u) e y.1))
  first w p m x d h more false z = more z

  pub did_ties : {w : Work A} {s : S} {a : A} {t : S} → Did step w s a t → (m : Lines) → stands s m → Tied w m a t
  did_ties d_end m h = (m, p_here, h, λ e. w_end)
  did_ties (d_load {l} {k} {v} {f} {t} {a} x d) m h =
      first (load l k f) (f v) m x d h
      (λ z.
      let y = (c _ _ _ x).goes z m h in
      let q = did_ties d m y.1 in
      (q.0, p_load (subst (λ v'. Partly (f v') m q.0) y.0 q.1), q.2, λ e. w_load (subst (λ v'. Worked (f v') m a q.0) y.0 (q.3 e))))
      (stopped t) refl
  did_ties (d_store {l} {k} {v} {p} {t} x d) m h =
      first (store l k v p) p m x d h (λ z. let q = did_ties d _ ((c _ _ _ x).goes z m h).1 in (q.0, p_store q.1, q.2, λ e. w_store (q.3 e))) (stopped t) refl
  did_ties (d_push {l} {p} {t} x d) m h =
      first (push l p) p m x d h (λ z. let q = did_ties d _ ((c _ _ _ x).goes z m h).1 in (q.0, p_push q.1, q.2, λ e. w_push (q.3 e))) (stopped t) refl
  did_ties (d_fence {p} {t} x d) m h =
      first (fence p) p m x d h (λ z. let q = did_ties d _ ((c _ _ _ x).goes z m h).1 in (q.0, p_fence q.1, q.2, λ e. w_fence (q.3 e))) (stopped t) refl
