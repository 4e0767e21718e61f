-- What a memory is told and answers, one operation at a time, and work that is done by such operations.
-- Assumes nothing.
use Rattle.std.specs.Prelude.{ℕ, zero, suc, ◌+◌, ◌-◌}
use Rattle.device.specs.Lines.{Work, yields, load, store, push, fence}

-- one operation, with what a load gave
pub data Op : Type 0 where
  Loaded : (line word value : ℕ) → Op
  Stored : (line word value : ℕ) → Op
  Pushed : (line : ℕ) → Op
  Fenced : Op

-- work, then more work with what it yields
unfoldable pub bind : {A B : Type 0} → Work A → (A → Work B) → Work B
bind (yields a) k = k a
bind (load l w f) k = load l w (λ v. bind (f v) k)
bind (store l w v p) k = store l w v (bind p k)
bind (push l p) k = push l (bind p k)
bind (fence p) k = fence (bind p k)

-- `for i in i..i + n { a = body(i, a) }`
unfoldable pub loop_from : {A : Type 0} → (ℕ → A → Work A) → (i n : ℕ) → A → Work A
loop_from body i zero a = yields a
loop_from body i (suc n) a = bind (body i a) (loop_from body (i + 1) n)

-- Did step w s a t: by steps of the memory the work w was done from s on; it yielded a, and left t.
-- Code that is generic in the memory can make a step only by calling the memory, so this fixes which operations it made, in which order.
pub data Did {S : Type 0} (step : S → Op → S → Type 0) {A : Type 0} : Work A → S → A → S → Type 0 where
  d_end : {a : A} {s : S} → Did step (yields a) s a s
  d_load : {l k v : ℕ} {f : ℕ → Work A} {s t u : S} {a : A} → step s (Loaded l k v) t → Did step (f v) t a u → Did step (load l k f) s a u
  d_store : {l k v : ℕ} {p : Work A} {s t u : S} {a : A} → step s (Stored l k v) t → Did step p t a u → Did step (store l k v p) s a u
  d_push : {l : ℕ} {p : Work A} {s t u : S} {a : A} → step s (Pushed l) t → Did step p t a u → Did step (push l p) s a u
  d_fence : {p : Work A} {s t u : S} {a : A} → step s Fenced t → Did step p t a u → Did step (fence p) s a u

-- what is left to do leads to the whole: whoever does p from t on has done q from s on
abbrev pub Leads : {S : Type 0} (step : S → Op → S → Type 0) {A B : Type 0} → Work A → S → (A → B) → Work B → S → Type 0
Leads {S} step {A} p t f q s = (a : A) (u : S) → Did step p t a u → Did step q s (f a) u

-- a loop's invariant in code: what is left of the loop leads to the whole loop
abbrev pub Turning : {S : Type 0} (step : S → Op → S → Type 0) {A : Type 0} (body : ℕ → A → Work A) (i n : ℕ) (a : A) (s : S) (a₀ : A) (s₀ : S) → Type 0
Turning step body i n a s a₀ s₀ = Leads step (loop_from body i (n - i) a) s (λ x. x) (loop_from body 0 n a₀) s₀

-- work in two parts, one after the other, is their bind
abbrev pub DidBinds : {S : Type 0} (step : S → Op → S → Type 0) (A B : Type 0) → Type 0
DidBinds {S} step A B =
    (w : Work A) (k : A → Work B) (s t u : S) (a : A) (b : B) → Did step w s a t → Did step (k a) t b u → Did step (bind w k) s b u
