-- What work costs at most, whatever its loads give.
-- Assumes nothing.
use Rattle.std.specs.Prelude.{ℕ, ◌+◌, ◌≤◌}
use Rattle.device.specs.Lines.{Work, yields, load, store, push, fence}
use Rattle.device.specs.Does.{Op, Did, d_end, d_load, d_store, d_push, d_fence}

abbrev pub Any : {A : Type 0} → A → Type 0
Any a = Unit {0}

-- at most so many loads, stores, pushes and fences; and Q of what it yields
pub data Costs {A : Type 0} (Q : A → Type 0) : (loads stores pushes fences : ℕ) → Work A → Type 0 where
  c_end : {l s p f : ℕ} {a : A} → Q a → Costs Q l s p f (yields a)
  c_load : {l s p f l' : ℕ} {line word : ℕ} {k : ℕ → Work A} → l' + 1 ≤ l → ((v : ℕ) → Costs Q l' s p f (k v)) → Costs Q l s p f (load line word k)
  c_store : {l s p f s' : ℕ} {line word value : ℕ} {w : Work A} → s' + 1 ≤ s → Costs Q l s' p f w → Costs Q l s p f (store line word value w)
  c_push : {l s p f p' : ℕ} {line : ℕ} {w : Work A} → p' + 1 ≤ p → Costs Q l s p' f w → Costs Q l s p f (push line w)
  c_fence : {l s p f f' : ℕ} {w : Work A} → f' + 1 ≤ f → Costs Q l s p f' w → Costs Q l s p f (fence w)

-- what was done, counted
pub record Count : Type 0 where
  pub loads : ℕ
  pub stores : ℕ
  pub pushes : ℕ
  pub fences : ℕ

unfoldable pub count_of : {S : Type 0} {step : S → Op → S → Type 0} {A : Type 0} {w : Work A} {s t : S} {a : A} → Did step w s a t → Count
count_of d_end = record { loads = 0; stores = 0; pushes = 0; fences = 0 }
count_of (d_load x d) = let c = count_of d in record { loads = c.loads + 1; stores = c.stores; pushes = c.pushes; fences = c.fences }
count_of (d_store x d) = let c = count_of d in record { loads = c.loads; stores = c.stores + 1; pushes = c.pushes; fences = c.fences }
count_of (d_push x d) = let c = count_of d in record { loads = c.loads; stores = c.stores; pushes = c.pushes + 1; fences = c.fences }
count_of (d_fence x d) = let c = count_of d in record { loads = c.loads; stores = c.stores; pushes = c.pushes; fences = c.fences + 1 }

abbrev pub Below : Count → (loads stores pushes fences : ℕ) → Type 0
Below c l s p f = (c.loads ≤ l) × (c.stores ≤ s) × (c.pushes ≤ p) × (c.fences ≤ f)

-- what the work costs bounds what was done: the operations of every run, counted
abbrev pub CostsBound : {S : Type 0} (step : S → Op → S → Type 0) (A : Type 0) → Type 0
CostsBound {S} step A =
    (w : Work A) (l s p f : ℕ) → Costs Any l s p f w → (u v : S) (a : A) (d : Did step w u a v) → Below (count_of d) l s p f
