-- Expressions in the flat form, by their last unit. Assumes nothing.
use Rattle.std.specs.Prelude.{◌≡◌, ℕ, ◌+◌, ◌-◌, ◌*◌, ◌<◌, ◌≤◌, Bool, true, false, List, ◌++◌, drop, Some, None, Option, slice_index_or}
use Rattle.plans.specs.Plan.{Expr, expr_size}
use Rattle.plans.specs.Flat.{code_of}
use Rattle.text.specs.Token.{Op}
use Rattle.text.specs.Kinds.{op_kind}

-- whether n is not above m
abbrev pub Room : Bool → ℕ → ℕ → Type 0
Room true n m = n ≤ m
Room false n m = m < n

-- the units of e stand at `from`, and the last of them, the root, is here
pub record Rooted (ws : List ℕ) (root : ℕ) (e : Expr) : Type 0 where
  pub from : ℕ
  pub rest : List ℕ
  pub is : drop from ws ≡ code_of e ++ rest
  pub ends : root + 4 ≡ from + 4 * expr_size e

-- the root is the operation o of a and b
pub record Operation (ws : List ℕ) (root : ℕ) (o : Op) (a b : Expr) : Type 0 where
  pub kind : slice_index_or ws root 0 ≡ op_kind o
  pub units : slice_index_or ws (root + 1) 0 ≡ expr_size b
  pub room : 4 + 4 * expr_size b ≤ root
  pub left : Rooted ws (root - (4 + 4 * expr_size b)) a
  pub right : Rooted ws (root - 4) b

-- where the expression begins that ends here
abbrev pub FirstOf : Option ℕ → List ℕ → ℕ → Type 0
FirstOf (Some a) ws root = (a ≤ root) × ((e : Expr) (x : Rooted ws root e) → a ≡ x.from)
FirstOf None ws root = (e : Expr) → Rooted ws root e → ⊥

abbrev pub FirstBefore : Option ℕ → List ℕ → ℕ → ℕ → Type 0
FirstBefore (Some a) ws root n = (a ≤ root) × ((e : Expr) (l : ℕ) → l + 4 + 4 * n ≡ root → (x : Rooted ws l e) → a ≡ x.from)
FirstBefore None ws root n = (e : Expr) (l : ℕ) → l + 4 + 4 * n ≡ root → Rooted ws l e → ⊥
