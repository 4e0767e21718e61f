-- Expressions in the flat form: what their units do on a stack. Assumes nothing.
use Rattle.std.specs.Prelude.{◌≡◌, ℕ, zero, suc, ◌+◌, ◌-◌, ◌*◌, ◌%◌, ◌^◌, ◌≤◌, true, cond, List, [], ◌∷◌, ◌++◌, length, drop, Ok, Err, Result, ◌==◌, nat_lt, slice_index}
use Rattle.plans.specs.declared.eval.Join.{Join}
use Rattle.plans.specs.declared.eval.Join.TheVariants.{Sum, Difference, Product, Under, Equal}
use Rattle.plans.specs.declared.eval.Op.{Op}
use Rattle.plans.specs.declared.eval.Op.TheVariants.{Push, Load, Pair, Negate, Halt}
use Rattle.plans.specs.declared.eval.Stopped.{Stopped}
use Rattle.plans.specs.declared.eval.Damaged.{Damaged}
use Rattle.plans.specs.declared.eval.Valued.{Valued}
use Rattle.plans.specs.Plan.{Expr, expr_ok, expr_size}
use Rattle.plans.specs.Flat.{code_of}

-- what a unit says by its first word; every unit of no expression ends one
abbrev pub op_of : ℕ → Op
op_of w = cond (w == 16) Push (cond (w == 17) Load (cond (w == 18) (Pair Sum) (cond (w == 19) (Pair Difference) (cond (w == 20) (Pair Product) (cond (w == 21) (Pair Under) (cond (w == 22) (Pair Equal) (cond (w == 23) Negate Halt)))))))

abbrev pub join_of : Join → ℕ → ℕ → ℕ
join_of Sum a b = (a + b) % 2 ^ 64
join_of Difference a b = (a + (2 ^ 64 - b)) % 2 ^ 64
join_of Product a b = (a * b) % 2 ^ 64
join_of Under a b = cond (nat_lt a b) 1 0
join_of Equal a b = cond (a == b) 1 0

pub data Out : Type 0 where
  Bad : Out
  Stop : (stack : List ℕ) → (end : ℕ) → Out

-- the first n of a list, the last first: the stack in an array
abbrev pub tops : List ℕ → ℕ → List ℕ
tops xs zero = []
tops xs (suc n) = slice_index xs n ∷ tops xs n

pub data Stack : Type 0 where
  none : Stack
  some : List ℕ → Stack

unfoldable pub pushed : ℕ → ℕ → List ℕ → Stack
pushed room x st = cond (nat_lt (length st) room) (some (x ∷ st)) none

unfoldable pub loaded : ℕ → List ℕ → ℕ → List ℕ → Stack
loaded room vs v st = cond (nat_lt v (length vs)) (pushed room (slice_index vs v) st) none

unfoldable pub paired : Join → List ℕ → Stack
paired j [] = none
paired j (b ∷ []) = none
paired j (b ∷ a ∷ st) = some (join_of j a b ∷ st)

unfoldable pub negated : List ℕ → Stack
negated [] = none
negated (a ∷ st) = some (cond (a == 0) 1 0 ∷ st)

unfoldable pub onto : Stack → (List ℕ → Out) → Out
onto none f = Bad
onto (some st) f = f st

-- one unit: what it leaves on the stack
unfoldable pub acts : (room : ℕ) → (vars : List ℕ) → Op → (value : ℕ) → List ℕ → Stack
acts room vs Push x st = pushed room x st
acts room vs Load x st = loaded room vs x st
acts room vs (Pair j) x st = paired j st
acts room vs Negate x st = negated st
acts room vs Halt x st = none

unfoldable pub or_stop : Op → (stop go : Out) → Out
or_stop Push s g = g
or_stop Load s g = g
or_stop (Pair j) s g = g
or_stop Negate s g = g
or_stop Halt s g = s

-- what the words from pc on do, where a stack has room for so many
unfoldable pub run_e : (room : ℕ) → (vars : List ℕ) → (words : List ℕ) → (pc : ℕ) → (stack : List ℕ) → Out
run_e room vs [] pc st = Bad
run_e room vs (w ∷ []) pc st = Bad
run_e room vs (w ∷ x ∷ []) pc st = Bad
run_e room vs (w ∷ x ∷ y ∷ []) pc st = Bad
run_e room vs (w ∷ x ∷ y ∷ z ∷ ws) pc st = or_stop (op_of w) (Stop st pc) (onto (acts room vs (op_of w) x st) (run_e room vs ws (pc + 4)))

-- a run that leaves one value
pub data One : Type 0 where
  no_value : One
  one_value : (value end : ℕ) → One

unfoldable pub one_of : Out → One
one_of Bad = no_value
one_of (Stop [] e) = no_value
one_of (Stop (x ∷ []) e) = one_value x e
one_of (Stop (x ∷ y ∷ st) e) = no_value

abbrev pub Evaled : Result Valued Damaged → One → Type 0
Evaled (Ok v) o = o ≡ one_value v.value v.end
Evaled (Err e) o = o ≡ no_value

abbrev pub Ran : Result Stopped Damaged → Out → List ℕ → Type 0
Ran (Ok s) o stack = o ≡ Stop (tops stack s.count) s.end
Ran (Err e) o stack = o ≡ Bad

abbrev pub Within : Result Stopped Damaged → ℕ → Type 0
Within (Ok s) n = s.count ≤ n
Within (Err e) n = Unit {0}

abbrev pub look : List ℕ → ℕ → ℕ
look vs v = slice_index vs v

-- the expression's units stand at `at`, and one of no expression behind them; there are 64 variables, and the stack has room
pub record Meant (ws : List ℕ) (at : ℕ) (vs : List ℕ) (room : ℕ) (e : Expr) : Type 0 where
  pub kind : ℕ
  pub rest : List ℕ
  pub stands : drop at ws ≡ code_of e ++ (kind ∷ rest)
  pub whole : 3 ≤ length rest
  pub ends : Halt ≡ op_of kind
  pub good : expr_ok e ≡ true
  pub small : expr_size e ≤ room
  pub all : length vs ≡ 64

-- it is worth what the tree is worth
abbrev pub Worth : Result Valued Damaged → ℕ → ℕ → Type 0
Worth (Ok v) x b = (v.value ≡ x) × (v.end ≡ b)
Worth (Err e) x b = ⊥
