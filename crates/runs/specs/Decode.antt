-- The words of a flat form as what stands at each address. Assumes nothing.
use Rattle.std.specs.Prelude.{◌≡◌, ℕ, zero, suc, ◌+◌, ◌<◌, ◌≤◌, Bool, true, cond, ◌&&◌, List, [], ◌∷◌, length, drop, Some, None, Option, ◌==◌, nat_le, nat_lt, slice_index}
use Rattle.plans.specs.declared.eval.Join.{Join}
use Rattle.plans.specs.declared.eval.Join.TheVariants.{Sum, Difference, Product, Under, Equal}
use Rattle.plans.specs.declared.eval.Op.{Op as ExprOp}
use Rattle.plans.specs.declared.eval.Op.TheVariants.{Push, Load, Pair, Negate, Halt}
use Rattle.plans.specs.Eval.{op_of}
use Rattle.plans.specs.Plan.{Name, Expr, Lit, Var, Plus, Minus, Times, Less, Same, Not, Block, Flow, Busy, Rest, block_ok, size_of, moves, still}
use Rattle.plans.specs.Flat.{Way, Nowhere, To, laid}
use Rattle.runs.specs.declared.unit.Statement.{Statement}
use Rattle.runs.specs.declared.unit.Statement.TheVariants.{Set, Do, Sleep, Hear, If, While, Guard, Go, Return, Fail, End}
use Rattle.runs.specs.Machine.{Act, SetOp, DoOp, SleepOp, HearOp, IfOp, WhileOp, EnterOp, GoOp, ReturnOp, FailOp, EndOp, Wrong, op, Code, FlatFlow, fstill, fmoves, Is, Follows}
use Rattle.runs.specs.Units.{statement_at, deep_at}

-- expressions: the units run on a stack of trees, as the evaluator runs them on values -------

-- what is on the stack at the first unit of no expression, and where that is
pub data Grown : Type 0 where
  withered : Grown
  grown : (trees : List Expr) → (end : ℕ) → Grown

pub data Trees : Type 0 where
  no_trees : Trees
  trees : List Expr → Trees

abbrev pub join_tree : Join → Expr → Expr → Expr
join_tree Sum a b = Plus a b
join_tree Difference a b = Minus a b
join_tree Product a b = Times a b
join_tree Under a b = Less a b
join_tree Equal a b = Same a b

-- a number is below 2 to the 64, and there are 64 variables
unfoldable pub leaf : (ok : Bool) → (room : ℕ) → Expr → List Expr → Trees
leaf ok room e st = cond (ok && nat_lt (length st) room) (trees (e ∷ st)) no_trees

unfoldable pub paired_t : Join → List Expr → Trees
paired_t j [] = no_trees
paired_t j (b ∷ []) = no_trees
paired_t j (b ∷ a ∷ st) = trees (join_tree j a b ∷ st)

unfoldable pub negated_t : List Expr → Trees
negated_t [] = no_trees
negated_t (a ∷ st) = trees (Not a ∷ st)

unfoldable pub acts_t : (room : ℕ) → ExprOp → (value : ℕ) → List Expr → Trees
acts_t room Push x st = leaf (nat_lt x 18446744073709551616) room (Lit x) st
acts_t room Load x st = leaf (nat_lt x 64) room (Var x) st
acts_t room (Pair j) x st = paired_t j st
acts_t room Negate x st = negated_t st
acts_t room Halt x st = no_trees

unfoldable pub onto_t : Trees → (List Expr → Grown) → Grown
onto_t no_trees f = withered
onto_t (trees st) f = f st

unfoldable pub or_grown : ExprOp → (stop go : Grown) → Grown
or_grown Push s g = g
or_grown Load s g = g
or_grown (Pair j) s g = g
or_grown Negate s g = g
or_grown Halt s g = s

-- room: how many values the stack takes
unfoldable pub grow : (room : ℕ) → (words : List ℕ) → (pc : ℕ) → List Expr → Grown
grow room [] pc st = withered
grow room (w ∷ []) pc st = withered
grow room (w ∷ x ∷ []) pc st = withered
grow room (w ∷ x ∷ y ∷ []) pc st = withered
grow room (w ∷ x ∷ y ∷ z ∷ ws) pc st = or_grown (op_of w) (grown st pc) (onto_t (acts_t room (op_of w) x st) (grow room ws (pc + 4)))

abbrev pub trees_at : (room : ℕ) → List ℕ → ℕ → Grown
trees_at room ws a = grow room (drop a ws) a []

-- just one tree
unfoldable pub one_tree : Grown → (Expr → ℕ → Act) → Act
one_tree withered f = Wrong
one_tree (grown [] end) f = Wrong
one_tree (grown (e ∷ []) end) f = f e end
one_tree (grown (e ∷ d ∷ es) end) f = Wrong

-- the last of a stack is the first of a list
unfoldable pub back : List Expr → List Expr → List Expr
back [] es = es
back (e ∷ st) es = back st (e ∷ es)

-- as many trees as a task may have arguments
unfoldable pub all_trees : Grown → (List Expr → Act) → Act
all_trees withered f = Wrong
all_trees (grown st end) f = cond (nat_le (length st) 16) (f (back st [])) Wrong

-- statements -------------------------------------------------------------------

unfoldable pub way_from : Option ℕ → Way
way_from None = Nowhere
way_from (Some a) = To a

-- a name's letters, up to the first zero
unfoldable pub letters : ℕ → List ℕ → Name
letters zero ws = []
letters (suc k) [] = []
letters (suc k) (w ∷ ws) = cond (w == 0) [] (w ∷ letters k ws)

-- a loop's body, and the first part of an if, begin where the expression ends
unfoldable pub act_of : (room : ℕ) → List ℕ → Option Statement → Act
act_of room ws None = Wrong
act_of room ws (Some (Set v next e)) = cond (nat_lt v 64) (one_tree (trees_at room ws e) (λ t end. SetOp v t next)) Wrong
act_of room ws (Some (Do v next way task)) = cond (nat_lt v 64) (all_trees (trees_at room ws (task + 12)) (λ ts. DoOp v (slice_index ws task) ts (slice_index ws (task + 1)) (slice_index ws (task + 2)) next (way_from way))) Wrong
act_of room ws (Some (Sleep next e)) = one_tree (trees_at room ws e) (λ t end. SleepOp t next)
act_of room ws (Some (Hear v w next name)) = cond (nat_lt v 64 && nat_lt w 64) (one_tree (trees_at room ws (name + 64)) (λ t end. HearOp v w (letters 64 (drop name ws)) t next)) Wrong
act_of room ws (Some (If other e)) = one_tree (trees_at room ws e) (λ t end. IfOp t end other)
act_of room ws (Some (While next e)) = one_tree (trees_at room ws e) (λ t end. WhileOp t end next)
act_of room ws (Some (Guard first)) = EnterOp first
act_of room ws (Some (Go next)) = GoOp next
act_of room ws (Some (Return e)) = one_tree (trees_at room ws e) (λ t end. ReturnOp t)
act_of room ws (Some (Fail way)) = FailOp (way_from way)
act_of room ws (Some End) = EndOp

-- the code that words are, where a stack has room for so many values
abbrev pub code_in : (room : ℕ) → List ℕ → Code
code_in room ws a = op (deep_at ws a) (act_of room ws (statement_at ws a))

-- what is promised -------------------------------------------------------------

-- the flow at an address
abbrev pub flat_at : ℕ → Flow → FlatFlow
flat_at a x = record { id = x.id; key = x.key; phase = x.phase; here = a; vars = x.vars; steps = x.steps; into = x.into; box = x.box; size = x.size }

-- a flow that begins a plan is one at the plan's first word
abbrev pub BeginsAlike : Type 0
BeginsAlike = (b : Block) (room : ℕ) (x : Flow) → block_ok b ≡ true → size_of b ≤ room → x.phase ≡ Busy → x.frames ≡ Rest b ∷ [] → Is (code_in room (laid b)) (flat_at 0 x) x

-- whatever the words are, control stays in them
abbrev pub StaysInside : Type 0
StaysInside = (room : ℕ) (ws : List ℕ) (f : FlatFlow) (x : Flow) → Is (code_in room ws) f x → f.here < length ws

-- a whole run of a plan: so many moves from its beginning, on its words and by its meaning
abbrev pub RunsAlike : Type 0
RunsAlike = (b : Block) (room n now : ℕ) (x : Flow) → block_ok b ≡ true → size_of b ≤ room → x.phase ≡ Busy → x.frames ≡ Rest b ∷ [] → Follows (code_in room (laid b)) (fmoves (code_in room (laid b)) n now (fstill (flat_at 0 x))) (moves n now (still x))

pub record Stands : Type 0 where
  pub begins : BeginsAlike
  pub inside : StaysInside
  pub runs : RunsAlike
