-- Readers of statements and of parts, piece by piece. Assumes nothing.
use Rattle.std.specs.Prelude.{◌≡◌, ℕ, suc, ◌+◌, ◌*◌, ◌<◌, Bool, not, ◌&&◌, List, ◌++◌, length, take, Ok, Err, Result, ◌==◌, nat_le, nat_lt, slice_set}
use Rattle.plans.specs.Plan.{Name, Expr, Stmt, Set, Do, Hear, If, While, Guard, Block, stmt_size, size_of}
use Rattle.plans.specs.Flat.{draft_stmt, draft_of}
use Rattle.text.specs.Token as token
use Rattle.text.specs.Token.{Got, fails, got}
use Rattle.text.specs.Lexer.{Lexed}
use Rattle.text.specs.Parser.{and_then, if_ok, expr_s, args_s, list_s, key_s, assign_s, stmt_s, block_s}
use Rattle.text.specs.Grammar.{do_ok}
use Rattle.text.specs.Ahead.{ahead}
use Rattle.reading.specs.declared.error.NoPlan.{NoPlan}
use Rattle.reading.specs.declared.exprs.Cursor.{Cursor}
use Rattle.reading.specs.Took.{Family, Took, Bars}
use Rattle.reading.specs.Tokens.{one_key, one_same, one_number, one_variable, one_name}

-- what a reader leaves: behind the words that were there, those of what it took; or what it takes is too large for the room
pub record ReadItem {A : Type 0} (code : A → List ℕ) (p : Family A) (l : Lexed) (text pre : List ℕ) (c : Cursor) (ys : List ℕ) : Type 0 where
  pub item : A
  pub took : Took p item l (ahead text c.pos)
  pub words : take c.len ys ≡ pre ++ code item

abbrev pub Large : {A : Type 0} → (A → ℕ) → (room len : ℕ) → A → Type 0
Large size room len a = room < len + 4 * size a

abbrev pub Read : {A : Type 0} → (A → List ℕ) → (A → ℕ) → Result Cursor NoPlan → Family A → Lexed → (text pre ys : List ℕ) → Type 0
Read code size (Ok c) p l text pre ys = ReadItem code p l text pre c ys
Read code size (Err e) p l text pre ys = Bars p (Large size (length ys) (length pre)) l

abbrev pub ReadStmt : Result Cursor NoPlan → Family Stmt → Lexed → (text pre ys : List ℕ) → Type 0
ReadStmt = Read draft_stmt stmt_size

abbrev pub ReadPart : Result Cursor NoPlan → Family Block → Lexed → (text pre ys : List ℕ) → Type 0
ReadPart = Read draft_of size_of

-- four words of a list
abbrev pub put4 : List ℕ → ℕ → ℕ → ℕ → ℕ → ℕ → List ℕ
put4 xs n a b c d = slice_set (slice_set (slice_set (slice_set xs n a) (n + 1) b) (n + 2) c) (n + 3) d

abbrev pub whole_expr : Family Expr
whole_expr n i ts = expr_s ts

-- a statement that is an expression and a word before it
abbrev pub expr_then : (Expr → Stmt) → Family Stmt
expr_then f n i ts = and_then (expr_s ts) (λ e us. got (f e) us)

abbrev pub set_behind : ℕ → Family Stmt
set_behind v n i us = and_then (one_same n i us) (λ x vs. expr_then (Set v) n i vs)

abbrev pub set_at : Family Stmt
set_at n i ts = and_then (one_variable n i ts) (λ v us. set_behind v n i us)

-- a part up to what does not belong to it, and one in braces
abbrev pub part_at : Family Block
part_at n i ts = block_s (suc n) ts

abbrev pub closed_at : Family Block
closed_at n i us = and_then (part_at n i us) (λ b vs. and_then (one_key token.END n i vs) (λ x ws. got b ws))

abbrev pub opened_at : Family Block
opened_at n i ts = and_then (one_key token.BEGIN n i ts) (λ x us. closed_at n i us)

abbrev pub other_at : Family Block
other_at n i ts = and_then (one_key token.ELSE n i ts) (λ x us. opened_at n i us)

abbrev pub if_else : Expr → Block → Family Stmt
if_else e a n i ts = and_then (other_at n i ts) (λ b us. got (If e a b) us)

abbrev pub if_behind : Expr → Family Stmt
if_behind e n i ts = and_then (opened_at n i ts) (λ a us. if_else e a n i us)

abbrev pub if_at : Family Stmt
if_at n i ts = and_then (expr_s ts) (λ e us. if_behind e n i us)

abbrev pub while_behind : Expr → Family Stmt
while_behind e n i ts = and_then (opened_at n i ts) (λ a us. got (While e a) us)

abbrev pub while_at : Family Stmt
while_at n i ts = and_then (expr_s ts) (λ e us. while_behind e n i us)

abbrev pub guard_else : Block → Family Stmt
guard_else a n i ts = and_then (other_at n i ts) (λ b us. got (Guard a b) us)

abbrev pub guard_at : Family Stmt
guard_at n i ts = and_then (opened_at n i ts) (λ a us. guard_else a n i us)

-- any statement
abbrev pub stmt_at : Family Stmt
stmt_at n i ts = stmt_s (λ us. block_s n us) ts

-- behind its first word; behind the variable that it begins with
abbrev pub key_at : token.Key → Family Stmt
key_at k n i ts = key_s (λ us. block_s (suc n) us) k ts

abbrev pub assign_at : ℕ → Family Stmt
assign_at v n i ts = assign_s v ts

-- behind a variable and =: do, a kind and an opening bracket; the arguments; tries and pause
abbrev pub front_open : ℕ → Family ℕ
front_open k n i ts = and_then (one_key token.OPEN n i ts) (λ x us. got k us)

abbrev pub front_kind : Family ℕ
front_kind n i ts = and_then (one_number n i ts) (λ k us. front_open k n i us)

abbrev pub front_at : Family ℕ
front_at n i ts = and_then (one_key token.DO n i ts) (λ x us. front_kind n i us)

-- how often, and how long between
pub record Times : Type 0 where
  pub tries : ℕ
  pub pause : ℕ

abbrev pub back_pause : ℕ → Family Times
back_pause t n i ts = and_then (one_number n i ts) (λ p us. got (record { tries = t; pause = p }) us)

abbrev pub back_then : ℕ → Family Times
back_then t n i ts = and_then (one_key token.PAUSE n i ts) (λ x us. back_pause t n i us)

abbrev pub back_tries : Family Times
back_tries n i ts = and_then (one_number n i ts) (λ t us. back_then t n i us)

abbrev pub back_at : Family Times
back_at n i ts = and_then (one_key token.TRIES n i ts) (λ x us. back_tries n i us)

abbrev pub times_ok : Times → Bool
times_ok x = nat_lt 0 x.tries && nat_le x.tries 32 && nat_le x.pause 86400000

-- behind an argument, and behind the opening bracket
abbrev pub args_at : Family (List Expr)
args_at n i ts = args_s i ts

abbrev pub list_at : Family (List Expr)
list_at n i ts = list_s ts

abbrev pub task_done : ℕ → ℕ → List Expr → Times → Family Stmt
task_done v k es x n i ts = if_ok (do_ok k es x.tries x.pause) (got (Do v k es x.tries x.pause) ts)

abbrev pub task_args : ℕ → ℕ → List Expr → Family Stmt
task_args v k es n i ts = and_then (back_at n i ts) (λ x us. task_done v k es x n i us)

abbrev pub task_kind : ℕ → ℕ → Family Stmt
task_kind v k n i ts = and_then (list_at n i ts) (λ es us. task_args v k es n i us)

abbrev pub task_at : ℕ → Family Stmt
task_at v n i ts = and_then (front_at n i ts) (λ k us. task_kind v k n i us)

-- behind a variable and a comma: another variable, =, hear, a name, for; and how long
pub record Heard : Type 0 where
  pub other : ℕ
  pub name : Name

abbrev pub heard_for : ℕ → Name → Family Heard
heard_for w m n i ts = and_then (one_key token.FOR n i ts) (λ x us. got (record { other = w; name = m }) us)

abbrev pub heard_name : ℕ → Family Heard
heard_name w n i ts = and_then (one_name n i ts) (λ m us. heard_for w m n i us)

abbrev pub heard_hear : ℕ → Family Heard
heard_hear w n i ts = and_then (one_key token.HEAR n i ts) (λ x us. heard_name w n i us)

abbrev pub heard_same : ℕ → Family Heard
heard_same w n i ts = and_then (one_same n i ts) (λ x us. heard_hear w n i us)

abbrev pub heard_at : Family Heard
heard_at n i ts = and_then (one_variable n i ts) (λ w us. heard_same w n i us)

abbrev pub hear_done : ℕ → Heard → Expr → Family Stmt
hear_done v h e n i ts = if_ok (not (v == h.other)) (got (Hear v h.other h.name e) ts)

abbrev pub hear_for : ℕ → Heard → Family Stmt
hear_for v h n i ts = and_then (expr_s ts) (λ e us. hear_done v h e n i us)

abbrev pub hear_at : ℕ → Family Stmt
hear_at v n i ts = and_then (heard_at n i ts) (λ h us. hear_for v h n i us)
