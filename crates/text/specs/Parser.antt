-- A reader of tokens. Assumes nothing.
use Rattle.std.specs.Prelude.{ℕ, zero, suc, Bool, true, false, cond, not, List, [], ◌∷◌, length, ◌==◌}
use Rattle.plans.specs.Plan.{Name, Expr, Lit, Var, Plus, Minus, Times, Less, Same, Not, Stmt, Set, Do, Sleep, Hear, If, While, Guard, Return, FailNow, Block, done, then}
use Rattle.text.specs.Token.{Key, SET, DO, TRIES, PAUSE, SLEEP, HEAR, FOR, IF, ELSE, WHILE, GUARD, RETURN, FAIL, NOT, OPEN, CLOSE, BEGIN, END, COMMA, PLUS, MINUS, TIMES, LESS, SAME, Token, number, variable, name, op, key, Got, fails, got}
use Rattle.text.specs.Grammar.{do_ok}

unfoldable pub and_then : {A B : Type 0} → Got A → (A → List Token → Got B) → Got B
and_then fails f = fails
and_then (got a ts) f = f a ts

abbrev pub Parser : Type 0
Parser = List Token → Got Expr

pub data Join : Type 0 where
  joins : (Expr → Expr → Expr) → Join
  ends : Join

unfoldable pub on_join : {A : Type 0} → Join → A → ((Expr → Expr → Expr) → A) → A
on_join ends a f = a
on_join (joins j) a f = f j

unfoldable pub product_op : Token → Join
product_op (number n) = ends
product_op (variable n) = ends
product_op (name n) = ends
product_op (key n) = ends
product_op (op PLUS) = ends
product_op (op MINUS) = ends
product_op (op TIMES) = joins Times
product_op (op LESS) = ends
product_op (op SAME) = ends

unfoldable pub sum_op : Token → Join
sum_op (number n) = ends
sum_op (variable n) = ends
sum_op (name n) = ends
sum_op (key n) = ends
sum_op (op PLUS) = joins Plus
sum_op (op MINUS) = joins Minus
sum_op (op TIMES) = ends
sum_op (op LESS) = ends
sum_op (op SAME) = ends

unfoldable pub compare_op : Token → Join
compare_op (number n) = ends
compare_op (variable n) = ends
compare_op (name n) = ends
compare_op (key n) = ends
compare_op (op PLUS) = ends
compare_op (op MINUS) = ends
compare_op (op TIMES) = ends
compare_op (op LESS) = joins Less
compare_op (op SAME) = joins Same

-- operands of p joined from the left: the first is e
unfoldable pub more_s : (Token → Join) → Parser → ℕ → Expr → List Token → Got Expr
more_s j p zero e ts = got e ts
more_s j p (suc m) e [] = got e []
more_s j p (suc m) e (t ∷ ts) = on_join (j t) (got e (t ∷ ts)) (λ f. and_then (p ts) (λ b us. more_s j p m (f e b) us))

unfoldable pub chain_s : (Token → Join) → Parser → Parser
chain_s j p ts = and_then (p ts) (λ e us. more_s j p (length us) e us)

unfoldable pub code_of : Key → ℕ
code_of SET = 0
code_of DO = 1
code_of TRIES = 2
code_of PAUSE = 3
code_of SLEEP = 4
code_of HEAR = 5
code_of FOR = 6
code_of IF = 7
code_of ELSE = 8
code_of WHILE = 9
code_of GUARD = 10
code_of RETURN = 11
code_of FAIL = 12
code_of NOT = 13
code_of OPEN = 14
code_of CLOSE = 15
code_of BEGIN = 16
code_of END = 17
code_of COMMA = 18

-- the tokens behind this word or sign
unfoldable pub after : {A : Type 0} → Key → List Token → (List Token → Got A) → Got A
after k [] f = fails
after k (number n ∷ ts) f = fails
after k (variable v ∷ ts) f = fails
after k (name n ∷ ts) f = fails
after k (op o ∷ ts) f = fails
after k (key l ∷ ts) f = cond (code_of k == code_of l) (f ts) fails

unfoldable pub after_same : {A : Type 0} → List Token → (List Token → Got A) → Got A
after_same [] f = fails
after_same (number n ∷ ts) f = fails
after_same (variable v ∷ ts) f = fails
after_same (name n ∷ ts) f = fails
after_same (op PLUS ∷ ts) f = fails
after_same (op MINUS ∷ ts) f = fails
after_same (op TIMES ∷ ts) f = fails
after_same (op LESS ∷ ts) f = fails
after_same (op SAME ∷ ts) f = f ts
after_same (key l ∷ ts) f = fails

unfoldable pub with_number : {A : Type 0} → List Token → (ℕ → List Token → Got A) → Got A
with_number [] f = fails
with_number (number n ∷ ts) f = f n ts
with_number (variable v ∷ ts) f = fails
with_number (name n ∷ ts) f = fails
with_number (op o ∷ ts) f = fails
with_number (key l ∷ ts) f = fails

unfoldable pub with_variable : {A : Type 0} → List Token → (ℕ → List Token → Got A) → Got A
with_variable [] f = fails
with_variable (number n ∷ ts) f = fails
with_variable (variable v ∷ ts) f = f v ts
with_variable (name n ∷ ts) f = fails
with_variable (op o ∷ ts) f = fails
with_variable (key l ∷ ts) f = fails

unfoldable pub with_name : {A : Type 0} → List Token → (Name → List Token → Got A) → Got A
with_name [] f = fails
with_name (number n ∷ ts) f = fails
with_name (variable v ∷ ts) f = fails
with_name (name n ∷ ts) f = f n ts
with_name (op o ∷ ts) f = fails
with_name (key l ∷ ts) f = fails

unfoldable pub if_ok : {A : Type 0} → Bool → Got A → Got A
if_ok true g = g
if_ok false g = fails

unfoldable pub levels : Parser → Parser
levels p = chain_s compare_op (chain_s sum_op (chain_s product_op p))

-- behind an opening bracket, with so much depth left and the readers of what stands in it
unfoldable pub in_bracket : ℕ → (ℕ → Parser) → Parser
in_bracket zero p ts = fails
in_bracket (suc d) p ts = and_then (levels (p d) ts) (λ e us. after CLOSE us (got e))

unfoldable pub by_word : Key → (negation bracket : Got Expr) → Got Expr
by_word SET f g = fails
by_word DO f g = fails
by_word TRIES f g = fails
by_word PAUSE f g = fails
by_word SLEEP f g = fails
by_word HEAR f g = fails
by_word FOR f g = fails
by_word IF f g = fails
by_word ELSE f g = fails
by_word WHILE f g = fails
by_word GUARD f g = fails
by_word RETURN f g = fails
by_word FAIL f g = fails
by_word NOT f g = f
by_word OPEN f g = g
by_word CLOSE f g = fails
by_word BEGIN f g = fails
by_word END f g = fails
by_word COMMA f g = fails

unfoldable pub unary_s : ℕ → ℕ → Parser
unary_s zero d ts = fails
unary_s (suc n) d [] = fails
unary_s (suc n) d (number k ∷ ts) = got (Lit k) ts
unary_s (suc n) d (variable v ∷ ts) = got (Var v) ts
unary_s (suc n) d (name k ∷ ts) = fails
unary_s (suc n) d (op o ∷ ts) = fails
unary_s (suc n) d (key k ∷ ts) = by_word k (and_then (unary_s n d ts) (λ e us. got (Not e) us)) (in_bracket d (λ c. unary_s n c) ts)

unfoldable pub expr_s : Parser
expr_s ts = levels (unary_s (length ts) 256) ts

unfoldable pub closes : List Token → Bool
closes [] = false
closes (number n ∷ ts) = false
closes (variable v ∷ ts) = false
closes (name n ∷ ts) = false
closes (op o ∷ ts) = false
closes (key k ∷ ts) = code_of CLOSE == code_of k

-- behind an argument: `, E` again and again, and `)`
unfoldable pub args_s : ℕ → List Token → Got (List Expr)
args_s zero ts = fails
args_s (suc n) ts =
    cond (closes ts) (after CLOSE ts (got [])) (after COMMA ts (λ us. and_then (expr_s us) (λ e vs. and_then (args_s n vs) (λ es ws. got (e ∷ es) ws))))

unfoldable pub list_s : List Token → Got (List Expr)
list_s ts = cond (closes ts) (after CLOSE ts (got [])) (and_then (expr_s ts) (λ e us. and_then (args_s (length us) us) (λ es vs. got (e ∷ es) vs)))

unfoldable pub do_s : ℕ → List Token → Got Stmt
do_s v ts = after DO ts (λ t1. with_number t1 (λ k t2. after OPEN t2 (λ t3. and_then (list_s t3) (λ es t4. after TRIES t4 (λ t5. with_number t5 (λ n t6. after PAUSE t6 (λ t7. with_number t7 (λ p t8. if_ok (do_ok k es n p) (got (Do v k es n p) t8)))))))))

unfoldable pub hear_s : ℕ → List Token → Got Stmt
hear_s v ts = with_variable ts (λ w t1. after_same t1 (λ t2. after HEAR t2 (λ t3. with_name t3 (λ n t4. after FOR t4 (λ t5. and_then (expr_s t5) (λ e t6. if_ok (not (v == w)) (got (Hear v w n e) t6)))))))

-- a statement that begins with a variable, behind it
unfoldable pub assign_s : ℕ → List Token → Got Stmt
assign_s v [] = fails
assign_s v (number n ∷ ts) = fails
assign_s v (variable w ∷ ts) = fails
assign_s v (name n ∷ ts) = fails
assign_s v (op o ∷ ts) = after_same (op o ∷ ts) (do_s v)
assign_s v (key k ∷ ts) = after COMMA (key k ∷ ts) (hear_s v)

-- a part in braces: from behind the opening one to behind the closing one
unfoldable pub part_s : {A : Type 0} → (List Token → Got Block) → List Token → (Block → List Token → Got A) → Got A
part_s p ts f = and_then (p ts) (λ b us. after END us (f b))

unfoldable pub key_s : (List Token → Got Block) → Key → List Token → Got Stmt
key_s p SET ts = with_variable ts (λ v us. after_same us (λ vs. and_then (expr_s vs) (λ e ws. got (Set v e) ws)))
key_s p DO ts = fails
key_s p TRIES ts = fails
key_s p PAUSE ts = fails
key_s p SLEEP ts = and_then (expr_s ts) (λ e us. got (Sleep e) us)
key_s p HEAR ts = fails
key_s p FOR ts = fails
key_s p IF ts = and_then (expr_s ts) (λ e t1. after BEGIN t1 (λ t2. part_s p t2 (λ a t3. after ELSE t3 (λ t4. after BEGIN t4 (λ t5. part_s p t5 (λ b t6. got (If e a b) t6))))))
key_s p ELSE ts = fails
key_s p WHILE ts = and_then (expr_s ts) (λ e t1. after BEGIN t1 (λ t2. part_s p t2 (λ a t3. got (While e a) t3)))
key_s p GUARD ts = after BEGIN ts (λ t2. part_s p t2 (λ a t3. after ELSE t3 (λ t4. after BEGIN t4 (λ t5. part_s p t5 (λ b t6. got (Guard a b) t6)))))
key_s p RETURN ts = and_then (expr_s ts) (λ e us. got (Return e) us)
key_s p FAIL ts = got FailNow ts
key_s p NOT ts = fails
key_s p OPEN ts = fails
key_s p CLOSE ts = fails
key_s p BEGIN ts = fails
key_s p END ts = fails
key_s p COMMA ts = fails

unfoldable pub stmt_s : (List Token → Got Block) → List Token → Got Stmt
stmt_s p [] = fails
stmt_s p (number n ∷ ts) = fails
stmt_s p (variable v ∷ ts) = assign_s v ts
stmt_s p (name n ∷ ts) = fails
stmt_s p (op o ∷ ts) = fails
stmt_s p (key k ∷ ts) = key_s p k ts

-- does a part end here
unfoldable pub ended : List Token → Bool
ended [] = true
ended (number n ∷ ts) = false
ended (variable v ∷ ts) = false
ended (name n ∷ ts) = false
ended (op o ∷ ts) = false
ended (key k ∷ ts) = code_of END == code_of k

unfoldable pub block_s : ℕ → List Token → Got Block
block_s zero ts = fails
block_s (suc n) ts = cond (ended ts) (got done ts) (and_then (stmt_s (λ us. block_s n us) ts) (λ s us. and_then (block_s n us) (λ b vs. got (then s b) vs)))

unfoldable pub plan_s : List Token → Got Block
plan_s ts = block_s (suc (length ts)) ts
