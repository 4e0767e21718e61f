-- What the reader reads is in the grammar: statements, parts, plans. Assumes nothing.
use Rattle.std.proofs.Common.{◌≡◌, ℕ, zero, suc, Bool, true, false, cond, not, eqb, List, [], ◌∷◌, length}
use Rattle.plans.specs.Plan.{Stmt, Block}
use Rattle.text.specs.Token.{Key, SET, DO, TRIES, PAUSE, SLEEP, HEAR, FOR, IF, ELSE, WHILE, GUARD, RETURN, FAIL, NOT, OPEN, CLOSE, BEGIN, END, COMMA, SAME, Token, number, variable, name, op, key, Got, got}
use Rattle.text.specs.Grammar.{do_ok, IsExpr, More, close, comma, Args, none, some, IsStmt, set, does, sleep, hear, if, while, guard, return, fail, IsPart, end, next, IsPlan}
use Rattle.text.specs.Parser.{expr_s, closes, args_s, list_s, do_s, hear_s, assign_s, part_s, key_s, stmt_s, ended, block_s, plan_s}
use Rattle.text.proofs.Sound.{Holds, holds_got, holds_and, holds_after, holds_same, holds_number, holds_variable, holds_name, holds_ok, expr_sound}

-- a test that has failed leaves the other way
holds_cond : {A : Type 0} (Q : A → List Token → Type 0) (b : Bool) (g h : Got A) → Holds Q g → Holds Q h → Holds Q (cond b g h)
holds_cond Q true g h x y = x
holds_cond Q false g h x y = y

pub args_sound : (n : ℕ) (ts : List Token) → Holds (More ts) (args_s n ts)
unfolding args_s
args_sound zero ts = tt
args_sound (suc n) ts =
    holds_cond (More ts) (closes ts) _ _
    (holds_after (λ _. Unit {0}) More CLOSE ts _ tt (λ us _. close))
    (holds_after (λ _. Unit {0}) More COMMA ts _ tt
    (λ us _. holds_and (IsExpr us) (More (key COMMA ∷ us)) (expr_s us) _ (expr_sound us)
    (λ e vs x. holds_and (More vs) (More (key COMMA ∷ us)) (args_s n vs) _ (args_sound n vs) (λ es ws y. comma x y))))

pub list_sound : (ts : List Token) → Holds (Args ts) (list_s ts)
unfolding list_s
list_sound ts =
    holds_cond (Args ts) (closes ts) _ _
    (holds_after (λ _. Unit {0}) Args CLOSE ts _ tt (λ us _. none))
    (holds_and (IsExpr ts) (Args ts) (expr_s ts) _ (expr_sound ts)
    (λ e us x. holds_and (More us) (Args ts) (args_s (length us) us) _ (args_sound (length us) us) (λ es vs y. some x y)))

do_sound : (v : ℕ) (ts : List Token) → Holds (IsStmt (variable v ∷ op SAME ∷ ts)) (do_s v ts)
unfolding do_s
do_sound v ts =
    holds_after U (λ t. IsStmt (variable v ∷ op SAME ∷ t)) DO ts _ tt
    (λ t1 _. holds_number U (λ t. IsStmt (variable v ∷ op SAME ∷ key DO ∷ t)) t1 _ tt
    (λ k t2 _. holds_after U (λ t. IsStmt (variable v ∷ op SAME ∷ key DO ∷ number k ∷ t)) OPEN t2 _ tt
    (λ t3 _. holds_and (Args t3) (Q k t3) (list_s t3) _ (list_sound t3)
    (λ es t4 x. holds_after (Args t3 es) (λ _. Q k t3) TRIES t4 _ x
    (λ t5 x. holds_number (λ t. Args t3 es (key TRIES ∷ t)) (λ _. Q k t3) t5 _ x
    (λ n t6 x. holds_after (λ t. Args t3 es (key TRIES ∷ number n ∷ t)) (λ _. Q k t3) PAUSE t6 _ x
    (λ t7 x. holds_number (λ t. Args t3 es (key TRIES ∷ number n ∷ key PAUSE ∷ t)) (λ _. Q k t3) t7 _ x
    (λ p t8 x. holds_ok (Q k t3) (do_ok k es n p) _ (λ ok. does x ok)))))))))
  where
    U : List Token → Type 0
    U _ = Unit {0}

    Q : ℕ → List Token → Stmt → List Token → Type 0
    Q k t = IsStmt (variable v ∷ op SAME ∷ key DO ∷ number k ∷ key OPEN ∷ t)

hear_sound : (v : ℕ) (ts : List Token) → Holds (IsStmt (variable v ∷ key COMMA ∷ ts)) (hear_s v ts)
unfolding hear_s
hear_sound v ts =
    holds_variable (λ t. IsStmt (variable v ∷ key COMMA ∷ t)) ts _
    (λ w t1. holds_same (λ t. IsStmt (variable v ∷ key COMMA ∷ variable w ∷ t)) t1 _
    (λ t2. holds_after U (λ t. IsStmt (variable v ∷ key COMMA ∷ variable w ∷ op SAME ∷ t)) HEAR t2 _ tt
    (λ t3 _. holds_name (λ t. IsStmt (variable v ∷ key COMMA ∷ variable w ∷ op SAME ∷ key HEAR ∷ t)) t3 _
    (λ n t4. holds_after U (λ t. IsStmt (variable v ∷ key COMMA ∷ variable w ∷ op SAME ∷ key HEAR ∷ name n ∷ t)) FOR t4 _ tt
    (λ t5 _. holds_and (IsExpr t5) (IsStmt (variable v ∷ key COMMA ∷ variable w ∷ op SAME ∷ key HEAR ∷ name n ∷ key FOR ∷ t5)) (expr_s t5) _ (expr_sound t5)
    (λ e t6 x. holds_ok (IsStmt (variable v ∷ key COMMA ∷ variable w ∷ op SAME ∷ key HEAR ∷ name n ∷ key FOR ∷ t5)) (not (eqb v w)) _ (λ ok. hear ok x)))))))
  where
    U : List Token → Type 0
    U _ = Unit {0}

assign_sound : (v : ℕ) (ts : List Token) → Holds (IsStmt (variable v ∷ ts)) (assign_s v ts)
unfolding assign_s
assign_sound v [] = tt
assign_sound v (number n ∷ ts) = tt
assign_sound v (variable n ∷ ts) = tt
assign_sound v (name n ∷ ts) = tt
assign_sound v (op o ∷ ts) = holds_same (λ t. IsStmt (variable v ∷ t)) (op o ∷ ts) _ (λ us. do_sound v us)
assign_sound v (key k ∷ ts) = holds_after (λ _. Unit {0}) (λ t. IsStmt (variable v ∷ t)) COMMA (key k ∷ ts) _ tt (λ us _. hear_sound v us)

part_sound : {A : Type 0} (Q : A → List Token → Type 0) (p : List Token → Got Block) → ((ts : List Token) → Holds (IsPart ts) (p ts)) →
    (ts : List Token) (f : Block → List Token → Got A) → ((b : Block) (us : List Token) → IsPart ts b (key END ∷ us) → Holds Q (f b us)) → Holds Q (part_s p ts f)
unfolding part_s
part_sound Q p ps ts f h = holds_and (IsPart ts) Q (p ts) _ (ps ts) (λ b us x. holds_after (IsPart ts b) (λ _. Q) END us (f b) x (λ vs y. h b vs y))

key_sound : (p : List Token → Got Block) → ((ts : List Token) → Holds (IsPart ts) (p ts)) → (k : Key) (ts : List Token) → Holds (IsStmt (key k ∷ ts)) (key_s p k ts)
unfolding key_s
key_sound p ps SET ts =
    holds_variable (λ t. IsStmt (key SET ∷ t)) ts _
    (λ v us. holds_same (λ t. IsStmt (key SET ∷ variable v ∷ t)) us _
    (λ vs. holds_and (IsExpr vs) (IsStmt (key SET ∷ variable v ∷ op SAME ∷ vs)) (expr_s vs) _ (expr_sound vs) (λ e ws x. set x)))
key_sound p ps DO ts = tt
key_sound p ps TRIES ts = tt
key_sound p ps PAUSE ts = tt
key_sound p ps SLEEP ts = holds_and (IsExpr ts) (IsStmt (key SLEEP ∷ ts)) (expr_s ts) _ (expr_sound ts) (λ e ws x. sleep x)
key_sound p ps HEAR ts = tt
key_sound p ps FOR ts = tt
key_sound p ps IF ts =
    holds_and (IsExpr ts) (IsStmt (key IF ∷ ts)) (expr_s ts) _ (expr_sound ts)
    (λ e t1 x. holds_after (IsExpr ts e) (λ _. IsStmt (key IF ∷ ts)) BEGIN t1 _ x
    (λ t2 x. part_sound (IsStmt (key IF ∷ ts)) p ps t2 _
    (λ a t3 y. holds_after (λ t. IsPart t2 a (key END ∷ t)) (λ _. IsStmt (key IF ∷ ts)) ELSE t3 _ y
    (λ t4 y. holds_after (λ t. IsPart t2 a (key END ∷ key ELSE ∷ t)) (λ _. IsStmt (key IF ∷ ts)) BEGIN t4 _ y
    (λ t5 y. part_sound (IsStmt (key IF ∷ ts)) p ps t5 _ (λ b t6 z. if x y z))))))
key_sound p ps ELSE ts = tt
key_sound p ps WHILE ts =
    holds_and (IsExpr ts) (IsStmt (key WHILE ∷ ts)) (expr_s ts) _ (expr_sound ts)
    (λ e t1 x. holds_after (IsExpr ts e) (λ _. IsStmt (key WHILE ∷ ts)) BEGIN t1 _ x
    (λ t2 x. part_sound (IsStmt (key WHILE ∷ ts)) p ps t2 _ (λ a t3 y. while x y)))
key_sound p ps GUARD ts =
    holds_after (λ _. Unit {0}) (λ t. IsStmt (key GUARD ∷ t)) BEGIN ts _ tt
    (λ t2 _. part_sound (IsStmt (key GUARD ∷ key BEGIN ∷ t2)) p ps t2 _
    (λ a t3 y. holds_after (λ t. IsPart t2 a (key END ∷ t)) (λ _. IsStmt (key GUARD ∷ key BEGIN ∷ t2)) ELSE t3 _ y
    (λ t4 y. holds_after (λ t. IsPart t2 a (key END ∷ key ELSE ∷ t)) (λ _. IsStmt (key GUARD ∷ key BEGIN ∷ t2)) BEGIN t4 _ y
    (λ t5 y. part_sound (IsStmt (key GUARD ∷ key BEGIN ∷ t2)) p ps t5 _ (λ b t6 z. guard y z)))))
key_sound p ps RETURN ts = holds_and (IsExpr ts) (IsStmt (key RETURN ∷ ts)) (expr_s ts) _ (expr_sound ts) (λ e ws x. return x)
key_sound p ps FAIL ts = fail
key_sound p ps NOT ts = tt
key_sound p ps OPEN ts = tt
key_sound p ps CLOSE ts = tt
key_sound p ps BEGIN ts = tt
key_sound p ps END ts = tt
key_sound p ps COMMA ts = tt

pub stmt_sound : (p : List Token → Got Block) → ((ts : List Token) → Holds (IsPart ts) (p ts)) → (ts : List Token) → Holds (IsStmt ts) (stmt_s p ts)
unfolding stmt_s
stmt_sound p ps [] = tt
stmt_sound p ps (number n ∷ ts) = tt
stmt_sound p ps (variable v ∷ ts) = assign_sound v ts
stmt_sound p ps (name n ∷ ts) = tt
stmt_sound p ps (op o ∷ ts) = tt
stmt_sound p ps (key k ∷ ts) = key_sound p ps k ts

pub block_sound : (n : ℕ) (ts : List Token) → Holds (IsPart ts) (block_s n ts)
unfolding block_s
block_sound zero ts = tt
block_sound (suc n) ts =
    holds_cond (IsPart ts) (ended ts) _ _ end
    (holds_and (IsStmt ts) (IsPart ts) (stmt_s (λ us. block_s n us) ts) _ (stmt_sound (λ us. block_s n us) (λ us. block_sound n us) ts)
    (λ s us x. holds_and (IsPart us) (IsPart ts) (block_s n us) _ (block_sound n us) (λ b vs y. next x y)))

pub plan_sound : (ts : List Token) (b : Block) → plan_s ts ≡ got b [] → IsPlan ts b
unfolding plan_s
plan_sound ts b e = holds_got (IsPart ts) (plan_s ts) b [] (block_sound (suc (length ts)) ts) e
