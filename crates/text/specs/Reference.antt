-- The grammar once more, as a reference has it: which tokens are an expression, a statement, a part. Assumes nothing.
use Rattle.std.specs.Prelude.{◌≡◌, ℕ, suc, true, not, List, [], ◌∷◌, ◌++◌, ◌==◌}
use Rattle.plans.specs.Plan.{Name, Expr, Lit, Var, Plus, Minus, Times, Less, Same, Not, Stmt, Set, Do, Sleep, Hear, If, While, Guard, Return, FailNow, Block, done, then}
use Rattle.text.specs.Token.{SET, DO, TRIES, PAUSE, SLEEP, HEAR, FOR, IF, ELSE, WHILE, GUARD, RETURN, FAIL, NOT, OPEN, CLOSE, BEGIN, END, COMMA, PLUS, MINUS, TIMES, LESS, SAME, Token, number, variable, name, op, key}
use Rattle.text.specs.Grammar.{Level, unary, product, sum, compare, do_ok}

-- d: how deep round brackets may be nested
pub data Says : Level → ℕ → List Token → Expr → Type 0 where
  literal : {d : ℕ} (n : ℕ) → Says unary d (number n ∷ []) (Lit n)
  var : {d : ℕ} (v : ℕ) → Says unary d (variable v ∷ []) (Var v)
  negation : {d : ℕ} {xs : List Token} {e : Expr} → Says unary d xs e → Says unary d (key NOT ∷ xs) (Not e)
  bracket : {d : ℕ} {xs : List Token} {e : Expr} → Says compare d xs e → Says unary (suc d) (key OPEN ∷ (xs ++ (key CLOSE ∷ []))) e
  factor : {d : ℕ} {xs : List Token} {e : Expr} → Says unary d xs e → Says product d xs e
  times : {d : ℕ} {xs ys : List Token} {a b : Expr} → Says product d xs a → Says unary d ys b → Says product d (xs ++ (op TIMES ∷ ys)) (Times a b)
  term : {d : ℕ} {xs : List Token} {e : Expr} → Says product d xs e → Says sum d xs e
  plus : {d : ℕ} {xs ys : List Token} {a b : Expr} → Says sum d xs a → Says product d ys b → Says sum d (xs ++ (op PLUS ∷ ys)) (Plus a b)
  minus : {d : ℕ} {xs ys : List Token} {a b : Expr} → Says sum d xs a → Says product d ys b → Says sum d (xs ++ (op MINUS ∷ ys)) (Minus a b)
  side : {d : ℕ} {xs : List Token} {e : Expr} → Says sum d xs e → Says compare d xs e
  less : {d : ℕ} {xs ys : List Token} {a b : Expr} → Says compare d xs a → Says sum d ys b → Says compare d (xs ++ (op LESS ∷ ys)) (Less a b)
  same : {d : ℕ} {xs ys : List Token} {a b : Expr} → Says compare d xs a → Says sum d ys b → Says compare d (xs ++ (op SAME ∷ ys)) (Same a b)

abbrev pub AnExpr : List Token → Expr → Type 0
AnExpr xs e = Says compare 256 xs e

-- `, E , E`
pub data Further : List Token → List Expr → Type 0 where
  end : Further [] []
  comma : {xs ys : List Token} {e : Expr} {es : List Expr} → AnExpr xs e → Further ys es → Further (key COMMA ∷ (xs ++ ys)) (e ∷ es)

-- `E , E`, or nothing
pub data Exprs : List Token → List Expr → Type 0 where
  none : Exprs [] []
  some : {xs ys : List Token} {e : Expr} {es : List Expr} → AnExpr xs e → Further ys es → Exprs (xs ++ ys) (e ∷ es)

mutual
  pub data AStmt : List Token → Stmt → Type 0 where
    set : {xs : List Token} {v : ℕ} {e : Expr} → AnExpr xs e → AStmt (key SET ∷ variable v ∷ op SAME ∷ xs) (Set v e)
    does : {xs : List Token} {v k n p : ℕ} {es : List Expr} → Exprs xs es → do_ok k es n p ≡ true →
        AStmt (variable v ∷ op SAME ∷ key DO ∷ number k ∷ key OPEN ∷ (xs ++ (key CLOSE ∷ key TRIES ∷ number n ∷ key PAUSE ∷ number p ∷ []))) (Do v k es n p)
    sleep : {xs : List Token} {e : Expr} → AnExpr xs e → AStmt (key SLEEP ∷ xs) (Sleep e)
    hear : {xs : List Token} {v w : ℕ} {n : Name} {e : Expr} → not (v == w) ≡ true → AnExpr xs e →
        AStmt (variable v ∷ key COMMA ∷ variable w ∷ op SAME ∷ key HEAR ∷ name n ∷ key FOR ∷ xs) (Hear v w n e)
    if : {xs ys zs : List Token} {e : Expr} {a b : Block} → AnExpr xs e → APart ys a → APart zs b →
        AStmt (key IF ∷ (xs ++ (key BEGIN ∷ (ys ++ (key END ∷ key ELSE ∷ key BEGIN ∷ (zs ++ (key END ∷ []))))))) (If e a b)
    while : {xs ys : List Token} {e : Expr} {a : Block} → AnExpr xs e → APart ys a → AStmt (key WHILE ∷ (xs ++ (key BEGIN ∷ (ys ++ (key END ∷ []))))) (While e a)
    guard : {xs ys : List Token} {a b : Block} → APart xs a → APart ys b →
        AStmt (key GUARD ∷ key BEGIN ∷ (xs ++ (key END ∷ key ELSE ∷ key BEGIN ∷ (ys ++ (key END ∷ []))))) (Guard a b)
    return : {xs : List Token} {e : Expr} → AnExpr xs e → AStmt (key RETURN ∷ xs) (Return e)
    fail : AStmt (key FAIL ∷ []) FailNow

  pub data APart : List Token → Block → Type 0 where
    end : APart [] done
    next : {xs ys : List Token} {s : Stmt} {b : Block} → AStmt xs s → APart ys b → APart (xs ++ ys) (then s b)
